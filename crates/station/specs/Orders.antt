-- The orders of 01, "Numbered reasons", as it prints them: the numbers of each list of checks.
-- Assumes nothing.
use Rattle.std.specs.Prelude.{◌≡◌, List, [], ◌∷◌, ℕ}
use Rattle.reason.specs.Order.{Check, check}
use Rattle.ax25.specs.declared.Head.{Head}
use Rattle.frame.specs.Piece.{piece_order}
use Rattle.frame.specs.Entry.{entry_order}
use Rattle.reception.specs.Reception.{Reception}
use Rattle.reception.specs.Opening.{opening_checks}
use Rattle.reception.specs.Joining.{joining_checks}
use Rattle.holes.specs.Listing.{listing_checks}
use Rattle.request.specs.Reading.{request_order}
use Rattle.request.specs.Writing.{Wanted, fill_checks, start_checks}
use Rattle.record.specs.Saving.{saving_checks}
use Rattle.record.specs.Loading.{loading_checks}
use Rattle.taking.specs.Taking.{taking_order}

-- the numbers of checks, in their order
abbrev pub numbers_of : List Check → List ℕ
numbers_of [] = []
numbers_of (check holds n ∷ checks) = n ∷ numbers_of checks

pub record Orders : Type 0 where
  -- "Order in a frame: 1 (below 16), 2, 3, 4, 7 (over 255), 1 (information), 6, 5, 14, 7 (no data), 8": a piece has no
  -- 14 and 8, an entry no 7 (no data)
  pub in_a_piece : (frame : List ℕ) → numbers_of (piece_order frame) ≡ 1 ∷ 2 ∷ 3 ∷ 4 ∷ 7 ∷ 1 ∷ 6 ∷ 5 ∷ 7 ∷ []
  pub in_an_entry : (frame : List ℕ) → numbers_of (entry_order frame) ≡ 1 ∷ 2 ∷ 3 ∷ 4 ∷ 7 ∷ 1 ∷ 6 ∷ 5 ∷ 14 ∷ 8 ∷ []
  -- "A request frame: 1, 2, 3, 4, 7, 1, 5, 7, 10"
  pub in_a_request : (frame : List ℕ) → numbers_of (request_order frame) ≡ 1 ∷ 2 ∷ 3 ∷ 4 ∷ 7 ∷ 1 ∷ 5 ∷ 7 ∷ 10 ∷ []
  -- "Taking in a piece: the frame's reasons, then 7 (L), 12, 9, 10, 11"
  pub in_taking : (s : Reception) (frame : List ℕ)
      → numbers_of (taking_order s frame) ≡ 1 ∷ 2 ∷ 3 ∷ 4 ∷ 7 ∷ 1 ∷ 6 ∷ 5 ∷ 7 ∷ 7 ∷ 12 ∷ 9 ∷ 10 ∷ 11 ∷ []
  -- "Opening: 7, 12. Joining: 7 and 12 (each for either reception), 9, 11. Listing: 7, 12, 15"
  pub in_opening : (l : ℕ) (map buffer : List ℕ) → numbers_of (opening_checks l map buffer) ≡ 7 ∷ 12 ∷ []
  pub in_joining : (s t : Reception) → numbers_of (joining_checks s t) ≡ 7 ∷ 12 ∷ 9 ∷ 11 ∷ []
  pub in_listing : (l : ℕ) (map : List ℕ) (place : ℕ) → numbers_of (listing_checks l map place) ≡ 7 ∷ 12 ∷ 15 ∷ []
  -- "Writing a request: 2, 7, 12 (map), 15, 12 (target). A start request: 2, 12. Saving: 7, 12. Loading: 13, 12"
  pub in_writing : (w : Wanted) (place : ℕ) (target : List ℕ) → numbers_of (fill_checks w place target) ≡ 2 ∷ 7 ∷ 12 ∷ 15 ∷ 12 ∷ []
  pub in_starting : (head : Head) (target : List ℕ) → numbers_of (start_checks head target) ≡ 2 ∷ 12 ∷ []
  pub in_saving : (s : Reception) (target : List ℕ) → numbers_of (saving_checks s target) ≡ 7 ∷ 12 ∷ []
  pub in_loading : (saved map buffer : List ℕ) → numbers_of (loading_checks saved map buffer) ≡ 13 ∷ 12 ∷ []
