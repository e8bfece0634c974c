-- Listing a hole (01, "Reception"): the first that starts at a place or later.
-- Assumes nothing.
use Rattle.std.specs.Prelude.{List, [], ◌∷◌, ℕ, leb}
use Rattle.reason.specs.Answer.{Answer}
use Rattle.reason.specs.Order.{Check, check, first_of}
use Rattle.reception.specs.Reception.{wrong_length, short_map}
use Rattle.holes.specs.declared.Hole.{Hole}
use Rattle.holes.specs.Holes.{hole_start, hole_from}

-- "Listing: 7, 12, 15"
abbrev pub listing_checks : ℕ → List ℕ → ℕ → List Check
listing_checks l map place = check (wrong_length l) 7 ∷ check (short_map l map) 12 ∷ check (leb l (hole_start l map place)) 15 ∷ []

-- the answer: start and length of the hole, or the reason
unfoldable pub listing : ℕ → List ℕ → ℕ → Answer Hole
listing l map place = first_of (listing_checks l map place) (hole_from l map place)
