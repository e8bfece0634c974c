-- Laws of a request's information: its holes one after the other, which reason is given, and acceptance when none holds.
-- Assumes nothing.
use mathlib.Core.Path.{◌≡◌, sym, ap, ap₂, ◌∙◌}
use mathlib.Core.Bool.{Bool, true, false, not, ◌&&◌}
use mathlib.Core.List.{List, [], ◌∷◌}
use Prim.Native.Nat.{ℕ, suc, ◌+◌, ◌-◌, ◌*◌, ◌≤◌, ◌<◌}
use native.Mathlib.Numerals.{add-one}
use native.Mathlib.Omega.{arith}
use lib.Dec.{leb, eqb}
use lib.ListN.{length, drop}
use borrow.Author.Tests.{lt-ltb, le-ltb, leb-true, eqb-true}
use Rattle.reason.proofs.Bools.{and_right}
use Rattle.reason.specs.Answer.{accepted, refused}
use Rattle.reason.specs.Order.{check, first_of}
use Rattle.reason.proofs.OrderLaws.{skip, stop, none_left}
use Rattle.octets.specs.Numbers.{byte_at, number_at}
use Rattle.octets.specs.Values.{values_from}
use Rattle.octets.proofs.NumberLaws.{number_drop}
use Rattle.ax25.specs.Head.{head_length}
use Rattle.ax25.specs.Information.{information_of}
use Rattle.holes.specs.declared.Hole.{Hole}
use Rattle.holes.specs.EveryHole.{end_of}
use Rattle.request.specs.declared.Asks.{Asks}
use Rattle.request.specs.declared.Asks.TheVariants.{Start, Holes}
use Rattle.request.specs.Request.{block_size, most_holes, holes_of_kind, before_holes, bytes_per_hole, hole_right, holes_right}
use Rattle.request.specs.Reading.{flags_allowed, asks_by, count_in, odd_bytes, count_right, hole_spelled, hole_in, holes_in, request_checks}

-- ---- the holes from an index on
module _ (s : List ℕ) (count : ℕ) where
  -- the holes that are left
  abbrev Left : ℕ → List Hole
  Left i = values_from (hole_in s) i (count - i)

  left_is : (i : ℕ) → i < count → Left i ≡ hole_in s i ∷ Left (suc i)
  left_is i h = let e : count - i ≡ suc (count - suc i) = omega arith in ap (values_from (hole_in s) i) e

  -- a hole that is right, and the rest decides
  pub right_then : (place i : ℕ) (hole : Hole) (whole : Bool) → i < count → hole ≡ hole_in s i → hole_right place hole ≡ true
      → holes_right place (Left i) ≡ whole → holes_right (hole.start + hole.length + 1) (Left (i + 1)) ≡ whole
  unfolding holes_right
  right_then place i hole whole h is right e =
      ap₂ (λ (p j : ℕ). holes_right p (Left j)) (add-one (end_of hole)) (add-one i)
      ∙ sym (ap (λ (b : Bool). b && holes_right (suc (end_of hole)) (Left (suc i))) right)
      ∙ sym (ap (λ (x : Hole). holes_right place (x ∷ Left (suc i))) (sym is))
      ∙ sym (ap (holes_right place) (left_is i h))
      ∙ e

  -- a hole that is not
  pub wrong_here : (place i : ℕ) (hole : Hole) (whole : Bool) → i < count → hole ≡ hole_in s i → hole_right place hole ≡ false
      → holes_right place (Left i) ≡ whole → false ≡ whole
  unfolding holes_right
  wrong_here place i hole whole h is wrong e =
      sym (ap (λ (b : Bool). b && holes_right (suc (end_of hole)) (Left (suc i))) wrong)
      ∙ sym (ap (λ (x : Hole). holes_right place (x ∷ Left (suc i))) (sym is))
      ∙ sym (ap (holes_right place) (left_is i h))
      ∙ e

  -- none left
  pub right_end : (place i : ℕ) (whole : Bool) → count ≤ i → holes_right place (Left i) ≡ whole → true ≡ whole
  unfolding holes_right
  right_end place i whole h e = let z : count - i ≡ 0 = omega arith in sym (ap (λ (n : ℕ). holes_right place (values_from (hole_in s) i n)) z) ∙ e

-- a hole in a part of a list
pub spelled_behind : (m : ℕ) (s : List ℕ) (at : ℕ) → hole_spelled (drop m s) at ≡ hole_spelled s (m + at)
unfolding hole_spelled
spelled_behind m s at =
    ap₂ (λ (x y : ℕ). record { start = x; length = y }) (number_drop 3 m s at) (number_drop 2 m s (at + 3) ∙ ap (number_at 2 s) (omega arith))

-- a hole by its index, at its place in the frame
pub in_frame : (frame : List ℕ) (index : ℕ) → hole_spelled frame (head_length + before_holes + index * bytes_per_hole) ≡ hole_in (information_of frame) index
in_frame frame index =
    let e : head_length + before_holes + index * bytes_per_hole ≡ head_length + (before_holes + index * bytes_per_hole) = omega arith in
    ap (hole_spelled frame) e ∙ sym (spelled_behind head_length frame (before_holes + index * bytes_per_hole))

-- whatever is asked for, there are at most 49 holes
pub most_of_kind : (asks : Asks) (n : ℕ) → holes_of_kind asks n ≡ true → n ≤ most_holes
most_of_kind Start n e = let z = eqb-true n 0 e in omega arith
most_of_kind Holes n e = leb-true n most_holes (and_right (leb 1 n) (leb n most_holes) e)

-- a right count is at most 49
pub count_most : (s : List ℕ) → count_right s ≡ true → count_in s ≤ most_holes
count_most s e =
    let asks = asks_by (byte_at s 0) in
    most_of_kind asks (count_in s) (and_right (eqb (odd_bytes s) 0) (holes_of_kind asks (count_in s)) e)

-- ---- which answer
module _ {A : Type 0} (s : List ℕ) (a : A) where
  pub reads_1 : length s < before_holes → first_of (request_checks s) a ≡ refused 1
  unfolding request_checks
  reads_1 h = stop _ _ _ (lt-ltb _ _ h)

  module _ (long : before_holes ≤ length s) where
    pub reads_5 : flags_allowed (byte_at s 0) ≡ false → first_of (request_checks s) a ≡ refused 5
    unfolding request_checks
    reads_5 h = skip _ _ _ (le-ltb _ _ long) ∙ stop _ _ _ (ap not h)

    module _ (flagged : flags_allowed (byte_at s 0) ≡ true) where
      pub reads_7 : (eqb (number_at 2 s 5) block_size && count_right s) ≡ false → first_of (request_checks s) a ≡ refused 7
      unfolding request_checks
      reads_7 h = skip _ _ _ (le-ltb _ _ long) ∙ skip _ _ _ (ap not flagged) ∙ stop _ _ _ (ap not h)

      module _ (sized : (eqb (number_at 2 s 5) block_size && count_right s) ≡ true) where
        past_7 : first_of (request_checks s) a ≡ first_of (check (not (holes_right 0 (holes_in s))) 10 ∷ []) a
        unfolding request_checks
        past_7 = skip _ _ _ (le-ltb _ _ long) ∙ skip _ _ _ (ap not flagged) ∙ skip _ _ _ (ap not sized)

        pub reads_10 : holes_right 0 (holes_in s) ≡ false → first_of (request_checks s) a ≡ refused 10
        reads_10 h = past_7 ∙ stop _ _ _ (ap not h)

        pub reads_request : holes_right 0 (holes_in s) ≡ true → first_of (request_checks s) a ≡ accepted a
        reads_request h = past_7 ∙ skip _ _ _ (ap not h) ∙ none_left _
