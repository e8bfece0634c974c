-- Laws of the holes that are listed, as a loop meets them: one question, and what the rest lists.
-- Assumes nothing.
use mathlib.Core.Path.{◌≡◌, refl, sym, ap, ◌∙◌}
use mathlib.Core.Bool.{false}
use mathlib.Core.Logic.{⊎_elim}
use mathlib.Core.List.{List, [], ◌∷◌}
use Prim.Native.Nat.{ℕ, zero, suc, ◌≤◌, ◌<◌}
use native.Mathlib.Omega.{arith}
use lib.ListN.{length}
use borrow.Author.Tests.{ltb-false}
use Rattle.reason.specs.Answer.{Answer, accepted, refused}
use Rattle.reason.proofs.Bools.{le_or_lt}
use Rattle.reason.proofs.OrderLaws.{not_both, accepted_only_if}
use Rattle.positions.specs.Map.{map_size}
use Rattle.holes.specs.declared.Hole.{Hole}
use Rattle.reception.specs.Reception.{longest, wrong_length}
use Rattle.holes.specs.Holes.{hole_start, hole_from, IsHole}
use Rattle.holes.specs.Listing.{listing_checks, listing}
use Rattle.holes.specs.EveryHole.{end_of, go_on, listed_from}
use Rattle.reception.proofs.OfferLaws.{right_length}
use Rattle.holes.proofs.GivenReasons.{lists_15, lists}
use Rattle.holes.proofs.HoleLaws.{hole_fixed, hole_behind, hole_is, hole_first, none_only_if, no_more}

module _ (l : ℕ) (map : List ℕ) (place : ℕ) where
  -- where a hole is listed, the length is in range and the map is long enough
  pub listed_needs : (hole : Hole) → listing l map place ≡ accepted hole → (wrong_length l ≡ false) × (map_size l ≤ length map)
  unfolding listing
  listed_needs hole e =
      let all = accepted_only_if (listing_checks l map place) (hole_from l map place) hole e in
      (all.0.0, ltb-false (length map) (map_size l) all.0.1.0)

  -- a hole is in the file, and has a position
  pub listed_bounds : (hole : Hole) → listing l map place ≡ accepted hole → (place < end_of hole) × (end_of hole ≤ l)
  listed_bounds hole e = let is = hole_is l map place hole e in (omega (arith, is.some, (hole_first l map place hole e).0), is.below)

  -- .. of a file that is not too long
  pub listed_within : (hole : Hole) → listing l map place ≡ accepted hole → end_of hole ≤ longest
  listed_within hole e = omega (arith, (listed_bounds hole e).1, (right_length l (listed_needs hole e).0).1)

  -- nothing listed: the list ends
  pub listed_none : (n k : ℕ) → listing l map place ≡ refused k → listed_from n l map place ≡ []
  listed_none zero k e = refl
  listed_none (suc n) k e = ap (λ (x : Answer Hole). go_on x (λ hole. listed_from n l map (end_of hole))) e

  -- a hole listed: it, and then what one question fewer lists from its end on
  pub listed_more : (n : ℕ) (hole : Hole) → listing l map place ≡ accepted hole → listed_from (suc n) l map place ≡ hole ∷ listed_from n l map (end_of hole)
  listed_more n hole e = ap (λ (x : Answer Hole). go_on x (λ h. listed_from n l map (end_of h))) e

  -- where a hole is listed, the first question was answered by one
  pub some_listed : (n : ℕ) → 1 ≤ length (listed_from n l map place) → (hole : Hole) × (listing l map place ≡ accepted hole)
  some_listed n h = by (listing l map place) refl
    where
      by : (x : Answer Hole) → listing l map place ≡ x → (hole : Hole) × (listing l map place ≡ accepted hole)
      by (accepted hole) e = (hole, e)
      by (refused k) e = let none : length (listed_from n l map place) ≡ 0 = ap length (listed_none n k e) in absurd (omega arith)

  -- from l on nothing is listed
  pub listed_beyond : (k : ℕ) → l ≤ place → listed_from k l map place ≡ []
  listed_beyond zero h = refl
  listed_beyond (suc k) h = by (listing l map place) refl
    where
      by : (x : Answer Hole) → listing l map place ≡ x → go_on x (λ hole. listed_from k l map (end_of hole)) ≡ []
      by (accepted hole) e = let w = listed_bounds hole e in absurd (omega (arith, w))
      by (refused n) e = refl

-- n questions list at most n holes
pub listed_most : (n l : ℕ) (map : List ℕ) (place : ℕ) → length (listed_from n l map place) ≤ n
listed_most zero l map place = omega arith
listed_most (suc n) l map place = by (listing l map place) (λ hole. listed_most n l map (end_of hole))
  where
    by : (x : Answer Hole) → ((hole : Hole) → length (listed_from n l map (end_of hole)) ≤ n) → length (go_on x (λ hole. listed_from n l map (end_of hole))) ≤ suc n
    by (accepted hole) rest = omega (arith, rest hole)
    by (refused k) rest = omega arith

-- where as many questions are asked as the file has positions: a hole listed, and then all that are listed from its end on
pub listed_next : (l : ℕ) (map : List ℕ) (place : ℕ) (hole : Hole) → listing l map place ≡ accepted hole
    → listed_from l l map place ≡ hole ∷ listed_from l l map (end_of hole)
listed_next zero map place hole e = let w = right_length 0 (listed_needs 0 map place hole e).0 in absurd (omega (arith, w))
listed_next (suc m) map place hole e =
    let w = listed_needs (suc m) map place hole e in
    let b = listed_bounds (suc m) map place hole e in
    ap (λ (x : Answer Hole). go_on x (λ h. listed_from m (suc m) map (end_of h))) e
    ∙ ap (λ (holes : List Hole). hole ∷ holes) (sym (no_more (suc m) map w.0 w.1 m (end_of hole) (omega (arith, b))))

-- of two holes, the one that starts no later ends no later
ends_no_later : (l : ℕ) (map : List ℕ) (a b : Hole) → IsHole l map a → IsHole l map b → a.start ≤ b.start → end_of a ≤ end_of b
ends_no_later l map a b is_a is_b h =
    ⊎_elim
    (λ (g : b.start ≤ a.start). omega (arith, ap end_of (hole_fixed l map a b is_a is_b (omega arith))))
    (λ (g : a.start < b.start). omega (arith, hole_behind l map a b is_a is_b g))
    (le_or_lt b.start a.start)

-- from a later place as many questions list no more holes
pub listed_fewer : (n l : ℕ) (map : List ℕ) (p q : ℕ) → p ≤ q → length (listed_from n l map q) ≤ length (listed_from n l map p)
listed_fewer zero l map p q h = omega arith
listed_fewer (suc n) l map p q h =
    by (listing l map q) refl (listing l map p) refl (λ a b k. listed_fewer n l map (end_of a) (end_of b) k)
  where
    by : (x : Answer Hole) → listing l map q ≡ x → (y : Answer Hole) → listing l map p ≡ y
        → ((a b : Hole) → end_of a ≤ end_of b → length (listed_from n l map (end_of b)) ≤ length (listed_from n l map (end_of a)))
        → length (go_on x (λ hole. listed_from n l map (end_of hole))) ≤ length (go_on y (λ hole. listed_from n l map (end_of hole)))
    by (refused k) e y f more = omega arith
    by (accepted b) e (accepted a) f more =
        let is_b = hole_is l map q b e in
        let from = (hole_first l map q b e).0 in
        let low : a.start ≤ b.start = (hole_first l map p a f).1 b is_b (omega (arith, from, h)) in
        omega (arith, more a b (ends_no_later l map a b (hole_is l map p a f) is_b low))
    by (accepted b) e (refused k) f more =
        let needs = listed_needs l map q b e in
        let from = (hole_first l map q b e).0 in
        ⊎_elim
        (λ w. absurd (none_only_if l map p (lists_15 l map p needs.0 needs.1 w) b (hole_is l map q b e) (omega (arith, from, h))))
        (λ w. absurd (not_both (hole_from l map p) k (lists l map p needs.0 needs.1 w) f))
        (le_or_lt l (hole_start l map p))
