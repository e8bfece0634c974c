-- How the first hole is found: past what is unheld before the place, to the first unheld position.
-- Assumes nothing.
use mathlib.Core.Path.{◌≡◌, refl, sym, ap, ◌∙◌}
use mathlib.Core.Bool.{Bool, true, false, not, ◌&&◌, true≢false}
use mathlib.Core.Logic.{⊎_elim}
use mathlib.Core.List.{List}
use Prim.Native.Nat.{ℕ, zero, suc, ◌+◌, ◌-◌, ◌≤◌, ◌<◌}
use native.Mathlib.Omega.{arith}
use borrow.Author.Tests.{not-true, not-false}
use Rattle.reason.proofs.Bools.{le_or_lt}
use Rattle.positions.specs.Spans.{first}
use Rattle.positions.specs.Map.{held}
use Rattle.positions.proofs.SpanLaws.{first_from, first_by, passed_over, found, first_is, first_skip, first_none}
use Rattle.holes.specs.Holes.{held_before, starts_hole, hole_start}

module _ (m : List ℕ) where
  pub held_no_start : (p : ℕ) → held m p ≡ true → starts_hole m p ≡ false
  held_no_start p e = rw e

  pub before_no_start : (p : ℕ) → held_before m p ≡ false → starts_hole m p ≡ false
  before_no_start p e = by (not (held m p)) e
    where
      by : (b : Bool) → held_before m p ≡ false → (b && held_before m p) ≡ false
      by true f = f
      by false f = refl

  pub before_is : (p : ℕ) → 0 < p → held_before m p ≡ held m (p - 1)
  before_is zero h = absurd (nothing h)
    where
      nothing : 0 < 0 → ⊥
      nothing h = omega arith
  before_is (suc p) h = let e : suc p - 1 ≡ p = omega arith in rw e

  -- the place where the first unheld position is found starts a hole, where none is unheld right before the search
  pub start_is_unheld : (p n : ℕ) → (held m p ≡ false → held_before m p ≡ true) → first (starts_hole m) p n ≡ first (λ q. not (held m q)) p n
  start_is_unheld p n begin =
      let u : ℕ → Bool = λ q. not (held m q) in
      first_is (starts_hole m) p n (first u p n) (first_from u p n) (first_by u p n)
      (λ r l g. held_no_start r (not-false (held m r) (passed_over u p n r l g)))
      (λ g. starts (first u p n) (first_from u p n) (not-true (held m (first u p n)) (found u p n g)) (λ r l k. not-false (held m r) (passed_over u p n r l k)))
    where
      starts : (q : ℕ) → p ≤ q → held m q ≡ false → ((r : ℕ) → p ≤ r → r < q → held m r ≡ true) → starts_hole m q ≡ true
      starts q l free all =
          ⊎_elim
          (λ g. let e : p ≡ q = omega arith in rw free (rw e at begin free))
          (λ g. rw free (before_is q (omega arith) ∙ all (q - 1) (omega arith) (omega arith)))
          (le_or_lt q p)

  -- where the position before the place is not held, the search can begin at the first held one
  pub start_past : (p n : ℕ) → held_before m p ≡ false → hole_start n m p ≡ hole_start n m (first (held m) p (n - p))
  start_past p n before =
      let low = first_from (held m) p (n - p) in
      let high = first_by (held m) p (n - p) in
      ⊎_elim
      (λ h. ap (hole_start n m) (sym (first_none (held m) p n h)))
      (λ h. first_skip (starts_hole m) p n (first (held m) p (n - p)) low (omega arith) (λ r l g. before_no_start r (unheld r l g)))
      (le_or_lt n p)
    where
      unheld : (r : ℕ) → p ≤ r → r < first (held m) p (n - p) → held_before m r ≡ false
      unheld r l g =
          ⊎_elim
          (λ k. let e : p ≡ r = omega arith in rw e at before)
          (λ k. before_is r (omega arith) ∙ passed_over (held m) p (n - p) (r - 1) (omega arith) (omega arith))
          (le_or_lt r p)

  -- the two ways that a search for a start goes: where no hole goes on at the place, and past the one that does
  pub start_at : (p n : ℕ) → (not (held_before m p) && not (held m p)) ≡ false → (r : ℕ) → r ≡ first (λ q. not (held m q)) p (n - p) → r ≡ hole_start n m p
  start_at p n none r e = e ∙ sym (start_is_unheld p (n - p) (λ free. by (held_before m p) (held m p) none free))
    where
      by : (a b : Bool) → (not a && not b) ≡ false → b ≡ false → a ≡ true
      by true b none free = refl
      by false true none free = absurd (true≢false free)
      by false false none free = absurd (true≢false none)

  pub start_after : (p n past : ℕ) → held_before m p ≡ false → past ≡ first (held m) p (n - p) → (r : ℕ)
      → r ≡ first (λ q. not (held m q)) past (n - past) → r ≡ hole_start n m p
  start_after p n past before is r e =
      e
      ∙ sym (start_past p n before
      ∙ ap (hole_start n m) (sym is)
      ∙ ⊎_elim
      (λ g. first_none (starts_hole m) past n g ∙ sym (first_none (λ q. not (held m q)) past n g))
      (λ g. start_is_unheld past (n - past) (λ free. absurd (true≢false (sym (there g) ∙ free))))
      (le_or_lt n past))
    where
      there : past < n → held m past ≡ true
      there g = let k : first (held m) p (n - p) < p + (n - p) = omega arith in rw is (found (held m) p (n - p) k)
