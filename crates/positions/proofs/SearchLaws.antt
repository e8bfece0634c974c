-- How a search that ends with the map is right for all positions below n: beyond the map none is held.
-- Assumes nothing.
use mathlib.Core.Path.{◌≡◌, sym, ap, ◌∙◌}
use mathlib.Core.Bool.{Bool, true, not}
use mathlib.Core.Logic.{⊎_elim}
use mathlib.Core.List.{List}
use Prim.Native.Nat.{ℕ, ◌-◌, ◌*◌, ◌≤◌, ◌<◌, min, max}
use native.Mathlib.Omega.{arith}
use lib.ListN.{length}
use Rattle.reason.proofs.Bools.{le_or_lt}
use Rattle.positions.specs.Spans.{first}
use Rattle.positions.specs.declared.Side.{Side}
use Rattle.positions.specs.declared.Side.TheVariants.{Held, Unheld}
use Rattle.positions.specs.Map.{held, on_side}
use Rattle.positions.proofs.SpanLaws.{first_from, first_by, passed_over, found, first_is, first_none, no_between}
use Rattle.positions.proofs.MapLaws.{held_past}
use Rattle.positions.proofs.SideLaws.{not_found}

module _ (m : List ℕ) (from n end : ℕ) (is : end ≡ min n (length m * 8)) where
  -- from the map's end on none is held ..
  pub none_held : from < n → end ≤ from → n ≡ first (held m) from (n - from)
  none_held h g = not_found (held m) from n n (omega arith) (omega arith) (λ q l k. held_past m q (omega arith))

  -- .. and the first position is not
  pub here_unheld : end ≤ from → from ≡ first (λ p. not (held m p)) from (n - from)
  here_unheld g =
      ⊎_elim
      (λ h. sym (first_none (λ p. not (held m p)) from n h))
      (λ h. sym
      (first_is (λ p. not (held m p)) from (n - from) from (omega arith) (omega arith) (λ q l k. absurd (no_between from q l k)) (λ _. ap not (held_past m from (omega arith)))))
      (le_or_lt n from)

  module _ (below : from < end) where
    -- a held position found before the map's end is the first one below n ..
    pub held_found : (r : ℕ) → r ≡ first (held m) from (end - from) → r < end → r ≡ first (held m) from (n - from)
    held_found r e h =
        let low = first_from (held m) from (end - from) in
        let there : held m (first (held m) from (end - from)) ≡ true = found (held m) from (end - from) (omega arith) in
        sym
        (first_is (held m) from (n - from) r (omega (arith, low, e)) (omega arith) (λ q l k. passed_over (held m) from (end - from) q l (omega (arith, k, e))) (λ _. ap (held m) e ∙ there))

    -- .. and where none is found there, none is below n
    pub held_nowhere : (r : ℕ) → r ≡ first (held m) from (end - from) → end ≤ r → n ≡ first (held m) from (n - from)
    held_nowhere r e h =
        not_found (held m) from n n (omega arith) (omega arith)
        (λ q l k. ⊎_elim
        (λ a. held_past m q (omega arith))
        (λ a. passed_over (held m) from (end - from) q l (omega (arith, a, e)))
        (le_or_lt end q))

    -- an unheld position found before the map's end is the first one below n, and so is the map's end
    pub unheld_found : (r : ℕ) → r ≡ first (λ p. not (held m p)) from (end - from) → r ≡ first (λ p. not (held m p)) from (n - from)
    unheld_found r e =
        let free : ℕ → Bool = λ p. not (held m p) in
        let low = first_from free from (end - from) in
        let high = first_by free from (end - from) in
        sym
        (first_is free from (n - from) r (omega (arith, low, e)) (omega (arith, high, e)) (λ q l k. passed_over free from (end - from) q l (omega (arith, k, e)))
        (λ b. ⊎_elim
        (λ a. ap not (held_past m r (omega (arith, a, b, high, e))))
        (λ a. ap free e ∙ found free from (end - from) (omega (arith, a, e)))
        (le_or_lt end r)))

  -- the answer of the search in the map, on either side: what it finds before the map's end, and where it finds none there
  pub unheld_told : (r : ℕ) → r ≡ first (λ p. not (held m p)) from (end - from) → r ≡ first (λ p. not (held m p)) from (n - from)
  unheld_told r e =
      ⊎_elim
      (λ h. e ∙ first_none (λ p. not (held m p)) from end h ∙ here_unheld h)
      (λ h. unheld_found h r e)
      (le_or_lt end from)

  pub found_told : (side : Side) (r : ℕ) → r ≡ first (on_side m side) from (end - from) → r < end → r ≡ first (on_side m side) from (n - from)
  found_told Held r e h = let low = first_from (held m) from (end - from) in held_found (omega (arith, low, e)) r e h
  found_told Unheld r e h = unheld_told r e

  pub none_told : (r : ℕ) → r ≡ first (held m) from (end - from) → end ≤ r → max from n ≡ first (held m) from (n - from)
  none_told r e h =
      ⊎_elim
      (λ a. let most : max from n ≡ from = omega arith in most ∙ sym (first_none (held m) from n a))
      (λ a. let most : max from n ≡ n = omega arith in
      most ∙ ⊎_elim (λ b. none_held a b) (λ b. held_nowhere b r e h) (le_or_lt end from))
      (le_or_lt n from)
