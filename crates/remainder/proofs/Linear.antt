-- What passes through exclusive-or. Two functions of two numbers that do, and agree at the powers of two below 2^n, agree at all numbers
-- below 2^n. All that is put together from shifts and exclusive-or does.
-- Assumes nothing.
use mathlib.Core.Path.{◌≡◌, refl, sym, ap, ap₂, subst, ◌∙◌}
use Prim.Native.Nat.{ℕ, zero, suc, ◌*◌, ◌/◌, ◌%◌, ◌^◌, ◌<◌}
use native.Mathlib.Nat.{zero-mul, one-mul, mod-lt}
use native.Mathlib.Numerals.{one-add}
use native.Mathlib.Omega.{arith}
use lib.Pow.{split, pow_pos, shr_lt}
use lib.Bits.{bit_xor, xor_shr, xor_mod, xor_self, xor_zero_r, xor_shifted}
use Rattle.octets.specs.Values.{values_from}
use Rattle.octets.proofs.ValueLaws.{same_values}
use Rattle.remainder.specs.Shifts.{Shifts, itself, other, lowest, right, left, ◌⊕◌, ◌then◌, shifted}
use Rattle.remainder.proofs.Xor.{xor_four, xor_shl}

pub record Linear (f : ℕ → ℕ → ℕ) : Type 0 where
  pub through : (x x' y y' : ℕ) → f (bit_xor x x') (bit_xor y y') ≡ bit_xor (f x y) (f x' y')

-- the same with its numbers exchanged
pub exchanged : {f : ℕ → ℕ → ℕ} → Linear f → Linear (λ x y. f y x)
exchanged h = record { through = λ x x' y y'. h.through y y' x x' }

pub at_zero : {f : ℕ → ℕ → ℕ} → Linear f → f 0 0 ≡ 0
at_zero {f} h = h.through 0 0 0 0 ∙ xor_self (f 0 0)

-- agreeing at a power of two, they agree at it times 0 or 1
at_power_or_zero : {f g : ℕ → ℕ → ℕ} → Linear f → Linear g → (p : ℕ) → f p 0 ≡ g p 0 → (bit : ℕ) → bit < 2 → f (bit * p) 0 ≡ g (bit * p) 0
at_power_or_zero {f} {g} hf hg p e zero h =
    ap (λ (x : ℕ). f x 0) (zero-mul p) ∙ at_zero hf ∙ sym (at_zero hg) ∙ ap (λ (x : ℕ). g x 0) (sym (zero-mul p))
at_power_or_zero {f} {g} hf hg p e (suc zero) h = ap (λ (x : ℕ). f x 0) (one-mul p) ∙ e ∙ ap (λ (x : ℕ). g x 0) (sym (one-mul p))
at_power_or_zero hf hg p e (suc (suc bit)) h = absurd (omega arith)

-- so, by the top bit and the rest, at all below 2^n
below : {f g : ℕ → ℕ → ℕ} → Linear f → Linear g → (n : ℕ) → ((i : ℕ) → i < n → f (2 ^ i) 0 ≡ g (2 ^ i) 0) → (x : ℕ) → x < 2 ^ n → f x 0 ≡ g x 0
below {f} {g} hf hg zero e x h =
    let none : x ≡ 0 = omega arith in
    ap (λ (y : ℕ). f y 0) none ∙ at_zero hf ∙ sym (at_zero hg) ∙ ap (λ (y : ℕ). g y 0) (sym none)
below {f} {g} hf hg (suc n) e x h =
    let top = x / 2 ^ n in
    let low = x % 2 ^ n in
    let l : low < 2 ^ n = mod-lt x (pow_pos n) in
    let parts : x ≡ bit_xor (top * 2 ^ n) low = sym (split x n) ∙ sym (xor_shifted top n low l) in
    ap (λ (y : ℕ). f y 0) parts ∙ hf.through (top * 2 ^ n) low 0 0
    ∙ ap₂ bit_xor (at_power_or_zero hf hg (2 ^ n) (e n (omega arith)) top (shr_lt 1 n (subst (λ (k : ℕ). x < 2 ^ k) (sym (one-add n)) h)))
    (below hf hg n (λ i k. e i (omega arith)) low l)
    ∙ sym (ap (λ (y : ℕ). g y 0) parts ∙ hg.through (top * 2 ^ n) low 0 0)

-- the first number's part and the other one's
two_parts : {f : ℕ → ℕ → ℕ} → Linear f → (x y : ℕ) → f x y ≡ bit_xor (f x 0) (f 0 y)
two_parts {f} h x y = ap (λ (z : ℕ). f z y) (sym (xor_zero_r x)) ∙ h.through x 0 0 y

-- Two that agree at the first n powers of two, compared by computing, agree at every first number below 2^n, beside every second number at which
-- they agree beside 0.
pub agree : {f g : ℕ → ℕ → ℕ} → Linear f → Linear g → (n : ℕ) → values_from (λ i. f (2 ^ i) 0) 0 n ≡ values_from (λ i. g (2 ^ i) 0) 0 n
    → (x y : ℕ) → x < 2 ^ n → f 0 y ≡ g 0 y → f x y ≡ g x y
agree {f} {g} hf hg n e x y h d =
    two_parts hf x y
    ∙ ap₂ bit_xor (below hf hg n (λ i l. same_values (λ j. f (2 ^ j) 0) (λ j. g (2 ^ j) 0) n i e l) x h) d
    ∙ sym (two_parts hg x y)

-- shifts and exclusive-or
pub shifts_linear : (s : Shifts) → Linear (shifted s)
shifts_linear itself = record { through = λ x x' y y'. refl }
shifts_linear other = record { through = λ x x' y y'. refl }
shifts_linear (lowest k) = record { through = λ x x' y y'. xor_mod x x' k }
shifts_linear (right k) = record { through = λ x x' y y'. xor_shr x x' k }
shifts_linear (left w k) = record { through = λ x x' y y'. ap (λ (n : ℕ). n % 2 ^ w) (xor_shl k x x') ∙ xor_mod (x * 2 ^ k) (x' * 2 ^ k) w }
shifts_linear (s ⊕ t) = record {
  through = λ x x' y y'.
      ap₂ bit_xor ((shifts_linear s).through x x' y y') ((shifts_linear t).through x x' y y') ∙ xor_four (shifted s x y) (shifted s x' y') (shifted t x y) (shifted t x' y');
}
shifts_linear (s then t) = record {
  through = λ x x' y y'.
      ap (λ (z : ℕ). shifted t z (bit_xor y y')) ((shifts_linear s).through x x' y y') ∙ (shifts_linear t).through (shifted s x y) (shifted s x' y') y y';
}
