-- The remainder after the bits of a number: below 2^16, through exclusive-or, and one number after another.
-- Assumes nothing.
use mathlib.Core.Path.{◌≡◌, refl, ap, ap₂, ◌∙◌}
use Prim.Native.Nat.{ℕ, zero, suc, ◌+◌, ◌*◌, ◌/◌, ◌%◌, ◌^◌, ◌<◌}
use native.Mathlib.Nat.{suc-add, zero-add, div-div-eq-div-mul}
use native.Mathlib.Omega.{arith}
use lib.Bits.{bit_xor, xor_shr, xor_mod, xor_lt, block_half, block_odd}
use Rattle.remainder.specs.Remainder.{polynomial, with_bit, with_bits, bits_of}
use Rattle.remainder.specs.Shifts.{left}
use Rattle.remainder.specs.Inner.{with_number}
use Rattle.remainder.proofs.Xor.{xor_four}
use Rattle.remainder.proofs.Linear.{Linear, at_zero, shifts_linear}

-- one bit more: the remainder stays below 2^16
bit_below : (c bit : ℕ) → c < 2 ^ 16 → bit < 2 → with_bit c bit < 2 ^ 16
unfolding with_bit
bit_below c bit h l =
    let x : bit_xor (c / 2 ^ 15) bit < 2 ^ 1 = xor_lt 1 (c / 2 ^ 15) bit (omega arith) l in
    xor_lt 16 (bit_xor (c / 2 ^ 15) bit * polynomial) (c * 2 % 2 ^ 16) (omega arith) (omega arith)

-- the polynomial once or not at all
polynomial_times : (a b : ℕ) → a < 2 → b < 2 → bit_xor a b * polynomial ≡ bit_xor (a * polynomial) (b * polynomial)
polynomial_times zero b ha hb = refl
polynomial_times (suc zero) zero ha hb = refl
polynomial_times (suc zero) (suc zero) ha hb = refl
polynomial_times (suc zero) (suc (suc b)) ha hb = absurd (omega arith)
polynomial_times (suc (suc a)) b ha hb = absurd (omega arith)

-- one bit more passes through exclusive-or
bit_linear : (c d a b : ℕ) → c < 2 ^ 16 → d < 2 ^ 16 → a < 2 → b < 2 → with_bit (bit_xor c d) (bit_xor a b) ≡ bit_xor (with_bit c a) (with_bit d b)
unfolding with_bit
bit_linear c d a b hc hd ha hb =
    let p = bit_xor (c / 2 ^ 15) a in
    let q = bit_xor (d / 2 ^ 15) b in
    let top : bit_xor (bit_xor c d / 2 ^ 15) (bit_xor a b) ≡ bit_xor p q =
    ap (λ (n : ℕ). bit_xor n (bit_xor a b)) (xor_shr c d 15) ∙ xor_four (c / 2 ^ 15) (d / 2 ^ 15) a b in
    let taken : bit_xor (bit_xor c d / 2 ^ 15) (bit_xor a b) * polynomial ≡ bit_xor (p * polynomial) (q * polynomial) =
    ap (λ (n : ℕ). n * polynomial) top ∙ polynomial_times p q (xor_lt 1 (c / 2 ^ 15) a (omega arith) ha) (xor_lt 1 (d / 2 ^ 15) b (omega arith) hb) in
    ap₂ bit_xor taken ((shifts_linear (left 16 1)).through c d 0 0) ∙ xor_four (p * polynomial) (q * polynomial) (c * 2 % 2 ^ 16) (d * 2 % 2 ^ 16)

-- all bits of a number: below 2^16, and through exclusive-or
pub number_below : (n c x : ℕ) → c < 2 ^ 16 → with_number n c x < 2 ^ 16
unfolding with_number
number_below zero c x h = h
number_below (suc n) c x h = bit_below (with_number n c (x / 2)) (x % 2) (number_below n c (x / 2) h) (omega arith)

pub number_linear : (n c d x y : ℕ) → c < 2 ^ 16 → d < 2 ^ 16 → with_number n (bit_xor c d) (bit_xor x y) ≡ bit_xor (with_number n c x) (with_number n d y)
unfolding with_number
number_linear zero c d x y hc hd = refl
number_linear (suc n) c d x y hc hd =
    ap₂ with_bit (ap (with_number n (bit_xor c d)) (xor_shr x y 1) ∙ number_linear n c d (x / 2) (y / 2) hc hd) (xor_mod x y 1)
    ∙ bit_linear (with_number n c (x / 2)) (with_number n d (y / 2)) (x % 2) (y % 2) (number_below n c (x / 2) hc) (number_below n d (y / 2) hd) (omega arith) (omega arith)

-- from the lowest 16 bits of any number on
pub bits_linear : (n : ℕ) → Linear (λ c x. with_number n (c % 2 ^ 16) x)
bits_linear n = record {
  through = λ c d x y.
      ap (λ (z : ℕ). with_number n z (bit_xor x y)) (xor_mod c d 16) ∙ number_linear n (c % 2 ^ 16) (d % 2 ^ 16) x y (omega arith) (omega arith);
}

-- zero bits from 0 on
pub zeros_leave_zero : (n : ℕ) → with_number n 0 0 ≡ 0
zeros_leave_zero n = at_zero (bits_linear n)

-- a number and what stands behind it, one after the other
pub number_join : (n k c x y : ℕ) → y < 2 ^ n → with_number (n + k) c (x * 2 ^ n + y) ≡ with_number n (with_number k c x) y
unfolding with_number
number_join zero k c x y h =
    let e : x * 2 ^ 0 + y ≡ x = omega arith in
    ap₂ (λ (m z : ℕ). with_number m c z) (zero-add k) e
number_join (suc n) k c x y h =
    let half : y / 2 < 2 ^ n = omega arith in
    ap (λ (m : ℕ). with_number m c (x * 2 ^ suc n + y)) (suc-add n k)
    ∙ ap₂ (λ (z bit : ℕ). with_bit (with_number (n + k) c z) bit) (block_half x n y) (block_odd x n y)
    ∙ ap (λ (d : ℕ). with_bit d (y % 2)) (number_join n k c x (y / 2) half)

-- the bits of a byte are those of a number
pub byte_bits : (c b : ℕ) → with_number 8 c b ≡ with_bits c (bits_of b)
unfolding with_number with_bits
byte_bits c b = simp (div-div-eq-div-mul)
