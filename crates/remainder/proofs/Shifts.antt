-- Each step by shifts and exclusive-or is as many bits of the definition: both pass through exclusive-or, and they agree at the
-- powers of two, which antt computes.
-- Assumes nothing.
use mathlib.Core.Path.{◌≡◌, refl, sym, ap, ◌∙◌}
use Prim.Native.Nat.{ℕ, ◌%◌, ◌^◌, ◌<◌}
use native.Mathlib.Nat.{mod-eq_of_lt}
use native.Mathlib.Omega.{arith}
use lib.Bits.{bit_xor}
use Rattle.remainder.specs.Remainder.{with_bit, with_bits, bits_of}
use Rattle.remainder.specs.Shifts.{Shifts, ◌then◌, shifted, byte_step, by_fourth, eight_step, narrow_step}
use Rattle.remainder.specs.Inner.{with_number}
use Rattle.remainder.proofs.Linear.{Linear, exchanged, agree, shifts_linear}
use Rattle.remainder.proofs.Steps.{number_below, number_linear, bits_linear, zeros_leave_zero, byte_bits}

-- a byte: the eight bits of the byte, beside a remainder of 0, and the 16 of the remainder
byte_alone : (b : ℕ) → b < 2 ^ 8 → shifted byte_step 0 b ≡ with_number 8 0 b
unfolding with_number with_bit
byte_alone b h = agree (exchanged (shifts_linear byte_step)) (exchanged (bits_linear 8)) 8 refl b 0 h refl

any_byte : (c b : ℕ) → c < 2 ^ 16 → b < 2 ^ 8 → shifted byte_step c b ≡ with_number 8 (c % 2 ^ 16) b
unfolding with_number with_bit
any_byte c b hc hb = agree (shifts_linear byte_step) (bits_linear 8) 16 refl c b hc (byte_alone b hb)

pub byte_step_lem : (c b : ℕ) → c < 2 ^ 16 → b < 2 ^ 8 → shifted byte_step c b ≡ with_bits c (bits_of b)
byte_step_lem c b hc hb = any_byte c b hc hb ∙ ap (λ (d : ℕ). with_number 8 d b) (mod-eq_of_lt hc) ∙ byte_bits c b

-- the remainder of a number of 64 bits
pub narrow_step_lem : (x : ℕ) → x < 2 ^ 64 → shifted (by_fourth then narrow_step) x 0 ≡ with_number 64 0 x
unfolding with_number with_bit
narrow_step_lem x h = agree (shifts_linear (by_fourth then narrow_step)) (exchanged (bits_linear 64)) 64 refl x 0 h refl

-- eight bytes behind a number of 64 bits: as it is worked out, and in the definition
abbrev worked : Shifts
worked = by_fourth then eight_step

through_64 : (x x' : ℕ) → with_number 64 0 (bit_xor x x') ≡ bit_xor (with_number 64 0 x) (with_number 64 0 x')
through_64 x x' = number_linear 64 0 0 x x' (omega arith) (omega arith)

worked_linear : Linear (λ x eight. with_number 64 0 (shifted worked x eight))
worked_linear = record {
  through = λ x x' y y'.
      ap (with_number 64 0) ((shifts_linear worked).through x x' y y') ∙ through_64 (shifted worked x y) (shifted worked x' y');
}

defined_linear : Linear (λ x eight. with_number 64 (with_number 64 0 x) eight)
defined_linear = record {
  through = λ x x' y y'.
      ap (λ (c : ℕ). with_number 64 c (bit_xor y y')) (through_64 x x')
      ∙ number_linear 64 (with_number 64 0 x) (with_number 64 0 x') y y' (number_below 64 0 x (omega arith)) (number_below 64 0 x' (omega arith));
}

eight_alone : (eight : ℕ) → with_number 64 0 eight ≡ with_number 64 (with_number 64 0 0) eight
eight_alone eight = ap (λ (c : ℕ). with_number 64 c eight) (sym (zeros_leave_zero 64))

pub eight_step_lem : (x eight : ℕ) → x < 2 ^ 64 → with_number 64 0 (shifted (by_fourth then eight_step) x eight) ≡ with_number 64 (with_number 64 0 x) eight
unfolding with_number with_bit
eight_step_lem x eight h = agree worked_linear defined_linear 64 refl x eight h (eight_alone eight)
