-- The case of 01 that the remainder decides, by computation.
-- Assumes nothing.
use mathlib.Core.Path.{◌≡◌, refl}
use mathlib.Core.Bool.{true, false}
use mathlib.Core.List.{[], ◌∷◌, ◌++◌}
use Rattle.remainder.specs.Remainder.{with_bit, with_bits, message_bits, remainder_of}
use Rattle.remainder.specs.Check.{check_right}
use Rattle.remainder.specs.Figure.{figure32}

pub record Cases : Type 0 where
  pub figure_3_2 : remainder_of figure32 ≡ 0x9D3D
  pub figure_3_2_checked : check_right (figure32 ++ 0x9D ∷ 0x3D ∷ []) ≡ true
  pub low_byte_first : check_right (figure32 ++ 0x3D ∷ 0x9D ∷ []) ≡ false
  pub one_byte : check_right (0x00 ∷ []) ≡ false
  pub two_zeros : check_right (0x00 ∷ 0x00 ∷ []) ≡ true

pub cases : Cases
unfolding figure32 check_right remainder_of with_bits message_bits with_bit
cases = record { figure_3_2 = refl; figure_3_2_checked = refl; low_byte_first = refl; one_byte = refl; two_zeros = refl }
