-- Numbers and runs of the worked figures and requests, by computation.
-- Assumes nothing.
use mathlib.Core.Path.{◌≡◌, refl}
use mathlib.Core.Bool.{true, false}
use mathlib.Core.List.{[], ◌∷◌}
use Rattle.octets.specs.Numbers.{number_at, bytes_of}
use Rattle.octets.specs.Runs.{has_room, put_in}

pub record Cases : Type 0 where
  pub sum_of_figure_3_2 : number_at 2 (0x84 ∷ 0x0C ∷ []) 0 ≡ 0x0C84
  pub offset_65536 : number_at 3 (0x00 ∷ 0x00 ∷ 0x01 ∷ []) 0 ≡ 65536
  pub number_of_figure_3_2 : number_at 4 (0x20 ∷ 0x67 ∷ 0xAE ∷ 0x00 ∷ 0x00 ∷ []) 1 ≡ 0xAE67
  pub beyond_the_end : number_at 2 (0x84 ∷ []) 0 ≡ 0x84
  pub block_size_244 : bytes_of 2 244 ≡ 0xF4 ∷ 0x00 ∷ []
  pub length_32768 : bytes_of 2 32768 ≡ 0x00 ∷ 0x80 ∷ []
  pub at_the_end : has_room (0x01 ∷ 0x02 ∷ 0x03 ∷ []) 1 (0x0A ∷ 0x0B ∷ []) ≡ true
  pub one_too_far : has_room (0x01 ∷ 0x02 ∷ 0x03 ∷ []) 2 (0x0A ∷ 0x0B ∷ []) ≡ false
  pub in_the_middle : put_in (0x01 ∷ 0x02 ∷ 0x03 ∷ []) 1 (0x0A ∷ []) ≡ 0x01 ∷ 0x0A ∷ 0x03 ∷ []

pub cases : Cases
unfolding put_in
cases = record {
  sum_of_figure_3_2 = refl;
  offset_65536 = refl;
  number_of_figure_3_2 = refl;
  beyond_the_end = refl;
  block_size_244 = refl;
  length_32768 = refl;
  at_the_end = refl;
  one_too_far = refl;
  in_the_middle = refl;
}
