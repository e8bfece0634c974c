-- Pieces and second receptions put into a map and a buffer, by computation.
-- Assumes nothing.
use mathlib.Core.Path.{◌≡◌, refl}
use mathlib.Core.Bool.{true, false}
use mathlib.Core.List.{[], ◌∷◌}
use Rattle.positions.specs.Spans.{every, count}
use Rattle.positions.specs.Map.{bit, held, bits_from, map_of}
use Rattle.runs.specs.Offers.{piece_at, held_in, offered, agrees, new_in, map_with, buffer_with, inside}

pub record Cases : Type 0 where
  -- where the positions end: with the map, with the buffer, beyond one of them
  pub inside_both : inside (0 ∷ []) (0 ∷ 0 ∷ 0 ∷ []) 1 2 ≡ true
  pub beyond_the_buffer : inside (0 ∷ []) (0 ∷ 0 ∷ 0 ∷ []) 1 3 ≡ false
  pub beyond_the_map : inside [] (0 ∷ 0 ∷ 0 ∷ []) 1 2 ≡ false
  pub not_32_bits : inside (0 ∷ []) (0 ∷ 0 ∷ 0 ∷ []) 4294967295 1 ≡ false
  -- a piece of two bytes at position 1, of which 2 is held with the byte 7
  pub same_byte : agrees (0x04 ∷ []) (1 ∷ 2 ∷ 7 ∷ []) (piece_at 1 (9 ∷ 7 ∷ [])) ≡ true
  pub other_byte : agrees (0x04 ∷ []) (1 ∷ 2 ∷ 7 ∷ []) (piece_at 1 (9 ∷ 8 ∷ [])) ≡ false
  pub one_new : new_in (0x04 ∷ []) (piece_at 1 (9 ∷ 7 ∷ [])) ≡ 1
  pub offered_first : offered (piece_at 1 (9 ∷ 7 ∷ [])) 1 ≡ true
  pub not_offered : offered (piece_at 1 (9 ∷ 7 ∷ [])) 3 ≡ false
  pub piece_map : map_with (0x04 ∷ []) (piece_at 1 (9 ∷ 7 ∷ [])) ≡ 0x06 ∷ []
  pub piece_buffer : buffer_with (0x04 ∷ []) (1 ∷ 2 ∷ 7 ∷ []) (piece_at 1 (9 ∷ 7 ∷ [])) ≡ 1 ∷ 9 ∷ 7 ∷ []
  -- a second map that holds 0 and 1, beside a first that holds 1 and 2
  pub second_agrees : agrees (0x06 ∷ []) (1 ∷ 2 ∷ 7 ∷ []) (held_in 3 (0x03 ∷ []) (5 ∷ 2 ∷ 6 ∷ [])) ≡ true
  pub second_differs : agrees (0x06 ∷ []) (1 ∷ 2 ∷ 7 ∷ []) (held_in 3 (0x03 ∷ []) (5 ∷ 3 ∷ 6 ∷ [])) ≡ false
  pub second_new : new_in (0x06 ∷ []) (held_in 3 (0x03 ∷ []) (5 ∷ 2 ∷ 6 ∷ [])) ≡ 1
  pub second_map : map_with (0x06 ∷ []) (held_in 3 (0x03 ∷ []) (5 ∷ 2 ∷ 6 ∷ [])) ≡ 0x07 ∷ []
  pub second_buffer : buffer_with (0x06 ∷ []) (1 ∷ 2 ∷ 7 ∷ []) (held_in 3 (0x03 ∷ []) (5 ∷ 2 ∷ 6 ∷ [])) ≡ 5 ∷ 2 ∷ 7 ∷ []

pub cases : Cases
unfolding every count bit held bits_from map_of
cases = record {
  inside_both = refl;
  beyond_the_buffer = refl;
  beyond_the_map = refl;
  not_32_bits = refl;
  same_byte = refl;
  other_byte = refl;
  one_new = refl;
  offered_first = refl;
  not_offered = refl;
  piece_map = refl;
  piece_buffer = refl;
  second_agrees = refl;
  second_differs = refl;
  second_new = refl;
  second_map = refl;
  second_buffer = refl;
}
