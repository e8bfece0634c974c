-- A map's bits, and questions over positions, by computation.
-- Assumes nothing.
use mathlib.Core.Path.{◌≡◌, refl}
use mathlib.Core.Bool.{true, false, not}
use mathlib.Core.List.{[], ◌∷◌}
use Prim.Native.Nat.{◌-◌}
use lib.Dec.{eqb, leb}
use Rattle.positions.specs.Spans.{within, every, count, first}
use Rattle.positions.specs.Map.{bit, held, map_size, bits_from, map_of}

pub record Cases : Type 0 where
  -- set means held, and the low bit is the first position of its byte
  pub low_bit_first : held (0x01 ∷ 0x80 ∷ []) 0 ≡ true
  pub next_bit : held (0x01 ∷ 0x80 ∷ []) 1 ≡ false
  pub high_bit : held (0x01 ∷ 0x80 ∷ []) 7 ≡ false
  pub next_byte : held (0x01 ∷ 0x80 ∷ []) 8 ≡ false
  pub high_bit_last : held (0x01 ∷ 0x80 ∷ []) 15 ≡ true
  pub beyond_the_map : held (0x01 ∷ 0x80 ∷ []) 16 ≡ false
  pub map_of_positions : map_of (λ p. within 3 6 p) 2 ≡ 0xF8 ∷ 0x01 ∷ []
  -- the size of a map
  pub size_1 : map_size 1 ≡ 1
  pub size_8 : map_size 8 ≡ 1
  pub size_9 : map_size 9 ≡ 2
  pub size_32768 : map_size 32768 ≡ 4096
  -- the ends of a span
  pub span_before : within 3 2 2 ≡ false
  pub span_first : within 3 2 3 ≡ true
  pub span_last : within 3 2 4 ≡ true
  pub span_behind : within 3 2 5 ≡ false
  pub span_empty : within 3 0 3 ≡ false
  -- questions
  pub every_one : every (leb 3) 3 2 ≡ true
  pub not_every_one : every (leb 3) 2 2 ≡ false
  pub not_the_last : every (eqb 3) 3 2 ≡ false
  pub how_many : count (leb 3) 1 4 ≡ 2
  pub the_first : first (leb 3) 1 4 ≡ 3
  pub none_passes : first (leb 9) 1 4 ≡ 5
  -- the first held and the first unheld position of a map: found, none below n, beyond the map, and n not above the place
  pub held_12 : first (held (0x00 ∷ 0x10 ∷ [])) 3 (16 - 3) ≡ 12
  pub none_below_12 : first (held (0x00 ∷ 0x10 ∷ [])) 3 (12 - 3) ≡ 12
  pub none_held_beyond : first (held (0x00 ∷ 0x10 ∷ [])) 13 (40 - 13) ≡ 40
  pub none_above : first (held (0xFF ∷ [])) 9 (4 - 9) ≡ 9
  pub unheld_12 : first (λ p. not (held (0xFF ∷ 0xEF ∷ []) p)) 3 (16 - 3) ≡ 12
  pub unheld_beyond : first (λ p. not (held (0xFF ∷ []) p)) 3 (40 - 3) ≡ 8

pub cases : Cases
unfolding every count first bit held bits_from map_of
cases = record {
  low_bit_first = refl;
  next_bit = refl;
  high_bit = refl;
  next_byte = refl;
  high_bit_last = refl;
  beyond_the_map = refl;
  map_of_positions = refl;
  size_1 = refl;
  size_8 = refl;
  size_9 = refl;
  size_32768 = refl;
  span_before = refl;
  span_first = refl;
  span_last = refl;
  span_behind = refl;
  span_empty = refl;
  every_one = refl;
  not_every_one = refl;
  not_the_last = refl;
  how_many = refl;
  the_first = refl;
  none_passes = refl;
  held_12 = refl;
  none_below_12 = refl;
  none_held_beyond = refl;
  none_above = refl;
  unheld_12 = refl;
  unheld_beyond = refl;
}
