-- The map of a reception (01, "Reception"): which positions of the file are held.
-- Assumes nothing.
use Rattle.std.specs.Prelude.{Bool, cond, not, List, ℕ, zero, suc, ◌+◌, ◌*◌, ◌/◌, ◌%◌, ◌^◌, eqb}
use Rattle.octets.specs.Numbers.{byte_at}
use Rattle.octets.specs.Values.{values_from}
use Rattle.positions.specs.declared.Side.{Side}
use Rattle.positions.specs.declared.Side.TheVariants.{Held, Unheld}

-- bit k of a byte, counted from the low end: 0 or 1
unfoldable pub bit : ℕ → ℕ → ℕ
bit b k = b / 2 ^ k % 2

-- the bit is set
abbrev pub is_set : ℕ → ℕ → Bool
is_set b k = eqb (bit b k) 1

-- position p is bit p mod 8 of map byte p / 8; set means held
unfoldable pub held : List ℕ → ℕ → Bool
held map p = is_set (byte_at map (p / 8)) (p % 8)

-- the positions on a side of the map: the held ones, or the others
abbrev pub on_side : List ℕ → Side → ℕ → Bool
on_side map Held = held map
on_side map Unheld = λ p. not (held map p)

-- how many bytes a map of a file of l bytes has: l / 8, rounded up
abbrev pub map_size : ℕ → ℕ
map_size l = (l + 7) / 8

-- the number whose lowest n bits are set where the test passes, the lowest for position p
unfoldable pub bits_from : (ℕ → Bool) → ℕ → ℕ → ℕ
bits_from test p zero = 0
bits_from test p (suc n) = cond (test p) 1 0 + 2 * bits_from test (suc p) n

-- the map of n bytes that holds exactly the positions that pass the test
unfoldable pub map_of : (ℕ → Bool) → ℕ → List ℕ
map_of test n = values_from (λ i. bits_from test (i * 8) 8) 0 n
