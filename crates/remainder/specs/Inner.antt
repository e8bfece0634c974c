-- What private functions promise each other: numbers of several bytes, and the remainder after the bits of a number.
-- Assumes nothing.
use Rattle.std.specs.Prelude.{List, ℕ, zero, suc, ◌+◌, ◌*◌, ◌/◌, ◌%◌}
use Rattle.octets.specs.Numbers.{byte_at}
use Rattle.remainder.specs.Remainder.{with_bit}

-- the lowest n bits of a number, the most significant first, from the remainder c on
unfoldable pub with_number : ℕ → ℕ → ℕ → ℕ
with_number zero c x = c
with_number (suc n) c x = with_bit (with_number n c (x / 2)) (x % 2)

-- the number of n bytes of s from a place on, the first the most significant
unfoldable pub high_first : ℕ → List ℕ → ℕ → ℕ
high_first zero s at = 0
high_first (suc n) s at = high_first n s at * 256 + byte_at s (at + n)
