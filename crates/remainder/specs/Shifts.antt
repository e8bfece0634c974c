-- Shifts and exclusive-or, and the steps of the remainder that are put together from them (02, C-13).
-- Assumes nothing.
use Rattle.std.specs.Prelude.{ℕ, ◌*◌, ◌/◌, ◌%◌, ◌^◌}
use Rattle.std.specs.Int.Bits.{bit_xor}

infixl 60 ◌⊕◌
infixl 50 ◌then◌
-- What is made of a number with another one beside it: itself, the other one, its lowest k bits, all its bits k places to the right, or
-- k places to the left where w of them stay; two of these by exclusive-or; and one made of what another gives.
pub data Shifts : Type 0 where
  itself : Shifts
  other : Shifts
  lowest : ℕ → Shifts
  right : ℕ → Shifts
  left : ℕ → ℕ → Shifts
  ◌⊕◌ : Shifts → Shifts → Shifts
  ◌then◌ : Shifts → Shifts → Shifts

abbrev pub shifted : Shifts → ℕ → ℕ → ℕ
shifted itself x y = x
shifted other x y = y
shifted (lowest k) x y = x % 2 ^ k
shifted (right k) x y = x / 2 ^ k
shifted (left w k) x y = x * 2 ^ k % 2 ^ w
shifted (s ⊕ t) x y = bit_xor (shifted s x y) (shifted t x y)
shifted (s then t) x y = shifted t (shifted s x y) y

-- a remainder, and after it the byte beside it: q is the quotient of what leaves at the top
abbrev pub byte_step : Shifts
byte_step =
    let q = right 8 ⊕ other then itself ⊕ right 4 in
    left 16 8 ⊕ (q then left 16 12) ⊕ (q then left 16 5) ⊕ q

-- the quotient of a number, with 64 zero bits behind it, by the fourth power of the polynomial, which has the terms 64, 48, 20 and 0
abbrev pub by_fourth : Shifts
by_fourth = itself ⊕ right 32 then itself ⊕ right 16 ⊕ right 44

-- from that quotient to what is left, where the 64 bits beside it stand behind the number
abbrev pub eight_step : Shifts
eight_step = itself ⊕ left 64 20 ⊕ left 64 48 ⊕ other

-- from the quotient by the fourth power to that by the second, then to that by the polynomial, and to the remainder
abbrev pub narrow_step : Shifts
narrow_step =
    itself ⊕ right 8 ⊕ right 22 ⊕ right 32
    then itself ⊕ right 4 ⊕ right 11 ⊕ right 16
    then itself ⊕ left 64 5 ⊕ left 64 12
    then lowest 16
