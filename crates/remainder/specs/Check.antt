-- The two check bytes at the end of an information field (01, "Frame").
-- Assumes nothing.
use Rattle.std.specs.Prelude.{Bool, ◌&&◌, List, [], ◌∷◌, ◌++◌, ℕ, ◌+◌, ◌*◌, ◌-◌, ◌/◌, ◌%◌, leb, eqb, length, get_or, take}
use Rattle.remainder.specs.Remainder.{remainder_of}

-- how many check bytes stand at the end of the information
abbrev pub check_length : ℕ
check_length = 2

-- there are two last bytes, and they are, high byte first, the remainder of all before them
unfoldable pub check_right : List ℕ → Bool
check_right s =
    let n = length s - check_length in
    leb check_length (length s) && eqb (remainder_of (take n s)) (get_or s n 0 * 256 + get_or s (n + 1) 0)

-- a message with its right check behind it, high byte first
abbrev pub with_check : List ℕ → List ℕ
with_check s = s ++ remainder_of s / 256 ∷ remainder_of s % 256 ∷ []
