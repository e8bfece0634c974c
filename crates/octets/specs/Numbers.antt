-- Numbers of several bytes, least significant byte first (01, "What the station does"). One definition over the width.
-- Assumes nothing.
use Rattle.std.specs.Prelude.{List, [], ◌∷◌, ℕ, zero, suc, ◌+◌, ◌*◌, ◌/◌, ◌%◌, ◌<◌, get_or}

-- the byte of s at a place, 0 beyond its end
abbrev pub byte_at : List ℕ → ℕ → ℕ
byte_at s at = get_or s at 0

-- the number of n bytes of s from a place on
abbrev pub number_at : ℕ → List ℕ → ℕ → ℕ
number_at zero s at = 0
number_at (suc n) s at = byte_at s at + 256 * number_at n s (at + 1)

-- the n bytes of a number v: its lowest n where it needs more
abbrev pub bytes_of : ℕ → ℕ → List ℕ
bytes_of zero v = []
bytes_of (suc n) v = v % 256 ∷ bytes_of n (v / 256)

-- a list of bytes, as a slice's is
abbrev pub AllBytes : List ℕ → Type 0
AllBytes s = (i : ℕ) → byte_at s i < 256
