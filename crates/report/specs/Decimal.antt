-- A number as text, in decimal digits (01, "Both sides of the line": the hole program's lines).
-- Assumes nothing.
use Rattle.std.specs.Prelude.{List, [], ◌∷◌, ◌++◌, ℕ, zero, suc, ◌+◌, ◌-◌, ◌*◌, ◌/◌, ◌%◌, ◌^◌, ltb}
use Rattle.positions.specs.Spans.{first}

-- how many digits a number of 32 bits has: the fewest that hold it, at least one and at most ten
unfoldable pub digit_count : ℕ → ℕ
digit_count n = first (λ k. ltb n (10 ^ k)) 1 9

-- the last k digits of a number, the most significant first
abbrev pub digits : ℕ → ℕ → List ℕ
digits zero n = []
digits (suc k) n = digits k (n / 10) ++ (0x30 + n % 10) ∷ []

-- the number in decimal
abbrev pub decimal : ℕ → List ℕ
decimal n = digits (digit_count n) n

-- the number that digits say, read on from a number
abbrev pub number_said : List ℕ → ℕ → ℕ
number_said [] a = a
number_said (d ∷ ds) a = number_said ds (a * 10 + (d - 0x30))
