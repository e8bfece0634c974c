-- Questions about positions that stand one after the other (01, "Reception").
-- Assumes nothing.
use Rattle.std.specs.Prelude.{Bool, true, cond, ◌&&◌, ℕ, zero, suc, ◌+◌, leb, ltb}

-- q is one of the n positions from p on
abbrev pub within : ℕ → ℕ → ℕ → Bool
within p n q = leb p q && ltb q (p + n)

-- each of the n positions from p on passes the test
unfoldable pub every : (ℕ → Bool) → ℕ → ℕ → Bool
every test p zero = true
every test p (suc n) = test p && every test (suc p) n

-- how many of the n positions from p on pass the test
unfoldable pub count : (ℕ → Bool) → ℕ → ℕ → ℕ
count test p zero = 0
count test p (suc n) = cond (test p) 1 0 + count test (suc p) n

-- the first of the n positions from p on that passes the test; where none does, the position behind them
unfoldable pub first : (ℕ → Bool) → ℕ → ℕ → ℕ
first test p zero = p
first test p (suc n) = cond (test p) p (first test (suc p) n)
