-- The boundary to a host program (01, "What the station does"): numbers and byte slices. A function returns 0, or the number of
-- the reason, and tells its values through numbers that it was lent; a refusal leaves these as they were.
-- Assumes nothing.
use Rattle.std.specs.Prelude.{◌≡◌, ℕ}
use Rattle.reason.specs.Answer.{Answer, accepted, refused, leaving}

-- what is returned: 0 for accepted, or the reason's number
abbrev pub code : {A : Type 0} → Answer A → ℕ
code (accepted a) = 0
code (refused n) = n

-- The promise of a function of the boundary. `answer` is the answer of the operation that it calls, `lent` all that it was lent to
-- write to, and `made` what the accepted values make of that; `r` is what the function returns and `left` what it leaves.
pub record Exported {A L : Type 0} (answer : Answer A) (made : A → L) (lent : L) (r : ℕ) (left : L) : Type 0 where
  pub returns : r ≡ code answer
  pub leaves : left ≡ leaving made lent answer
