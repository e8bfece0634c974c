-- The reasons of an operation in their order (01, "Numbered reasons"), as a list of checks.
-- Assumes nothing.
use Rattle.std.specs.Prelude.{◌≡◌, Bool, true, false, cond, ◌⊎◌, List, [], ◌∷◌, ℕ}
use Rattle.reason.specs.Answer.{Answer, accepted, refused}

-- a test, and the number that is given when it holds
pub data Check : Type 0 where
  check : Bool → ℕ → Check

-- the number of the first check that holds; where none does, the value
unfoldable pub first_of : {A : Type 0} → List Check → A → Answer A
first_of [] a = accepted a
first_of (check holds n ∷ checks) a = cond holds (refused n) (first_of checks a)

-- a check with the number n holds, and none before it does
abbrev pub First : ℕ → List Check → Type 0
First n [] = ⊥
First n (check holds m ∷ checks) = ((holds ≡ true) × (m ≡ n)) ⊎ ((holds ≡ false) × First n checks)

-- no check holds
abbrev pub NoneHolds : List Check → Type 0
NoneHolds [] = Unit
NoneHolds (check holds n ∷ checks) = (holds ≡ false) × NoneHolds checks

-- The order in demand 1, for one operation: it refuses with n exactly if n's check is the first that holds, and accepts
-- exactly if none holds, and then with that value. (That a refusal changes no lent byte is `leaving`, of `Answer`.)
pub record Exactly {A : Type 0} (checks : List Check) (value : A) (answer : Answer A) : Type 0 where
  pub refuses_if : (n : ℕ) → First n checks → answer ≡ refused n
  pub refuses_only_if : (n : ℕ) → answer ≡ refused n → First n checks
  pub accepts_if : NoneHolds checks → answer ≡ accepted value
  pub accepts_only_if : (a : A) → answer ≡ accepted a → NoneHolds checks × (a ≡ value)
