-- What an operation answers (01, "Numbered reasons"), and what it leaves in the bytes that it was lent.
-- Assumes nothing.
use Rattle.std.specs.Prelude.{◌≡◌, Bool, true, false, List, ℕ, Result, Ok, Err}
use Rattle.reason.specs.declared.Reason.{Reason}
use Rattle.reason.specs.Reasons.{number_of}

-- the values of an accepted operation, or the number of the reason and no other value
pub data Answer (A : Type 0) : Type 0 where
  accepted : A → Answer A
  refused : ℕ → Answer A

-- it was accepted
abbrev pub is_accepted : {A : Type 0} → Answer A → Bool
is_accepted (accepted a) = true
is_accepted (refused n) = false

-- the same answer with f of its values
abbrev pub telling : {A B : Type 0} → (A → B) → Answer A → Answer B
telling f (accepted a) = accepted (f a)
telling f (refused n) = refused n

-- what was lent, a list of bytes or a number, at exit: what the accepted values make of it; a refusal changes nothing lent
abbrev pub leaving : {A L : Type 0} → (A → L) → L → Answer A → L
leaving f lent (accepted a) = f a
leaving f lent (refused n) = lent

-- the paper's number and values for each case of a function's result
abbrev pub answer_of : {A : Type 0} → Result A Reason → Answer A
answer_of (Ok a) = accepted a
answer_of (Err reason) = refused (number_of reason)

-- The promise of an operation that writes to one lent list and has no value to tell. `made` is the list that it makes of
-- `lent`, or its refusal; `r` is what the function answers and `left` is what it leaves.
pub record Writes (lent : List ℕ) (made : Answer (List ℕ)) (r : Result Unit Reason) (left : List ℕ) : Type 0 where
  pub answers : answer_of r ≡ telling (λ l. tt) made
  pub bytes : left ≡ leaving (λ l. l) lent made

-- The promise of an operation that writes to one lent list and tells values. `answer` is its definition's answer, and `made` the list that
-- it makes of `lent` where it accepts; `told` is the meaning of what the function answers and `left` is what it leaves.
pub record WritesAndTells {A : Type 0} (lent : List ℕ) (answer : Answer A) (made : A → List ℕ) (told : Answer A) (left : List ℕ) : Type 0 where
  pub answers : told ≡ answer
  pub bytes : left ≡ leaving made lent answer
