-- No second answer meets a promise: one law for every promise that is an equation, one for every answer, and one for every writer.
-- Assumes nothing.
use mathlib.Core.Path.{◌≡◌, refl, sym, ap, ◌∙◌}
use mathlib.Core.List.{List}
use Prim.Native.Nat.{ℕ}
use Rattle.std.specs.Prelude.{Result, Ok, Err}
use Rattle.reason.specs.declared.Reason.{Reason}
use Rattle.reason.specs.Reasons.{number_of}
use Rattle.reason.specs.Answer.{Answer, accepted, refused, answer_of, Writes, WritesAndTells}
use Rattle.reason.proofs.Reasons.{reason_with, reason_back}

-- two results that are both what a definition says are the same
pub only_one : {A : Type 0} {v : A} (p q : A) → p ≡ v → q ≡ v → p ≡ q
only_one p q d e = d ∙ sym e

-- `u8::from` of a reason
pub only_one_number : (reason : Reason) (n m : ℕ) → n ≡ number_of reason → m ≡ number_of reason → n ≡ m
only_one_number reason n m = only_one n m

-- Two answers whose meanings are both what a definition says are the same, where no two have one meaning: `case` gives
-- each meaning's answer back.
pub only_one_meant : {X A : Type 0} {v : A} (meaning : X → A) (case : A → X) → ((x : X) → case (meaning x) ≡ x) → (p q : X) → meaning p ≡ v
    → meaning q ≡ v → p ≡ q
only_one_meant meaning case back p q d e = sym (back p) ∙ ap case (d ∙ sym e) ∙ back q

-- no two results have one meaning: each meaning gives its result back
result_of : {A : Type 0} → Answer A → Result A Reason
result_of (accepted a) = Ok a
result_of (refused n) = Err (reason_with n)

result_back : {A : Type 0} (r : Result A Reason) → result_of (answer_of r) ≡ r
unfolding result_of
result_back (Ok a) = refl
result_back (Err reason) = ap Err (reason_back reason)

-- a result that means a refusal is the reason that has its number
pub refused_back : {A : Type 0} (r : Result A Reason) (n : ℕ) → answer_of r ≡ refused n → r ≡ Err (reason_with n)
unfolding result_of
refused_back r n e = sym (result_back r) ∙ ap result_of e

-- two results whose meanings are both what a definition says are the same
pub only_one_answer : {A : Type 0} {v : Answer A} (r q : Result A Reason) → answer_of r ≡ v → answer_of q ≡ v → r ≡ q
only_one_answer r q d e = only_one_meant answer_of result_of result_back r q d e

-- a writer's answer and the bytes that it leaves are fixed
pub only_one_written : (lent : List ℕ) (m : Answer (List ℕ)) (r q : Result Unit Reason) (left also : List ℕ) → Writes lent m r left
    → Writes lent m q also → (r ≡ q) × (left ≡ also)
only_one_written lent m r q left also d e = (only_one_answer r q d.answers e.answers, only_one left also d.bytes e.bytes)

-- .. and so are those of one that tells values, where no two of its answers have one meaning
pub only_one_meant_told : {X A : Type 0} (meaning : X → Answer A) (case : Answer A → X) → ((x : X) → case (meaning x) ≡ x) → (lent : List ℕ)
    (answer : Answer A) (made : A → List ℕ) (r q : X) (left also : List ℕ) → WritesAndTells lent answer made (meaning r) left
    → WritesAndTells lent answer made (meaning q) also → (r ≡ q) × (left ≡ also)
only_one_meant_told meaning case back lent answer made r q left also d e =
    (only_one_meant meaning case back r q d.answers e.answers, only_one left also d.bytes e.bytes)

-- .. and so are a result and the bytes
pub only_one_told : {A : Type 0} (lent : List ℕ) (told : Answer A) (made : A → List ℕ) (r q : Result A Reason) (left also : List ℕ)
    → WritesAndTells lent told made (answer_of r) left → WritesAndTells lent told made (answer_of q) also → (r ≡ q) × (left ≡ also)
only_one_told = only_one_meant_told answer_of result_of result_back
