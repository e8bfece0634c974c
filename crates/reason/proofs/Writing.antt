-- Laws of `Writes` and `WritesAndTells`: how a writer's promise is met, and what a caller learns of it.
-- Assumes nothing.
use mathlib.Core.Path.{◌≡◌, refl, sym, ap, ◌∙◌}
use mathlib.Core.List.{List}
use Prim.Native.Nat.{ℕ}
use Rattle.std.specs.Prelude.{Result, Ok, Err}
use Rattle.reason.specs.declared.Reason.{Reason}
use Rattle.reason.specs.Reasons.{number_of}
use Rattle.reason.specs.Answer.{Answer, accepted, refused, telling, leaving, answer_of, Writes, WritesAndTells}
use Rattle.reason.proofs.Reasons.{reason_with}
use Rattle.reason.proofs.OnlyOne.{refused_back, only_one_written}

module _ (lent : List ℕ) (made : Answer (List ℕ)) (left : List ℕ) where
  -- the promise, where what the operation makes is known: one law, and its two cases
  writes_by : (a : Answer (List ℕ)) (r : Result Unit Reason) → made ≡ a → answer_of r ≡ telling (λ (x : List ℕ). tt) a → left ≡ leaving (λ (x : List ℕ). x) lent a
      → Writes lent made r left
  writes_by a r e o l = record { answers = o ∙ sym (ap (telling (λ (x : List ℕ). tt)) e); bytes = l ∙ sym (ap (leaving (λ (x : List ℕ). x) lent) e) }

  pub writes_refused : (reason : Reason) → made ≡ refused (number_of reason) → left ≡ lent → Writes lent made (Err reason) left
  writes_refused reason e l = writes_by (refused (number_of reason)) (Err reason) e refl l

  pub writes_accepted : (new : List ℕ) → made ≡ accepted new → left ≡ new → Writes lent made (Ok tt) left
  writes_accepted new e l = writes_by (accepted new) (Ok tt) e refl l

-- what is written and told where the operation is known to accept, and where it is known to refuse
pub when_accepted : (lent : List ℕ) (made : Answer (List ℕ)) (r : Result Unit Reason) (left new : List ℕ) → Writes lent made r left
    → made ≡ accepted new → (r ≡ Ok tt) × (left ≡ new)
when_accepted lent made r left new w e = only_one_written lent made r (Ok tt) left new w (writes_accepted lent made new new e refl)

-- a refusal, whatever its number: the answer is the reason that has it, and every byte stays
pub when_refused : (lent : List ℕ) (made : Answer (List ℕ)) (r : Result Unit Reason) (left : List ℕ) (n : ℕ) → Writes lent made r left
    → made ≡ refused n → (r ≡ Err (reason_with n)) × (answer_of r ≡ refused n) × (left ≡ lent)
when_refused lent made r left n w e =
    let told : answer_of r ≡ refused n = w.answers ∙ ap (telling (λ (x : List ℕ). tt)) e in
    (refused_back r n told, told, w.bytes ∙ ap (leaving (λ (x : List ℕ). x) lent) e)

-- .. and where the reason is known that it is
pub when_refused_for : (lent : List ℕ) (made : Answer (List ℕ)) (r : Result Unit Reason) (left : List ℕ) (reason : Reason)
    → Writes lent made r left → made ≡ refused (number_of reason) → (r ≡ Err reason) × (left ≡ lent)
when_refused_for lent made r left reason w e =
    only_one_written lent made r (Err reason) left lent w (writes_refused lent made lent reason e refl)

-- .. and a refusal, whatever its number, leaves every byte
pub refusal_leaves : (lent : List ℕ) (made : Answer (List ℕ)) (r : Result Unit Reason) (left : List ℕ) (n : ℕ) → Writes lent made r left
    → made ≡ refused n → left ≡ lent
refusal_leaves lent made r left n w e = w.bytes ∙ ap (leaving (λ (x : List ℕ). x) lent) e

-- the promise of a writer that tells values, where its answer is known
module _ {A : Type 0} (lent : List ℕ) (answer : Answer A) (made : A → List ℕ) (left : List ℕ) where
  pub tells_refused : (n : ℕ) → answer ≡ refused n → left ≡ lent → WritesAndTells lent answer made (refused n) left
  tells_refused n e l = record { answers = sym e; bytes = l ∙ sym (ap (leaving made lent) e) }

  pub tells_accepted : (a : A) → answer ≡ accepted a → left ≡ made a → WritesAndTells lent answer made (accepted a) left
  tells_accepted a e l = record { answers = sym e; bytes = l ∙ sym (ap (leaving made lent) e) }
