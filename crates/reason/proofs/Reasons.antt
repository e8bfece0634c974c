-- Laws of the numbered reasons: each has a number of its own, from 1 to 15, and each of these numbers is a reason's.
-- Assumes nothing.
use mathlib.Core.Path.{◌≡◌, refl, sym, ap, ◌∙◌}
use mathlib.Core.List.{List, [], ◌∷◌}
use Prim.Native.Nat.{ℕ, zero, suc, ◌+◌, ◌≤◌, ◌<◌}
use native.Mathlib.Nat.{add-zero, le_of_suc-le-suc, not-suc-le-zero}
use native.Mathlib.Omega.{arith}
use lib.ListN.{length, get_or}
use Rattle.std.specs.Prelude.{Result, Ok, Err}
use Rattle.reason.specs.declared.Reason.{Reason}
use Rattle.reason.specs.declared.Reason.TheVariants.{Short, Address, Control, Protocol, Flags, Check, Size, Header, OtherFile, Beyond, Differs, Space, Record, NotWhole, NoHole}
use Rattle.reason.specs.Reasons.{number_of}
use Rattle.reason.specs.Answer.{Answer, accepted, refused, answer_of}

-- all reasons by their numbers, and the one with a number
reasons : List Reason
reasons =
    Short ∷ Address ∷ Control ∷ Protocol ∷ Flags ∷ Check ∷ Size ∷ Header ∷ OtherFile ∷ Beyond ∷ Differs ∷ Space ∷ Record ∷ NotWhole ∷ NoHole ∷ []

pub reason_with : ℕ → Reason
reason_with n = get_or (Short ∷ reasons) n Short

pub reason_back : (r : Reason) → reason_with (number_of r) ≡ r
unfolding reason_with reasons
reason_back Short = refl
reason_back Address = refl
reason_back Control = refl
reason_back Protocol = refl
reason_back Flags = refl
reason_back Check = refl
reason_back Size = refl
reason_back Header = refl
reason_back OtherFile = refl
reason_back Beyond = refl
reason_back Differs = refl
reason_back Space = refl
reason_back Record = refl
reason_back NotWhole = refl
reason_back NoHole = refl

-- no two reasons have one number
pub one_reason : (r q : Reason) → number_of r ≡ number_of q → r ≡ q
one_reason r q e = sym (reason_back r) ∙ ap reason_with e ∙ reason_back q

-- the reasons of a list are numbered from k on
abbrev NumberedFrom : ℕ → List Reason → Type 0
NumberedFrom k [] = Unit
NumberedFrom k (r ∷ rs) = (number_of r ≡ k) × NumberedFrom (suc k) rs

number_at_place : (k i : ℕ) (rs : List Reason) → NumberedFrom k rs → i < length rs → number_of (get_or rs i Short) ≡ k + i
number_at_place k i [] p h = absurd (not-suc-le-zero h)
number_at_place k zero (r ∷ rs) p h = p.0 ∙ sym (add-zero k)
number_at_place k (suc i) (r ∷ rs) p h = number_at_place (suc k) i rs p.1 (le_of_suc-le-suc h) ∙ (omega arith)

all_numbered : NumberedFrom 1 reasons
unfolding reasons
all_numbered = (refl, (refl, (refl, (refl, (refl, (refl, (refl, (refl, (refl, (refl, (refl, (refl, (refl, (refl, (refl, tt)))))))))))))))

pub number_back : (n : ℕ) → 1 ≤ n → n ≤ 15 → number_of (reason_with n) ≡ n
unfolding reason_with reasons
number_back zero l h = absurd (not-suc-le-zero l)
number_back (suc i) l h = number_at_place 1 i reasons all_numbered (omega (arith, h)) ∙ (omega arith)

-- an answer whose number, if it refuses, is one of the numbered reasons is the meaning of a result
pub answer_met : {A : Type 0} (x : Answer A) → ((n : ℕ) → x ≡ refused n → (1 ≤ n) × (n ≤ 15)) → (r : Result A Reason) × (answer_of r ≡ x)
answer_met (accepted a) h = (Ok a, refl)
answer_met (refused n) h = let k = h n refl in (Err (reason_with n), ap refused (number_back n k.0 k.1))
