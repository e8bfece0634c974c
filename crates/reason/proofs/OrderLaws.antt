-- Laws of `first_of`, over any list of checks and any value: each reason is given exactly when it is the first in the order.
-- Assumes nothing.
use mathlib.Core.Path.{◌≡◌, refl, sym, ap, ◌∙◌}
use mathlib.Core.Bool.{Bool, true, false, true≢false, false≢true}
use mathlib.Core.Logic.{◌⊎◌, inl, inr, ⊎_elim}
use mathlib.Core.List.{List, [], ◌∷◌, ◌++◌}
use Prim.Native.Nat.{ℕ}
use native.Mathlib.Omega.{arith}
use Rattle.reason.specs.Answer.{Answer, accepted, refused, telling}
use Rattle.reason.specs.Order.{Check, check, first_of, First, NoneHolds, Exactly}

-- accepted and refused are never the same answer
pub not_both : {A : Type 0} {x : Answer A} (a : A) (n : ℕ) → x ≡ accepted a → x ≡ refused n → ⊥
not_both a n p q = let z : ◌≡◌ {A = ℕ} 0 1 = cc in omega arith

-- refused n exactly if n's check is the first that holds
pub refused_if : {A : Type 0} (n : ℕ) (cs : List Check) (a : A) → First n cs → first_of cs a ≡ refused n
unfolding first_of
refused_if n [] a h = absurd h
refused_if n (check true m ∷ cs) a h = ⊎_elim (λ w. ap refused w.1) (λ w. absurd (true≢false w.0)) h
refused_if n (check false m ∷ cs) a h = ⊎_elim (λ w. absurd (false≢true w.0)) (λ w. refused_if n cs a w.1) h

pub refused_only_if : {A : Type 0} (n : ℕ) (cs : List Check) (a : A) → first_of cs a ≡ refused n → First n cs
unfolding first_of
refused_only_if n [] a e = absurd (not_both a n refl e)
refused_only_if n (check true m ∷ cs) a e = inl (refl, cc)
refused_only_if n (check false m ∷ cs) a e = inr (refl, refused_only_if n cs a e)

-- accepted exactly if no check holds, and then with the value given
pub accepted_if : {A : Type 0} (cs : List Check) (a : A) → NoneHolds cs → first_of cs a ≡ accepted a
unfolding first_of
accepted_if [] a h = refl
accepted_if (check true m ∷ cs) a h = absurd (true≢false h.0)
accepted_if (check false m ∷ cs) a h = accepted_if cs a h.1

pub accepted_only_if : {A : Type 0} (cs : List Check) (a b : A) → first_of cs a ≡ accepted b → NoneHolds cs × (b ≡ a)
unfolding first_of
accepted_only_if [] a b e = (tt, cc)
accepted_only_if (check true m ∷ cs) a b e = absurd (not_both b m e refl)
accepted_only_if (check false m ∷ cs) a b e = let r : NoneHolds cs × (b ≡ a) = accepted_only_if cs a b e in ((refl, r.0), r.1)

-- the four together
pub exactly : {A : Type 0} (cs : List Check) (a : A) → Exactly cs a (first_of cs a)
exactly cs a = record {
  refuses_if = λ n h. refused_if n cs a h;
  refuses_only_if = λ n e. refused_only_if n cs a e;
  accepts_if = λ h. accepted_if cs a h;
  accepts_only_if = λ b e. accepted_only_if cs a b e;
}

-- every list of checks answers: with its value, or with the one number that is first
pub answered : {A : Type 0} (cs : List Check) (a : A) → (first_of cs a ≡ accepted a) ⊎ ((n : ℕ) × First n cs)
unfolding first_of
answered [] a = inl refl
answered (check true m ∷ cs) a = inr (m, inl (refl, refl))
answered (check false m ∷ cs) a = ⊎_elim (λ e. inl e) (λ w. inr (w.0, inr (refl, w.1))) (answered cs a)

pub first_is_one : (n m : ℕ) (cs : List Check) → First n cs → First m cs → n ≡ m
first_is_one n m cs f g = let e : ◌≡◌ {A = Answer Unit} (refused n) (refused m) = sym (refused_if n cs tt f) ∙ refused_if m cs tt g in cc

-- the first answer where it refuses, and else the second
abbrev and_then : {A B : Type 0} → Answer A → Answer B → Answer B
and_then (accepted a) next = next
and_then (refused n) next = refused n

-- two lists of checks, one after the other: what the first refuses is refused, and where it accepts the second decides
pub first_then : {A B : Type 0} (cs ds : List Check) (a : A) (b : B) → first_of (cs ++ ds) b ≡ and_then (first_of cs a) (first_of ds b)
unfolding first_of
first_then [] ds a b = refl
first_then (check true m ∷ cs) ds a b = refl
first_then (check false m ∷ cs) ds a b = first_then cs ds a b

-- .. where the first list's answer is known: one law, and its two cases
first_then_by : {A B : Type 0} (cs ds : List Check) (a : A) (b : B) (x : Answer A) → first_of cs a ≡ x
    → first_of (cs ++ ds) b ≡ and_then x (first_of ds b)
first_then_by cs ds a b x e = first_then cs ds a b ∙ ap (λ (y : Answer _). and_then y (first_of ds b)) e

pub refused_then : {A B : Type 0} (cs ds : List Check) (a : A) (b : B) (n : ℕ) → first_of cs a ≡ refused n → first_of (cs ++ ds) b ≡ refused n
refused_then cs ds a b n e = first_then_by cs ds a b (refused n) e

pub accepted_then : {A B : Type 0} (cs ds : List Check) (a a' : A) (b : B) → first_of cs a ≡ accepted a'
    → first_of (cs ++ ds) b ≡ first_of ds b
accepted_then cs ds a a' b e = first_then_by cs ds a b (accepted a') e

-- one check at a time: it does not hold, and the rest decides; it holds, and its number is the answer; none is left
pub skip : {A : Type 0} {holds : Bool} (n : ℕ) (cs : List Check) (a : A) → holds ≡ false → first_of (check holds n ∷ cs) a ≡ first_of cs a
unfolding first_of
skip n cs a e = rw e

pub stop : {A : Type 0} {holds : Bool} (n : ℕ) (cs : List Check) (a : A) → holds ≡ true → first_of (check holds n ∷ cs) a ≡ refused n
unfolding first_of
stop n cs a e = rw e

pub none_left : {A : Type 0} (a : A) → first_of [] a ≡ accepted a
unfolding first_of
none_left a = refl

-- where two lists one after the other accept, each does
pub both_accept : {A B : Type 0} (cs ds : List Check) (a : A) (b b' : B) → first_of (cs ++ ds) b ≡ accepted b'
    → (first_of cs a ≡ accepted a) × (first_of ds b ≡ accepted b')
unfolding first_of
both_accept [] ds a b b' e = (refl, e)
both_accept (check true m ∷ cs) ds a b b' e = absurd (not_both b' m e refl)
both_accept (check false m ∷ cs) ds a b b' e = both_accept cs ds a b b' e

-- a check that holds: what stands behind it, and the value, say nothing more
pub cut_off : {A : Type 0} {holds : Bool} (cs : List Check) (n : ℕ) (ds es : List Check) (a b : A) → holds ≡ true
    → first_of (cs ++ check holds n ∷ ds) a ≡ first_of (cs ++ check holds n ∷ es) b
unfolding first_of
cut_off [] n ds es a b e = rw e
cut_off (check true m ∷ cs) n ds es a b e = refl
cut_off (check false m ∷ cs) n ds es a b e = cut_off cs n ds es a b e

-- f of the value: the same answer with f of its values
pub first_telling : {A B : Type 0} (f : A → B) (cs : List Check) (a : A) → first_of cs (f a) ≡ telling f (first_of cs a)
unfolding first_of
first_telling f [] a = refl
first_telling f (check true m ∷ cs) a = refl
first_telling f (check false m ∷ cs) a = first_telling f cs a
