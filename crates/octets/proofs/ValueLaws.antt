-- What stands at each place of the list that a rule makes: a rule that is tested over a whole list holds at each entry.
-- Assumes nothing.
use mathlib.Core.Path.{◌≡◌, refl, sym, ap, ap₂, ◌∙◌}
use mathlib.Core.List.{List, [], ◌∷◌, ◌++◌}
use Prim.Native.Nat.{ℕ, zero, suc, ◌+◌, ◌≤◌, ◌<◌}
use native.Mathlib.Nat.{add-zero, zero-add, add-suc, suc-add, le_of_suc-le-suc, not-suc-le-zero}
use native.Mathlib.Omega.{arith}
use lib.ListN.{length, get_or}
use Rattle.octets.specs.Values.{values_from}

from : {A : Type 0} (f : ℕ → A) (d : A) (i n k : ℕ) → k < n → get_or (values_from f i n) k d ≡ f (i + k)
from f d i zero k h = absurd (not-suc-le-zero h)
from f d i (suc n) zero h = ap f (sym (add-zero i))
from f d i (suc n) (suc k) h = from f d (suc i) n k (le_of_suc-le-suc h) ∙ ap f (suc-add i k ∙ sym (add-suc i k))

pub value_at : {A : Type 0} (f : ℕ → A) (d : A) (n k : ℕ) → k < n → get_or (values_from f 0 n) k d ≡ f k
value_at f d n k h = from f d 0 n k h ∙ ap f (zero-add k)

-- two rules whose lists are the same agree at each place
pub same_values : {A : Type 0} (f g : ℕ → A) (n k : ℕ) → values_from f 0 n ≡ values_from g 0 n → k < n → f k ≡ g k
same_values f g n k e h = sym (value_at f (f 0) n k h) ∙ ap (λ (l : List _). get_or l k (f 0)) e ∙ value_at g (f 0) n k h

-- a list of n values has n
pub values_long : {A : Type 0} (f : ℕ → A) (i n : ℕ) → length (values_from f i n) ≡ n
values_long f i zero = refl
values_long f i (suc n) = ap suc (values_long f (suc i) n)

-- the values at n places and at k places behind them are one list
pub values_join : {A : Type 0} (f : ℕ → A) (i n k : ℕ) → values_from f i n ++ values_from f (i + n) k ≡ values_from f i (n + k)
values_join f i zero k = rw (add-zero i, zero-add k)
values_join f i (suc n) k =
    ap (λ (j : ℕ). f i ∷ (values_from f (suc i) n ++ values_from f j k)) (add-suc i n ∙ sym (suc-add i n))
    ∙ ap (λ (l : List _). f i ∷ l) (values_join f (suc i) n k)
    ∙ ap (values_from f i) (sym (suc-add n k))

-- two rules that agree from i on make the same list
pub values_alike : {A : Type 0} (f g : ℕ → A) (i n : ℕ) → ((k : ℕ) → i ≤ k → k < i + n → f k ≡ g k) → values_from f i n ≡ values_from g i n
values_alike f g i zero e = refl
values_alike f g i (suc n) e = ap₂ ◌∷◌ (e i (omega arith) (omega arith)) (values_alike f g (suc i) n (λ k l h. e k (omega arith) (omega arith)))

-- .. and so do two that agree at each place up to the last
pub values_same : {A : Type 0} (f g : ℕ → A) (i n : ℕ) → ((k : ℕ) → k < i + n → f k ≡ g k) → values_from f i n ≡ values_from g i n
values_same f g i n e = values_alike f g i n (λ k l h. e k h)

-- one value more
pub values_more : {A : Type 0} (f : ℕ → A) (i n : ℕ) → values_from f i n ++ f (i + n) ∷ [] ≡ values_from f i (n + 1)
values_more f i n = values_join f i n 1
