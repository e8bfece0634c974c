-- Laws of positions one after the other: a question about all of them, told by each.
-- Assumes nothing.
use mathlib.Core.Path.{◌≡◌, refl, sym, ap, ap₂, ◌∙◌}
use mathlib.Core.Bool.{Bool, true, false, cond, not, ◌&&◌, ◌||◌, true≢false, and_assoc, and-true}
use mathlib.Core.Logic.{◌⊎◌, inl, inr, ⊎_elim}
use Prim.Native.Nat.{ℕ, zero, suc, ◌+◌, ◌-◌, ◌≤◌, ◌<◌}
use native.Mathlib.Nat.{zero-add, suc-add, add-suc, add-zero, add_assoc}
use native.Mathlib.Omega.{arith}
use lib.Dec.{leb, ltb, eqb}
use borrow.Author.Tests.{not-true, not-false, eq-eqb, ne_eqb, le-leb, lt-leb, lt-ltb, le-ltb, leb-true, ltb-true}
use Rattle.reason.proofs.Bools.{and_left, and_right, and_both, le_or_lt}
use Rattle.positions.specs.Spans.{within, every, count, first}

-- ---- within a span, or not
pub in_span : (p n q : ℕ) → p ≤ q → q < p + n → within p n q ≡ true
in_span p n q h k = rw (le-leb p q h, lt-ltb q (p + n) k)

pub before_span : (p n q : ℕ) → q < p → within p n q ≡ false
before_span p n q h = rw (lt-leb p q h)

pub behind_span : (p n q : ℕ) → p + n ≤ q → within p n q ≡ false
behind_span p n q h = rw (le-leb p q (omega arith), le-ltb q (p + n) h)

pub span_low : (p n q : ℕ) → within p n q ≡ true → p ≤ q
span_low p n q e = leb-true p q (and_left (leb p q) (ltb q (p + n)) e)

pub span_high : (p n q : ℕ) → within p n q ≡ true → q < p + n
span_high p n q e = ltb-true q (p + n) (and_right (leb p q) (ltb q (p + n)) e)

-- a position is in a span, before it or behind it
pub by_span : {P : Type 0} (p n q : ℕ) → (p ≤ q → q < p + n → P) → (q < p → P) → (p + n ≤ q → P) → P
by_span p n q inside low high = ⊎_elim (λ l. ⊎_elim (λ g. high g) (λ g. inside l g) (le_or_lt (p + n) q)) (λ g. low g) (le_or_lt p q)

pub no_between : (p q : ℕ) → p ≤ q → q < p → ⊥
no_between p q l g = omega arith

lower : (p q : ℕ) → q < p → q ≡ p → ⊥
lower p q g e = omega arith

higher : (p q : ℕ) → p + 1 ≤ q → q ≡ p → ⊥
higher p q g e = omega arith

-- two spans one after the other are one
pub span_join : (p n k q : ℕ) → (within p n q || within (p + n) k q) ≡ within p (n + k) q
span_join p n k q =
    by_span p n q
    (λ l g. rw (in_span p n q l g, in_span p (n + k) q l (omega arith)))
    (λ g. rw (before_span p n q g, before_span (p + n) k q (omega arith), before_span p (n + k) q g))
    (λ g. rw (behind_span p n q g) (by_span (p + n) k q
    (λ l h. rw (in_span (p + n) k q l h, in_span p (n + k) q (omega arith) (omega arith)))
    (λ h. absurd (no_between (p + n) q g h))
    (λ h. rw (behind_span (p + n) k q h, behind_span p (n + k) q (omega arith)))))

-- a span of one
pub span_one : (p q : ℕ) → within p 1 q ≡ eqb q p
span_one p q =
    by_span p 1 q
    (λ l g. rw (in_span p 1 q l g) (sym (eq-eqb q p (omega arith))))
    (λ g. rw (before_span p 1 q g) (sym (ne_eqb q p (lower p q g))))
    (λ g. rw (behind_span p 1 q g) (sym (ne_eqb q p (higher p q g))))

-- ---- the first position of a span, and the others
here_or_later : (p q : ℕ) → p ≤ q → (p ≡ q) ⊎ (suc p ≤ q)
here_or_later p q h = ⊎_elim (λ g. inl (omega arith)) (λ g. inr g) (le_or_lt q p)

module _ (test : ℕ → Bool) where
  -- ---- every position
  pub all_if : (p n : ℕ) → ((q : ℕ) → p ≤ q → q < p + n → test q ≡ true) → every test p n ≡ true
  unfolding every
  all_if p zero h = refl
  all_if p (suc n) h =
      and_both (test p) (every test (suc p) n) (h p (omega arith) (omega arith)) (all_if (suc p) n (λ q l g. h q (omega arith) (omega arith)))

  pub all_at : (p n : ℕ) → every test p n ≡ true → (q : ℕ) → p ≤ q → q < p + n → test q ≡ true
  unfolding every
  all_at p zero e q l g = absurd (no_between p q l (omega arith))
  all_at p (suc n) e q l g =
      ⊎_elim
      (λ s. ap test (sym s) ∙ and_left (test p) (every test (suc p) n) e)
      (λ k. all_at (suc p) n (and_right (test p) (every test (suc p) n) e) q k (omega arith))
      (here_or_later p q l)

  told : (b : Bool) (p n q : ℕ) → every test p n ≡ b → p ≤ q → q < p + n → test q ≡ false → every test p n ≡ false
  told true p n q e l g f = absurd (true≢false (sym (all_at p n e q l g) ∙ f))
  told false p n q e l g f = e

  pub not_all : (p n q : ℕ) → p ≤ q → q < p + n → test q ≡ false → every test p n ≡ false
  not_all p n q l g f = told (every test p n) p n q refl l g f

  -- one position more
  pub one_more : (p q : ℕ) → ((r : ℕ) → p ≤ r → r < q → test r ≡ true) → test q ≡ true → (r : ℕ) → p ≤ r → r < q + 1 → test r ≡ true
  one_more p q before here r l g = ⊎_elim (λ h. let e : q ≡ r = omega arith in ap test (sym e) ∙ here) (λ h. before r l h) (le_or_lt q r)

  -- the same two by what a call answered of the position
  module _ (q : ℕ) (answer : Bool) (is : answer ≡ test q) where
    pub not_all_by : (p n : ℕ) → p ≤ q → q < p + n → not answer ≡ true → every test p n ≡ false
    not_all_by p n l g f = not_all p n q l g (sym is ∙ not-true answer f)

    pub one_more_by : (p : ℕ) → ((r : ℕ) → p ≤ r → r < q → test r ≡ true) → not answer ≡ false → (r : ℕ) → p ≤ r → r < q + 1 → test r ≡ true
    one_more_by p before f = one_more p q before (sym is ∙ not-false answer f)

  -- no position, and one more behind the others, as a loop meets them
  pub every_none : (p : ℕ) → every test p 0 ≡ true
  unfolding every
  every_none p = refl

  pub every_more : (p n : ℕ) → (every test p n && test (p + n)) ≡ every test p (n + 1)
  unfolding every
  every_more p zero = rw (add-zero p) (sym (and-true (test p)))
  every_more p (suc n) =
      rw (suc-add n 1, add-suc p n)
      (and_assoc (test p) (every test (suc p) n) (test (suc (p + n)))
      ∙ ap (λ (b : Bool). test p && b) (ap (λ (q : ℕ). every test (suc p) n && test q) (sym (suc-add p n)) ∙ every_more (suc p) n))

  -- some more, behind those that pass
  pub then_pass : (at p end : ℕ) → p ≤ end → every test p (end - p) ≡ true → ((q : ℕ) → at ≤ q → q < p → test q ≡ true)
      → (q : ℕ) → at ≤ q → q < end → test q ≡ true
  then_pass at p end h e before q l g = ⊎_elim (λ a. all_at p (end - p) e q a (omega arith)) (λ a. before q l a) (le_or_lt p q)

  -- where some of them do not all pass, they do not all pass
  part_by : (b : Bool) (p n a k : ℕ) → every test p n ≡ b → p ≤ a → a + k ≤ p + n → every test a k ≡ false → every test p n ≡ false
  part_by true p n a k e l g f = absurd (true≢false (sym (all_if a k (λ q h j. all_at p n e q (omega arith) (omega arith))) ∙ f))
  part_by false p n a k e l g f = e

  pub part_fails : (p n a k : ℕ) → p ≤ a → a + k ≤ p + n → every test a k ≡ false → every test p n ≡ false
  part_fails p n a k l g f = part_by (every test p n) p n a k refl l g f

  -- ---- how many
  pub count_none : (p : ℕ) → count test p 0 ≡ 0
  unfolding count
  count_none p = refl

  pub count_split : (p n k : ℕ) → count test p (n + k) ≡ count test p n + count test (p + n) k
  unfolding count
  count_split p zero k = rw (zero-add k, add-zero p) (sym (zero-add (count test p k)))
  count_split p (suc n) k =
      rw (suc-add n k, count_split (suc p) n k, suc-add p n, add-suc p n)
      (sym (add_assoc (cond (test p) 1 0) (count test (suc p) n) (count test (suc (p + n)) k)))

  one_by : (b : Bool) → cond b 1 0 ≤ 1
  one_by true = omega arith
  one_by false = omega arith

  pub count_most : (p n : ℕ) → count test p n ≤ n
  unfolding count
  count_most p zero = omega arith
  count_most p (suc n) = let a = one_by (test p) in let b = count_most (suc p) n in omega arith

  pub count_zero : (p n : ℕ) → ((q : ℕ) → p ≤ q → q < p + n → test q ≡ false) → count test p n ≡ 0
  unfolding count
  count_zero p zero h = refl
  count_zero p (suc n) h = rw (h p (omega arith) (omega arith), count_zero (suc p) n (λ q l g. h q (omega arith) (omega arith)))

  pub count_one : (p : ℕ) → count test p 1 ≡ cond (test p) 1 0
  unfolding count
  count_one p = add-zero (cond (test p) 1 0)

  -- one position more
  pub count_more : (p n : ℕ) → count test p n + cond (test (p + n)) 1 0 ≡ count test p (n + 1)
  count_more p n = ap (λ (k : ℕ). count test p n + k) (sym (count_one (p + n))) ∙ sym (count_split p n 1)

  -- those that pass and those that do not
  both_by : (b : Bool) → cond b 1 0 + cond (not b) 1 0 ≡ 1
  both_by true = refl
  both_by false = refl

  pub count_both : (p n : ℕ) → count test p n + count (λ q. not (test q)) p n ≡ n
  unfolding count
  count_both p zero = refl
  count_both p (suc n) = let a = both_by (test p) in let b = count_both (suc p) n in omega arith

  -- ---- the first
  pub first_none : (p n : ℕ) → n ≤ p → first test p (n - p) ≡ p
  unfolding first
  first_none p n h = let e : n - p ≡ 0 = omega arith in rw e

  pub first_from : (p n : ℕ) → p ≤ first test p n
  unfolding first
  first_from p zero = omega arith
  first_from p (suc n) = by (test p) (first_from (suc p) n)
    where
      by : (b : Bool) → suc p ≤ first test (suc p) n → p ≤ cond b p (first test (suc p) n)
      by true h = omega arith
      by false h = omega arith

  pub first_by : (p n : ℕ) → first test p n ≤ p + n
  unfolding first
  first_by p zero = omega arith
  first_by p (suc n) = by (test p) (first_by (suc p) n)
    where
      by : (b : Bool) → first test (suc p) n ≤ suc p + n → cond b p (first test (suc p) n) ≤ p + suc n
      by true h = omega arith
      by false h = omega arith

  -- what is passed over fails the test, and what is found passes it
  pub passed_over : (p n q : ℕ) → p ≤ q → q < first test p n → test q ≡ false
  unfolding first
  passed_over p zero q l g = absurd (no_between p q l g)
  passed_over p (suc n) q l g = by (test p) refl g (λ s k. passed_over (suc p) n q s k)
    where
      by : (b : Bool) → test p ≡ b → q < cond b p (first test (suc p) n) → (suc p ≤ q → q < first test (suc p) n → test q ≡ false) → test q ≡ false
      by true e k later = absurd (no_between p q l k)
      by false e k later = ⊎_elim (λ s. ap test (sym s) ∙ e) (λ s. later s k) (here_or_later p q l)

  pub found : (p n : ℕ) → first test p n < p + n → test (first test p n) ≡ true
  unfolding first
  found p zero g = absurd (no_between (p + 0) p (omega arith) g)
  found p (suc n) g = by (test p) refl g (λ k. found (suc p) n k)
    where
      by : (b : Bool) → test p ≡ b → cond b p (first test (suc p) n) < p + suc n
          → (first test (suc p) n < suc p + n → test (first test (suc p) n) ≡ true)
          → test (cond b p (first test (suc p) n)) ≡ true
      by true e k later = e
      by false e k later = later (omega arith)

  -- and that fixes it: a position from p on, at most p + n, with none before it that passes, and passing itself if below p + n
  pub first_is : (p n q : ℕ) → p ≤ q → q ≤ p + n → ((r : ℕ) → p ≤ r → r < q → test r ≡ false) → (q < p + n → test q ≡ true) → first test p n ≡ q
  first_is p n q l g none here =
      ⊎_elim
      (λ a. ⊎_elim
      (λ b. omega arith)
      (λ b. absurd (true≢false (sym (found p n (omega arith)) ∙ none (first test p n) (first_from p n) b)))
      (le_or_lt q (first test p n)))
      (λ a. absurd (true≢false (sym (here (omega (arith, first_by p n))) ∙ passed_over p n q l a)))
      (le_or_lt (first test p n) q)

  -- what fails the test can be passed over
  pub first_skip : (p n q : ℕ) → p ≤ q → q ≤ n → ((r : ℕ) → p ≤ r → r < q → test r ≡ false) → first test p (n - p) ≡ first test q (n - q)
  first_skip p n q l g none =
      let a = first_from q (n - q) in
      let b = first_by q (n - q) in
      first_is p (n - p) (first test q (n - q)) (omega arith) (omega arith)
      (λ r h k. ⊎_elim (λ w. passed_over q (n - q) r w k) (λ w. none r h w) (le_or_lt q r))
      (λ h. found q (n - q) (omega arith))

-- two tests that agree on a span
pub count_same : (t u : ℕ → Bool) (p n : ℕ) → ((q : ℕ) → p ≤ q → q < p + n → t q ≡ u q) → count t p n ≡ count u p n
unfolding count
count_same t u p zero h = refl
count_same t u p (suc n) h =
    ap₂ (λ (b : Bool) (k : ℕ). cond b 1 0 + k) (h p (omega arith) (omega arith)) (count_same t u (suc p) n (λ q l g. h q (omega arith) (omega arith)))

pub every_same : (t u : ℕ → Bool) (p n : ℕ) → ((q : ℕ) → p ≤ q → q < p + n → t q ≡ u q) → every t p n ≡ every u p n
unfolding every
every_same t u p zero h = refl
every_same t u p (suc n) h = ap₂ ◌&&◌ (h p (omega arith) (omega arith)) (every_same t u (suc p) n (λ q l g. h q (omega arith) (omega arith)))

pub first_same : (t u : ℕ → Bool) (p n : ℕ) → ((q : ℕ) → p ≤ q → q < p + n → t q ≡ u q) → first t p n ≡ first u p n
unfolding first
first_same t u p zero h = refl
first_same t u p (suc n) h =
    ap₂ (λ (b : Bool) (k : ℕ). cond b p k) (h p (omega arith) (omega arith)) (first_same t u (suc p) n (λ q l g. h q (omega arith) (omega arith)))

-- a span moved by d
pub count_moved : (t : ℕ → Bool) (d p n : ℕ) → count t (d + p) n ≡ count (λ q. t (d + q)) p n
unfolding count
count_moved t d p zero = refl
count_moved t d p (suc n) = rw (sym (add-suc d p), count_moved t d (suc p) n)
