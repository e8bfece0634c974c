-- Laws of decimal digits: how many a number has, what is left behind some of them, and one digit more in front.
-- Assumes nothing.
use mathlib.Core.Path.{◌≡◌, refl, sym, ap, ◌∙◌}
use mathlib.Core.Bool.{true≢false}
use mathlib.Core.Logic.{⊎_elim}
use mathlib.Core.List.{List, [], ◌∷◌, ◌++◌}
use Prim.Native.Nat.{ℕ, zero, suc, ◌+◌, ◌*◌, ◌/◌, ◌%◌, ◌^◌, ◌≤◌, ◌<◌}
use native.Mathlib.Nat.{pow-suc, pow-succ', pow-le-pow_right, one-le-pow, div-one, div-div-eq-div-mul, le-div_iff_mul-le}
use native.Mathlib.Numerals.{add-one}
use native.Mathlib.Omega.{arith}
use lib.Dec.{ltb, lit≤}
use lib.ListN.{length, length-append}
use borrow.Author.Tests.{lt-ltb, le-ltb, ltb-true, ltb-false}
use Rattle.reason.proofs.Bools.{le_or_lt}
use Rattle.positions.proofs.SpanLaws.{first_from, first_by, passed_over, found, first_is}
use Rattle.report.specs.Decimal.{digit_count, digits, decimal}

-- ---- how many digits
-- a power of ten is not 0
pub power_pos : (k : ℕ) → 1 ≤ 10 ^ k
power_pos k = one-le-pow k 10 (omega arith)

-- what is left behind one digit more
pub rest_more : (n k : ℕ) → n / 10 ^ k / 10 ≡ n / 10 ^ suc k
rest_more n k = div-div-eq-div-mul n (10 ^ k) 10 ∙ ap (λ (m : ℕ). n / m) (sym (pow-suc 10 k))

-- where nothing is left behind k digits, the number is below the power
pub rest_none : (n k : ℕ) → n / 10 ^ k ≡ 0 → n < 10 ^ k
rest_none n k e = ⊎_elim (λ h. absurd (some ((le-div_iff_mul-le (power_pos k)).1 (one h)))) (λ h. h) (le_or_lt (10 ^ k) n)
  where
    one : 10 ^ k ≤ n → 1 * 10 ^ k ≤ n
    one h = omega arith

    some : 1 ≤ n / 10 ^ k → ⊥
    some h = omega arith

-- a number of 32 bits reaches no power from 10 ^ 10 on
pub few : (n k : ℕ) → n < 2 ^ 32 → 10 ^ k ≤ n → k < 10
few n k h g = ⊎_elim (λ w. absurd (no (pow-le-pow_right (omega arith) w))) (λ w. w) (le_or_lt 10 k)
  where
    no : 10 ^ 10 ≤ 10 ^ k → ⊥
    no w = omega arith

-- How many digits a number has is fixed by the powers that it reaches and the one that it does not.
pub digit_count_is : (n k : ℕ) → n < 2 ^ 32 → 1 ≤ k → ((j : ℕ) → 1 ≤ j → j < k → 10 ^ j ≤ n) → n / 10 ^ k ≡ 0 → k ≡ digit_count n
unfolding digit_count
digit_count_is n k h low reached none =
    sym
    (first_is (λ j. ltb n (10 ^ j)) 1 9 k low
    (most k reached)
    (λ j l g. le-ltb n (10 ^ j) (reached j l g))
    (λ g. lt-ltb n (10 ^ k) (rest_none n k none)))
  where
    most : (k : ℕ) → ((j : ℕ) → 1 ≤ j → j < k → 10 ^ j ≤ n) → k ≤ 10
    most zero r = omega arith
    most (suc zero) r = omega arith
    most (suc (suc j)) r = let w = few n (suc j) h (r (suc j) (omega arith) (omega arith)) in omega arith

-- .. and by the one power between it and a tenth of it
pub digit_count_between : (n k : ℕ) → 10 ^ k ≤ n → n < 10 * 10 ^ k → k < 10 → k + 1 ≡ digit_count n
unfolding digit_count
digit_count_between n k reached below few =
    sym
    (first_is (λ j. ltb n (10 ^ j)) 1 9 (k + 1) (omega arith) (omega arith)
    (λ j l g. le-ltb n (10 ^ j) (omega (arith, reached, pow-le-pow_right {n = 10} (omega arith) {i = j} {j = k} (omega arith))))
    (λ g. lt-ltb n (10 ^ (k + 1)) (rw (add-one k, pow-suc 10 k) (omega (arith, below)))))

-- 0 has one
pub one_digit : (n : ℕ) → n ≡ 0 → 1 ≡ digit_count n
unfolding digit_count
one_digit n e = rw e (sym (first_is (λ j. ltb 0 (10 ^ j)) 1 9 1 (omega arith) (omega arith) (λ j l g. absurd (omega arith)) (λ g. lt-ltb 0 (10 ^ 1) (lit≤ tt))))

module _ (n : ℕ) where
  -- at least one
  pub digit_count_from : 1 ≤ digit_count n
  unfolding digit_count
  digit_count_from = first_from (λ k. ltb n (10 ^ k)) 1 9

  -- at most ten
  pub digit_count_by : digit_count n ≤ 10
  unfolding digit_count
  digit_count_by = first_by (λ k. ltb n (10 ^ k)) 1 9

  -- no more than a power says that the number is below
  pub digit_count_most : (k : ℕ) → 1 ≤ k → n < 10 ^ k → digit_count n ≤ k
  unfolding digit_count
  digit_count_most k low h =
      ⊎_elim (λ g. g)
      (λ g. absurd (true≢false (sym (lt-ltb n (10 ^ k) h) ∙ passed_over (λ j. ltb n (10 ^ j)) 1 9 k low g)))
      (le_or_lt (digit_count n) k)

  -- the number reaches every power below that
  pub digit_count_least : (k : ℕ) → 1 ≤ k → k < digit_count n → 10 ^ k ≤ n
  unfolding digit_count
  digit_count_least k low h = ltb-false n (10 ^ k) (passed_over (λ j. ltb n (10 ^ j)) 1 9 k low h)

  -- below 10 ^ 10 they are enough
  pub digit_count_enough : n < 10 ^ 10 → n < 10 ^ digit_count n
  unfolding digit_count
  digit_count_enough h =
      ⊎_elim
      (λ g. all (digit_count n) (omega (arith, digit_count_by)))
      (λ g. ltb-true n (10 ^ digit_count n) (found (λ j. ltb n (10 ^ j)) 1 9 g))
      (le_or_lt 10 (digit_count n))
    where
      all : (k : ℕ) → k ≡ 10 → n < 10 ^ k
      all k e = rw e h

-- ---- the digits
-- as many as are asked for
pub digits_long : (k n : ℕ) → length (digits k n) ≡ k
digits_long zero n = refl
digits_long (suc k) n = length-append (digits k (n / 10)) ((0x30 + n % 10) ∷ []) ∙ ap (λ (j : ℕ). j + 1) (digits_long k (n / 10)) ∙ add-one k

-- .. and a number in decimal has as many as it needs
pub decimal_long : (n : ℕ) → length (decimal n) ≡ digit_count n
decimal_long n = digits_long (digit_count n) n

-- one digit more in front
pub digits_first : (k n : ℕ) → digits (suc k) n ≡ (0x30 + n / 10 ^ k % 10) ∷ digits k n
digits_first zero n = ap (λ (m : ℕ). (0x30 + m % 10) ∷ []) (sym (div-one n))
digits_first (suc k) n =
    ap (λ (ds : List ℕ). ds ++ (0x30 + n % 10) ∷ []) (digits_first k (n / 10))
    ∙ ap (λ (m : ℕ). (0x30 + m % 10) ∷ (digits k (n / 10) ++ (0x30 + n % 10) ∷ [])) (front n k)
  where
    front : (n k : ℕ) → n / 10 / 10 ^ k ≡ n / 10 ^ suc k
    front n k = div-div-eq-div-mul n 10 (10 ^ k) ∙ ap (λ (m : ℕ). n / m) (sym (pow-succ' 10 k))
