-- Laws of the bits of a byte, counted from the low end.
-- Assumes nothing.
use mathlib.Core.Path.{◌≡◌, refl, sym, ap, ap₂, ◌∙◌, subst}
use mathlib.Core.Bool.{Bool, true, false, cond, not, ◌&&◌, ◌||◌}
use Prim.Native.Nat.{ℕ, zero, suc, ◌+◌, ◌-◌, ◌*◌, ◌/◌, ◌%◌, ◌^◌, ◌≤◌, ◌<◌, max, min}
use native.Mathlib.Nat.{pow-suc, add-suc, suc-add, add-zero, le_of_suc-le-suc, not-suc-le-zero}
use native.Mathlib.Omega.{arith}
use lib.Arith.{lt-one}
use lib.Bits.{bit_or, bit_and}
use lib.Pow.{shr-shr, split}
use Rattle.std.specs.Int.{w8}
use Rattle.std.proofs.lemmas.Nat.Bits.{bit_at-lt, bit_at_lowest, bit_at-suc, bit_at-zero, bit_at_above, bit_at_and, bit_at_or, bit_at-pow_same, bit_at-pow_other, bit_at_cat_low, bit_at-trailing_zeros, same_from_bits_below}
use lib.Dec.{eqb}
use lib.Count.{ones, ones_step, count_trailing_zeros}
use borrow.Author.Tests.{ne_eqb}
use Rattle.octets.specs.Values.{values_from}
use Rattle.octets.proofs.ValueLaws.{same_values}
use Rattle.positions.specs.Spans.{count, first}
use Rattle.positions.specs.Map.{bit, is_set, bits_from}

pub bit_lt : (a k : ℕ) → bit a k < 2
unfolding bit
bit_lt a k = bit_at-lt a k

pub bit_zero : (a : ℕ) → bit a 0 ≡ a % 2
unfolding bit
bit_zero a = bit_at_lowest a

pub bit_half : (a k : ℕ) → bit (a / 2) k ≡ bit a (suc k)
unfolding bit
bit_half a k = sym (bit_at-suc a k)

-- a number of n bits is its bits
pub bits_ext : (n a b : ℕ) → a < 2 ^ n → b < 2 ^ n → ((k : ℕ) → k < n → bit a k ≡ bit b k) → a ≡ b
unfolding bit
bits_ext n a b ha hb e = same_from_bits_below n a b ha hb e

-- ---- the bits of `|`
pub bit_bit_or : (a b k : ℕ) → bit (bit_or a b) k ≡ max (bit a k) (bit b k)
unfolding bit
bit_bit_or a b k = bit_at_or a b k

-- ---- one bit: `1 << k`
pub bit_pow_same : (k : ℕ) → bit (2 ^ k) k ≡ 1
unfolding bit
bit_pow_same k = bit_at-pow_same k

pub bit_pow_other : (j k : ℕ) → (j ≡ k → ⊥) → bit (2 ^ k) j ≡ 0
unfolding bit
bit_pow_other j k ne = bit_at-pow_other k j ne

-- ---- the number whose bits are given by a test
digit_by : (b : Bool) (x : ℕ) → (cond b 1 0 + 2 * x) / 2 ≡ x
digit_by true x = omega arith
digit_by false x = omega arith

low_by : (b : Bool) (x : ℕ) → (cond b 1 0 + 2 * x) % 2 ≡ cond b 1 0
low_by true x = omega arith
low_by false x = omega arith

pub bits_below : (test : ℕ → Bool) (p n : ℕ) → bits_from test p n < 2 ^ n
unfolding bits_from
bits_below test p zero = omega arith
bits_below test p (suc n) =
    subst (λ (x : ℕ). cond (test p) 1 0 + 2 * bits_from test (suc p) n < x) (sym (pow-suc 2 n)) (by (test p) (bits_below test (suc p) n))
  where
    by : (b : Bool) → bits_from test (suc p) n < 2 ^ n → cond b 1 0 + 2 * bits_from test (suc p) n < 2 ^ n * 2
    by true h = omega arith
    by false h = omega arith

pub bit_from : (test : ℕ → Bool) (p n k : ℕ) → k < n → bit (bits_from test p n) k ≡ cond (test (p + k)) 1 0
unfolding bits_from
bit_from test p zero k h = absurd (not-suc-le-zero h)
bit_from test p (suc n) zero h = bit_zero _ ∙ low_by (test p) (bits_from test (suc p) n) ∙ ap (λ (q : ℕ). cond (test q) 1 0) (sym (add-zero p))
bit_from test p (suc n) (suc k) h =
    sym (bit_half _ k)
    ∙ ap (λ (x : ℕ). bit x k) (digit_by (test p) (bits_from test (suc p) n))
    ∙ bit_from test (suc p) n k (le_of_suc-le-suc h)
    ∙ ap (λ (q : ℕ). cond (test q) 1 0) (suc-add p k ∙ sym (add-suc p k))

-- ---- how many bits are set
by_bit : (P : ℕ → Type 0) (x : ℕ) → x < 2 → P 0 → P 1 → P x
by_bit P zero h none one = none
by_bit P (suc zero) h none one = one
by_bit P (suc (suc x)) h none one = absurd (not-suc-le-zero (le_of_suc-le-suc (le_of_suc-le-suc h)))

one_bit : (x : ℕ) → x < 2 → cond (eqb x 1) 1 0 ≡ x
one_bit x h = by_bit (λ u. cond (eqb u 1) 1 0 ≡ u) x h refl refl

shifted : (b p n : ℕ) → count (is_set (b / 2)) p n ≡ count (is_set b) (suc p) n
unfolding count
shifted b p zero = refl
shifted b p (suc n) = ap₂ (λ (x y : ℕ). cond (eqb x 1) 1 0 + y) (bit_half b p) (shifted b (suc p) n)

pub ones_count : (n b : ℕ) → b < 2 ^ n → ones b ≡ count (is_set b) 0 n
unfolding count ones
ones_count zero b h = ap ones (lt-one h)
ones_count (suc n) b h =
    let h' : b < 2 ^ n * 2 = subst (λ (x : ℕ). b < x) (pow-suc 2 n) h in
    ones_step b
    ∙ ap₂ (λ (x y : ℕ). x + y) (sym (one_bit (bit b 0) (bit_lt b 0) ∙ bit_zero b)) (ones_count n (b / 2) (omega arith) ∙ shifted b 0 n)

-- ---- the bits of `|`, `&`, a complement, a shift and a remainder
max_set : (x y : ℕ) → x < 2 → y < 2 → eqb (max x y) 1 ≡ (eqb x 1 || eqb y 1)
max_set x y g h =
    by_bit (λ u. eqb (max u y) 1 ≡ (eqb u 1 || eqb y 1)) x g
    (by_bit (λ v. eqb (max 0 v) 1 ≡ eqb v 1) y h refl refl)
    (by_bit (λ v. eqb (max 1 v) 1 ≡ true) y h refl refl)

min_set : (x y : ℕ) → x < 2 → y < 2 → eqb (min x y) 1 ≡ (eqb x 1 && eqb y 1)
min_set x y g h =
    by_bit (λ u. eqb (min u y) 1 ≡ (eqb u 1 && eqb y 1)) x g
    (by_bit (λ v. eqb (min 0 v) 1 ≡ false) y h refl refl)
    (by_bit (λ v. eqb (min 1 v) 1 ≡ eqb v 1) y h refl refl)

pub set_or : (a b k : ℕ) → is_set (bit_or a b) k ≡ (is_set a k || is_set b k)
set_or a b k = ap (λ (x : ℕ). eqb x 1) (bit_bit_or a b k) ∙ max_set (bit a k) (bit b k) (bit_lt a k) (bit_lt b k)

bit_bit_and : (a b k : ℕ) → bit (bit_and a b) k ≡ min (bit a k) (bit b k)
unfolding bit
bit_bit_and a b k = bit_at_and a b k

pub set_and : (a b k : ℕ) → is_set (bit_and a b) k ≡ (is_set a k && is_set b k)
set_and a b k = ap (λ (x : ℕ). eqb x 1) (bit_bit_and a b k) ∙ min_set (bit a k) (bit b k) (bit_lt a k) (bit_lt b k)

pub set_not : (b k : ℕ) → b < 256 → k < 8 → is_set (255 - b) k ≡ not (is_set b k)
unfolding bit
set_not b k h l =
    same_values (λ j. is_set (255 - b) j) (λ j. not (is_set b j)) 8 k
    (same_values (λ x. values_from (λ j. is_set (255 - x) j) 0 8) (λ x. values_from (λ j. not (is_set x j)) 0 8) 256 b refl h) l

pub set_shr : (b j k : ℕ) → is_set (b / 2 ^ j) k ≡ is_set b (j + k)
unfolding bit
set_shr b j k = ap (λ (x : ℕ). eqb (x % 2) 1) (shr-shr b j k)

-- no bit of 0 is set, and none beyond a number's length
pub set_none : (k : ℕ) → is_set 0 k ≡ false
unfolding bit
set_none k = ap (λ (x : ℕ). eqb x 1) (bit_at-zero k)

pub set_high : (n b k : ℕ) → b < 2 ^ n → n ≤ k → is_set b k ≡ false
unfolding bit
set_high n b k h l = ap (λ (x : ℕ). eqb x 1) (bit_at_above b n k h l)

-- the lowest n bits, which stand behind the others
pub set_low : (n b k : ℕ) → k < n → is_set (b % 2 ^ n) k ≡ is_set b k
unfolding bit
set_low n b k h =
    ap (λ (x : ℕ). eqb x 1) (sym (bit_at_cat_low (b / 2 ^ n) n (b % 2 ^ n) k h) ∙ ap (λ (x : ℕ). x / 2 ^ k % 2) (split b n))

-- the lowest bit that is set, as a number of 32 bits counts the zeros below it ..
pub lowest_set : (b : ℕ) → b < 256 → (b ≡ 0 → ⊥) → count_trailing_zeros 32 b ≡ first (is_set b) 0 8
unfolding bit count_trailing_zeros first
lowest_set b h d =
    ap (λ (e : Bool). cond e 8 (count_trailing_zeros 32 b)) (sym (ne_eqb b 0 d))
    ∙ same_values (λ x. cond (eqb x 0) 8 (count_trailing_zeros 32 x)) (λ x. first (is_set x) 0 8) 256 b refl h

-- .. and as a byte does
pub lowest_of_byte : (b : ℕ) → b < 256 → count_trailing_zeros 8 b ≡ first (is_set b) 0 8
unfolding bit count_trailing_zeros first
lowest_of_byte b h = same_values (λ x. count_trailing_zeros 8 x) (λ x. first (is_set x) 0 8) 256 b refl h

-- there is one unless the byte is 0
pub some_set : (b : ℕ) → b < 256 → (b ≡ 0 → ⊥) → first (is_set b) 0 8 < 8
some_set b h d = let t = bit_at-trailing_zeros w8 b (omega (arith, d)) h in let e = lowest_of_byte b h in omega (arith, e, t.0)
