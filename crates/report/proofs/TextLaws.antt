-- Theorems of the text: every text fits, a number's digits read back as the number, and none has a zero in front.
-- Assumes nothing.
use mathlib.Core.Path.{◌≡◌, refl, sym, ap, ◌∙◌}
use mathlib.Core.Bool.{false}
use mathlib.Core.List.{List, [], ◌∷◌, ◌++◌}
use Prim.Native.Nat.{ℕ, zero, suc, ◌+◌, ◌-◌, ◌*◌, ◌/◌, ◌%◌, ◌^◌, ◌≤◌, ◌<◌}
use native.Mathlib.Nat.{div-lt_iff_lt-mul, le-div_iff_mul-le, mod-eq_of_lt}
use native.Mathlib.Omega.{arith}
use lib.ListN.{length, get_or, length-append}
use Rattle.octets.specs.Lists.{Each}
use Rattle.positions.specs.Map.{held}
use Rattle.positions.proofs.SpanLaws.{count_most}
use Rattle.holes.specs.declared.Hole.{Hole}
use Rattle.reception.specs.Reception.{longest, wrong_length}
use Rattle.reception.specs.Held.{held_count}
use Rattle.holes.specs.Holes.{IsHole}
use Rattle.holes.specs.EveryHole.{end_of, listed_from, Ascending}
use Rattle.reception.proofs.OfferLaws.{right_length}
use Rattle.holes.proofs.HoleLaws.{all_are_holes, ascending}
use Rattle.report.specs.Decimal.{digit_count, digits, decimal, number_said}
use Rattle.report.specs.Text.{file_word, length_word, held_word, refused_word, space, newline, file_line, hole_line, hole_lines, refused_line, file_lines, longest_text}
use Rattle.report.proofs.DigitLaws.{power_pos, digit_count_from, digit_count_by, digit_count_most, digit_count_least, digit_count_enough, digits_first, decimal_long}

-- ---- every text fits
-- a number has at most ten digits
pub ten : (n : ℕ) → length (decimal n) ≤ 10
ten n = omega (arith, decimal_long n, digit_count_by n)

-- .. and at most five below 100,000
pub five : (n : ℕ) → n < 100000 → length (decimal n) ≤ 5
five n h = omega (arith, decimal_long n, digit_count_most n 5 (omega arith) h)

three_long : (a b c : List ℕ) → length (a ++ b ++ c) ≡ length a + length b + length c
three_long a b c = simp length-append

four_long : (a b c d : List ℕ) → length (a ++ b ++ c ++ d) ≡ length a + length b + length c + length d
four_long a b c d = simp length-append

-- the first line has at most 40 bytes
pub file_line_fits : (number l h : ℕ) → l ≤ longest → h ≤ l → length (file_line number l h) ≤ 40
file_line_fits number l h high most =
    let e = four_long (file_word ++ decimal number) (length_word ++ decimal l) (held_word ++ decimal h) newline in
    omega (arith, e, ten number, five l (omega arith), five h (omega arith))

-- the line of a hole has at most twelve
pub hole_line_fits : (hole : Hole) → end_of hole ≤ longest → length (hole_line hole) ≤ 12
hole_line_fits hole high =
    let e = three_long (decimal hole.start) (space ++ decimal hole.length) newline in
    omega (arith, e, five hole.start (omega arith), five hole.length (omega arith))

-- holes that ascend from a place on: six bytes for each position from there on
pub holes_fit : (l : ℕ) (map : List ℕ) (holes : List Hole) (low : ℕ) → l ≤ longest → low ≤ suc l → Ascending low holes → Each (IsHole l map) holes
    → length (hole_lines holes) + 6 * low ≤ 6 * suc l
unfolding hole_lines
holes_fit l map [] low high by up each = omega arith
holes_fit l map (hole ∷ holes) low high by (from, up) (is, each) =
    let some = is.some in
    let below = is.below in
    let rest = holes_fit l map holes (suc (end_of hole)) high (omega arith) up each in
    let line = hole_line_fits hole (omega arith) in
    omega (arith, length-append (hole_line hole) (hole_lines holes))

-- so the lines of all holes of a map fit
pub listed_fit : (l : ℕ) (map : List ℕ) → l ≤ longest → length (hole_lines (listed_from l l map 0)) ≤ 6 * suc l
listed_fit l map high =
    let h = holes_fit l map (listed_from l l map 0) 0 high (omega arith) (ascending l map l 0) (all_are_holes l map l 0) in
    omega (arith, h)

-- The text of a file fits.
pub fits : (number l : ℕ) (map : List ℕ) → wrong_length l ≡ false → length (file_lines number l map) ≤ longest_text
fits number l map right =
    let high = (right_length l right).1 in
    let a = file_line_fits number l (held_count l map) high (count_most (held map) 0 l) in
    let b = listed_fit l map high in
    let e = length-append (file_line number l (held_count l map)) (hole_lines (listed_from l l map 0)) in
    omega (arith, a, b, e)

-- The text of a refusal fits.
pub refusal_fits : (n : ℕ) → length (refused_line n) ≤ longest_text
refusal_fits n = let e = length-append (refused_word ++ decimal n) newline in omega (arith, e, ten n)

-- ---- a number has one text
value_append : (ds es : List ℕ) (a : ℕ) → number_said (ds ++ es) a ≡ number_said es (number_said ds a)
value_append [] es a = refl
value_append (d ∷ ds) es a = value_append ds es (a * 10 + (d - 0x30))

digits_back : (k n : ℕ) → n < 10 ^ k → number_said (digits k n) 0 ≡ n
digits_back zero n h = omega arith
digits_back (suc k) n h =
    value_append (digits k (n / 10)) ((0x30 + n % 10) ∷ []) 0
    ∙ ap (λ (m : ℕ). m * 10 + (0x30 + n % 10 - 0x30)) (digits_back k (n / 10) ((div-lt_iff_lt-mul (omega arith)).1 (less h)))
    ∙ whole n
  where
    less : n < 10 ^ suc k → n < 10 ^ k * 10
    less h = omega arith

    whole : (n : ℕ) → n / 10 * 10 + (0x30 + n % 10 - 0x30) ≡ n
    whole n = omega arith

-- The digits of a number read back as the number.
pub decimal_back : (n : ℕ) → n < 10 ^ 10 → number_said (decimal n) 0 ≡ n
decimal_back n h = digits_back (digit_count n) n (digit_count_enough n h)

-- So two numbers with the same text are the same.
pub one_number : (m n : ℕ) → m < 10 ^ 10 → n < 10 ^ 10 → decimal m ≡ decimal n → m ≡ n
one_number m n g h e = sym (decimal_back m g) ∙ ap (λ (ds : List ℕ). number_said ds 0) e ∙ decimal_back n h

-- The first digit of a number that is not 0 is not `0`.
pub no_zero_in_front : (n : ℕ) → 1 ≤ n → n < 10 ^ 10 → 0x30 < get_or (decimal n) 0 0
no_zero_in_front n low high = by (digit_count n) (digit_count_from n) (λ k l g. digit_count_least n k l g) (digit_count_enough n high)
  where
    first : (k : ℕ) → 10 ^ k ≤ n → n < 10 ^ suc k → 0 < n / 10 ^ k % 10
    first k a b =
        let most : n / 10 ^ k < 10 = (div-lt_iff_lt-mul (power_pos k)).1 (times k b) in
        rw (mod-eq_of_lt most) ((le-div_iff_mul-le (power_pos k)).1 (once k a))
      where
        times : (k : ℕ) → n < 10 ^ suc k → n < 10 * 10 ^ k
        times k b = omega arith

        once : (k : ℕ) → 10 ^ k ≤ n → 1 * 10 ^ k ≤ n
        once k a = omega arith

    reached : (k : ℕ) → ((j : ℕ) → 1 ≤ j → j < suc k → 10 ^ j ≤ n) → 10 ^ k ≤ n
    reached zero r = low
    reached (suc k) r = r (suc k) (omega arith) (omega arith)

    by : (k : ℕ) → 1 ≤ k → ((j : ℕ) → 1 ≤ j → j < k → 10 ^ j ≤ n) → n < 10 ^ k → 0x30 < get_or (digits k n) 0 0
    by zero some r b = absurd (omega arith)
    by (suc k) some r b = let d = first k (reached k r) b in rw (digits_first k n) (omega arith)
