-- Laws of a map: what one byte says of its eight positions, and that a map is what it holds.
-- Assumes nothing.
use mathlib.Core.Path.{◌≡◌, refl, sym, ap, ap₂, ◌∙◌}
use mathlib.Core.Bool.{Bool, true, false, cond, ◌||◌, or-true, or-false}
use mathlib.Core.Logic.{⊎_elim}
use mathlib.Core.List.{List}
use Prim.Native.Nat.{ℕ, zero, suc, ◌+◌, ◌-◌, ◌*◌, ◌/◌, ◌%◌, ◌^◌, ◌≤◌, ◌<◌, max}
use native.Mathlib.Nat.{zero-div, max-zero, zero-add, add-zero, mod-lt}
use native.Mathlib.Numerals.{add-one}
use native.Mathlib.Decide.{ℕ_discrete}
use native.Mathlib.Omega.{arith}
use lib.ListN.{length, take, set, get_or-eq_default}
use lib.Seq.{take_all, get_or-set_same, get_or-set_other, ext_get_or}
use lib.Bits.{bit_or}
use lib.Pow.{pow_pos}
use lib.Count.{ones}
use lib.Dec.{eqb}
use Rattle.std.specs.Prelude.{sum_by}
use Rattle.std.proofs.lemmas.List.Sums.{sum_by_more}
use borrow.Author.Tests.{eq-eqb, ne_eqb, eqb-true, eqb-false}
use Rattle.reason.proofs.Bools.{le_or_lt}
use Rattle.octets.specs.Numbers.{byte_at, AllBytes}
use Rattle.octets.proofs.ValueLaws.{value_at, same_values, values_long}
use Rattle.positions.specs.Spans.{count}
use Rattle.positions.specs.Map.{bit, is_set, held, bits_from, map_of}
use Rattle.positions.proofs.BitLaws.{bit_lt, bits_ext, bit_bit_or, bit_pow_same, bit_pow_other, bits_below, bit_from, set_low, ones_count}
use Rattle.positions.proofs.SpanLaws.{count_same, count_moved, count_split, count_none}

-- ---- one position and its byte
pub held_in : (m : List ℕ) (i k : ℕ) → k < 8 → held m (i * 8 + k) ≡ is_set (byte_at m i) k
unfolding held
held_in m i k h =
    let q : (i * 8 + k) / 8 ≡ i = omega arith in
    let r : (i * 8 + k) % 8 ≡ k = omega arith in
    rw (q, r)

-- a position of an aligned byte, by its bit
pub bit_of : (m : List ℕ) (from q : ℕ) → from % 8 ≡ 0 → from ≤ q → q < from + 8 → is_set (byte_at m (from / 8)) (q - from) ≡ held m q
bit_of m from q a l g = let e : from / 8 * 8 + (q - from) ≡ q = omega arith in sym (held_in m (from / 8) (q - from) (omega arith)) ∙ ap (held m) e

pub held_by : (m : List ℕ) (p : ℕ) → held m p ≡ is_set (byte_at m (p / 8)) (p % 8)
unfolding held
held_by m p = refl

-- a position beyond the map is not held
pub held_past : (m : List ℕ) (p : ℕ) → length m * 8 ≤ p → held m p ≡ false
unfolding held bit
held_past m p h = let g : length m ≤ p / 8 = omega arith in rw (get_or-eq_default m 0 g, zero-div)

-- an empty byte holds none of its positions, a full one has every bit set and holds all
pub empty_byte : (m : List ℕ) (p : ℕ) → byte_at m (p / 8) ≡ 0 → held m p ≡ false
unfolding held bit
empty_byte m p e = rw (e, zero-div)

pub full_set : (b k : ℕ) → b ≡ 255 → k < 8 → is_set b k ≡ true
unfolding bit
full_set b k e h = ap (λ (x : ℕ). is_set x k) e ∙ same_values (λ j. is_set 255 j) (λ j. true) 8 k refl h

pub full_byte : (m : List ℕ) (p : ℕ) → byte_at m (p / 8) ≡ 255 → held m p ≡ true
full_byte m p e = held_by m p ∙ full_set (byte_at m (p / 8)) (p % 8) e (omega arith)

-- how many of the eight positions of a byte are held
pub byte_count : (m : List ℕ) (i : ℕ) → byte_at m i < 256 → count (held m) (i * 8) 8 ≡ ones (byte_at m i)
byte_count m i h =
    ap (λ (p : ℕ). count (held m) p 8) (sym (add-zero (i * 8)))
    ∙ count_moved (held m) (i * 8) 0 8
    ∙ count_same (λ k. held m (i * 8 + k)) (is_set (byte_at m i)) 0 8 (λ k _ l. held_in m i k (omega arith))
    ∙ sym (ones_count 8 (byte_at m i) h)

-- .. and of one byte more
pub count_byte : (m : List ℕ) (i : ℕ) → byte_at m i < 256 → count (held m) 0 (i * 8) + ones (byte_at m i) ≡ count (held m) 0 ((i + 1) * 8)
count_byte m i h =
    let e : i * 8 + 8 ≡ (i + 1) * 8 = omega arith in
    ap (λ (n : ℕ). count (held m) 0 (i * 8) + n) (sym (byte_count m i h) ∙ ap (λ (p : ℕ). count (held m) p 8) (sym (zero-add (i * 8))))
    ∙ sym (count_split (held m) 0 (i * 8) 8)
    ∙ ap (count (held m) 0) e

-- .. and of the first i bytes, of which those beyond the map have none
past_the_end : (m : List ℕ) (i : ℕ) → length m ≤ i → sum_by ones (take (i + 1) m) ≡ sum_by ones (take i m) + ones (byte_at m i)
past_the_end m i h =
    let longer : length m ≤ i + 1 = omega arith in
    let none : ones 0 ≡ 0 = ones_count 0 0 (omega arith) ∙ count_none (is_set 0) 0 in
    rw (take_all (i + 1) m longer, take_all i m h, get_or-eq_default m 0 h, none) (sym (add-zero (sum_by ones m)))

pub count_bytes : (m : List ℕ) (i : ℕ) → AllBytes m → sum_by ones (take i m) ≡ count (held m) 0 (i * 8)
count_bytes m zero all = sym (count_none (held m) 0)
count_bytes m (suc i) all =
    ap (λ (k : ℕ). sum_by ones (take k m)) (sym (add-one i))
    ∙ ⊎_elim (past_the_end m i) (sum_by_more ones m i 0) (le_or_lt (length m) i)
    ∙ ap (λ (n : ℕ). n + ones (byte_at m i)) (count_bytes m i all)
    ∙ count_byte m i (all i)
    ∙ ap (λ (k : ℕ). count (held m) 0 (k * 8)) (add-one i)

-- .. and of the lowest bits of the byte behind them
pub count_low : (m : List ℕ) (i k : ℕ) → k ≤ 8 → count (held m) 0 (i * 8) + ones (byte_at m i % 2 ^ k) ≡ count (held m) 0 (i * 8 + k)
count_low m i k h =
    ap (λ (n : ℕ). count (held m) 0 (i * 8) + n)
    (ones_count k (byte_at m i % 2 ^ k) (mod-lt (byte_at m i) (pow_pos k))
    ∙ count_same (is_set (byte_at m i % 2 ^ k)) (λ j. held m (i * 8 + j)) 0 k (λ j _ l. set_low k (byte_at m i) j (omega arith) ∙ sym (held_in m i j (omega arith)))
    ∙ sym (count_moved (held m) (i * 8) 0 k)
    ∙ ap (λ (p : ℕ). count (held m) p k) (add-zero (i * 8) ∙ sym (zero-add (i * 8))))
    ∙ sym (count_split (held m) 0 (i * 8) k)

-- ---- one byte changed
-- bytes stay bytes
pub set_bytes : (m : List ℕ) (i b : ℕ) → i < length m → AllBytes m → b < 256 → AllBytes (set m i b)
set_bytes m i b h all small j =
    elim (ℕ_discrete j i) [
      | yes e ↦ rw (e, get_or-set_same m i b 0 h) small
      | no d ↦ rw (get_or-set_other m i j b 0 d) (all j)
    ]

pub held_set : (m : List ℕ) (i b p : ℕ) → i < length m → p / 8 ≡ i → held (set m i b) p ≡ is_set b (p % 8)
held_set m i b p h e = held_by (set m i b) p ∙ ap (λ (x : ℕ). is_set x (p % 8)) (ap (λ (j : ℕ). byte_at (set m i b) j) e ∙ get_or-set_same m i b 0 h)

pub held_other : (m : List ℕ) (i b p : ℕ) → (p / 8 ≡ i → ⊥) → held (set m i b) p ≡ held m p
held_other m i b p d = held_by (set m i b) p ∙ ap (λ (x : ℕ). is_set x (p % 8)) (get_or-set_other m i (p / 8) b 0 d) ∙ sym (held_by m p)

-- ---- one position set
or_one : (a : ℕ) → a < 2 → max a 1 ≡ 1
or_one a h = omega arith

bit_set : (b k j : ℕ) → is_set (bit_or b (2 ^ k)) j ≡ (is_set b j || eqb j k)
bit_set b k j =
    elim (ℕ_discrete j k) [
      | yes e ↦ rw (e, eq-eqb k k refl, bit_bit_or, bit_pow_same, or_one (bit b k) (bit_lt b k)) (sym (or-true (is_set b k)))
      | no d ↦ rw (ne_eqb j k d, bit_bit_or, bit_pow_other j k d, max-zero) (sym (or-false (is_set b j)))
    ]

place : (p q : ℕ) → q / 8 ≡ p / 8 → eqb (q % 8) (p % 8) ≡ eqb q p
place p q e =
    elim (ℕ_discrete q p) [
      | yes s ↦ eq-eqb (q % 8) (p % 8) (ap (λ (x : ℕ). x % 8) s) ∙ sym (eq-eqb q p s)
      | no d ↦ ne_eqb (q % 8) (p % 8) (λ r. d (omega arith)) ∙ sym (ne_eqb q p d)
    ]

pub held_mark : (m : List ℕ) (p q : ℕ) → p / 8 < length m
    → held (set m (p / 8) (bit_or (byte_at m (p / 8)) (2 ^ (p % 8)))) q ≡ (held m q || eqb q p)
held_mark m p q h =
    elim (ℕ_discrete (q / 8) (p / 8)) [
      | yes e ↦
          held_set m (p / 8) (bit_or (byte_at m (p / 8)) (2 ^ (p % 8))) q h e
          ∙ bit_set (byte_at m (p / 8)) (p % 8) (q % 8)
          ∙ ap₂ ◌||◌ (ap (λ (i : ℕ). is_set (byte_at m i) (q % 8)) (sym e) ∙ sym (held_by m q)) (place p q e)
      | no d ↦
          held_other m (p / 8) (bit_or (byte_at m (p / 8)) (2 ^ (p % 8))) q d
          ∙ sym (or-false (held m q))
          ∙ ap (λ (b : Bool). held m q || b) (sym (ne_eqb q p (λ s. d (ap (λ (x : ℕ). x / 8) s))))
    ]

-- ---- a map is what it holds
digit : (a b : ℕ) → a < 2 → b < 2 → eqb a 1 ≡ eqb b 1 → a ≡ b
digit a b ha hb e =
    elim (ℕ_discrete a 1) [
      | yes x ↦ let y = eqb-true b 1 (sym e ∙ eq-eqb a 1 x) in omega arith
      | no x ↦ let y = eqb-false b 1 (sym e ∙ ne_eqb a 1 x) in omega (arith, x, y)
    ]

pub same_byte : (m n : List ℕ) (i : ℕ) → AllBytes m → AllBytes n → ((k : ℕ) → k < 8 → held m (i * 8 + k) ≡ held n (i * 8 + k))
    → byte_at m i ≡ byte_at n i
same_byte m n i bm bn e =
    bits_ext 8 (byte_at m i) (byte_at n i) (bm i) (bn i) (λ k l.
    digit (bit (byte_at m i) k) (bit (byte_at n i) k) (bit_lt (byte_at m i) k) (bit_lt (byte_at n i) k)
    (sym (held_in m i k l) ∙ e k l ∙ held_in n i k l))

pub map_ext : (m n : List ℕ) → AllBytes m → AllBytes n → length m ≡ length n → ((p : ℕ) → p < length m * 8 → held m p ≡ held n p) → m ≡ n
map_ext m n bm bn long e = ext_get_or 0 m n long (λ i h. same_byte m n i bm bn (λ k l. e (i * 8 + k) (omega arith)))

-- ---- the map that holds exactly what passes a test
pub map_long : (t : ℕ → Bool) (n : ℕ) → length (map_of t n) ≡ n
unfolding map_of
map_long t n = values_long (λ i. bits_from t (i * 8) 8) 0 n

byte_of : (t : ℕ → Bool) (n i : ℕ) → i < n → byte_at (map_of t n) i ≡ bits_from t (i * 8) 8
unfolding map_of
byte_of t n i h = value_at (λ j. bits_from t (j * 8) 8) 0 n i h

pub map_bytes : (t : ℕ → Bool) (n : ℕ) → AllBytes (map_of t n)
map_bytes t n i =
    ⊎_elim
    (λ g. let e : byte_at (map_of t n) i ≡ 0 = get_or-eq_default (map_of t n) 0 (rw map_long g) in omega arith)
    (λ h. let e = byte_of t n i h in let b = bits_below t (i * 8) 8 in omega (arith, e, b))
    (le_or_lt n i)

set_by : (b : Bool) → eqb (cond b 1 0) 1 ≡ b
set_by true = refl
set_by false = refl

pub held_map : (t : ℕ → Bool) (n p : ℕ) → p < n * 8 → held (map_of t n) p ≡ t p
held_map t n p h =
    let e : p / 8 * 8 + p % 8 ≡ p = omega arith in
    held_by (map_of t n) p
    ∙ ap (λ (x : ℕ). is_set x (p % 8)) (byte_of t n (p / 8) (omega arith))
    ∙ ap (λ (x : ℕ). eqb x 1) (bit_from t (p / 8 * 8) 8 (p % 8) (omega arith))
    ∙ set_by (t (p / 8 * 8 + p % 8))
    ∙ ap t e

pub map_is : (t : ℕ → Bool) (m : List ℕ) (n : ℕ) → AllBytes m → length m ≡ n → ((p : ℕ) → p < n * 8 → held m p ≡ t p) → m ≡ map_of t n
map_is t m n b long e =
    map_ext m (map_of t n) b (map_bytes t n) (long ∙ sym (map_long t n)) (λ p h. let k : p < n * 8 = omega arith in e p k ∙ sym (held_map t n p k))
