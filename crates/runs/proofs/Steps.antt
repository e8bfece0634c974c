-- Spans of positions taken apart and moved, as chains and parts of slices meet them, and what is left of a map byte.
-- Assumes nothing.
use mathlib.Core.Path.{◌≡◌, refl, sym, ap, ap₂, ◌∙◌}
use mathlib.Core.Logic.{◌⊎◌, inl, inr, ⊎_elim}
use mathlib.Core.Bool.{Bool, true, false, cond, not, ◌&&◌, ◌||◌, and_assoc}
use mathlib.Core.List.{List}
use Prim.Native.Nat.{ℕ, zero, suc, ◌+◌, ◌-◌, ◌*◌, ◌/◌, ◌%◌, ◌^◌, ◌≤◌, ◌<◌}
use native.Mathlib.Nat.{add-zero, zero-add, add-suc, suc-add, sub-zero}
use native.Mathlib.Numerals.{add-one}
use native.Mathlib.Omega.{arith}
use lib.Dec.{eqb, leb}
use borrow.Author.Tests.{leb-true, leb-false}
use Rattle.reason.proofs.Bools.{le_or_lt}
use Rattle.std.specs.List.{range_with_len, list_all}
use Rattle.octets.specs.Numbers.{byte_at}
use Rattle.positions.specs.Spans.{every}
use Rattle.positions.specs.Map.{is_set, held}
use Rattle.positions.proofs.BitLaws.{set_shr}
use Rattle.positions.proofs.SpanLaws.{every_same, every_none}
use Rattle.positions.proofs.MapLaws.{held_by}
use Rattle.runs.specs.Inner.{up_to, same_at, piece_agrees, bit_agrees}

-- ---- a span is its parts, and a span moved by d
pub every_join : (t : ℕ → Bool) (p n k : ℕ) → every t p (n + k) ≡ (every t p n && every t (p + n) k)
unfolding every
every_join t p zero k = rw (zero-add k, add-zero p)
every_join t p (suc n) k =
    rw (suc-add n k, every_join t (suc p) n k, suc-add p n, add-suc p n)
    (sym (and_assoc (t p) (every t (suc p) n) (every t (suc (p + n)) k)))

pub every_moved : (t : ℕ → Bool) (d p n : ℕ) → every t (d + p) n ≡ every (λ q. t (d + q)) p n
unfolding every
every_moved t d p zero = refl
every_moved t d p (suc n) = ap (λ (b : Bool). t (d + p) && b) (ap (λ (q : ℕ). every t q n) (sym (add-suc d p)) ∙ every_moved t d (suc p) n)

-- from 0 on
pub every_from : (t : ℕ → Bool) (d n : ℕ) → every (λ q. t (d + q)) 0 n ≡ every t d n
every_from t d n = sym (every_moved t d 0 n) ∙ ap (λ (p : ℕ). every t p n) (add-zero d)

-- ---- what a chain asked of each number, and of each map byte
pub all_every : (t : ℕ → Bool) (p n : ℕ) → list_all t (range_with_len p n) ≡ every t p n
unfolding every
all_every t p zero = refl
all_every t p (suc n) = ap (λ (b : Bool). t p && b) (all_every t (p + 1) n ∙ ap (λ (q : ℕ). every t q n) (add-one p))

pub all_eights : (t : ℕ → Bool) (i n : ℕ) → list_all (λ j. every t (j * 8) (j * 8 + 8 - j * 8)) (range_with_len i n) ≡ every t (i * 8) (n * 8)
all_eights t i zero = sym (every_none t (i * 8))
all_eights t i (suc n) =
    let eight : i * 8 + 8 - i * 8 ≡ 8 = omega arith in
    let next : (i + 1) * 8 ≡ i * 8 + 8 = omega arith in
    let size : 8 + n * 8 ≡ suc n * 8 = omega arith in
    ap₂ (λ (k : ℕ) (b : Bool). every t (i * 8) k && b) eight (all_eights t (i + 1) n ∙ ap (λ (p : ℕ). every t p (n * 8)) next)
    ∙ sym (every_join t (i * 8) 8 (n * 8))
    ∙ ap (every t (i * 8)) size

-- ---- bits of a run that is a part of a buffer
pub part_agrees : (asked : ℕ) (b : List ℕ) (at : ℕ) (d : List ℕ) (p n : ℕ) (s t : List ℕ) → at ≤ p
    → ((k : ℕ) → k < n → byte_at s k ≡ byte_at b (p + k)) → ((k : ℕ) → k < n → byte_at t k ≡ byte_at d (p - at + k))
    → every (bit_agrees asked s 0 t 0) 0 n ≡ every (bit_agrees asked b at d p) p n
part_agrees asked b at d p n s t low first second =
    every_same (bit_agrees asked s 0 t 0) (λ k. bit_agrees asked b at d p (p + k)) 0 n
    (λ k _ h. let l : k < n = omega arith in
    let i : k - 0 ≡ p + k - p = omega arith in
    let j : p - at + k ≡ p + k - at = omega arith in
    ap₂ (λ (x : ℕ) (w : Bool). not (is_set asked x) || w) i
    (ap₂ eqb (first k l) (ap (byte_at t) (sub-zero k) ∙ second k l ∙ ap (byte_at d) j)))
    ∙ every_from (bit_agrees asked b at d p) p n

-- ---- what is left of a map byte from position p on, bit by bit
rest_of : (m : List ℕ) (p q : ℕ) → p ≤ q → q < p / 8 * 8 + 8 → is_set (byte_at m (p / 8) / 2 ^ (p % 8)) (q - p) ≡ held m q
rest_of m p q l g =
    let a : p / 8 ≡ q / 8 = omega arith in
    let b : p % 8 + (q - p) ≡ q % 8 = omega arith in
    set_shr (byte_at m (p / 8)) (p % 8) (q - p) ∙ rw (b, a) (sym (held_by m q))

-- a piece agrees at those positions, by what a call answered of them
pub rest_agrees : (m b : List ℕ) (at : ℕ) (d : List ℕ) (p end : ℕ) → p ≤ end → end ≤ p / 8 * 8 + 8
    → (r : Bool) → r ≡ every (bit_agrees (byte_at m (p / 8) / 2 ^ (p % 8)) b at d p) p (end - p) → r ≡ every (piece_agrees m b at d) p (end - p)
rest_agrees m b at d p end low high r e =
    e
    ∙ every_same (bit_agrees (byte_at m (p / 8) / 2 ^ (p % 8)) b at d p) (piece_agrees m b at d) p (end - p)
    (λ q l g. ap (λ (w : Bool). not w || same_at b at d q) (rest_of m p q l (omega arith)))

-- ---- the end of a byte below n
pub end_cases : (p n : ℕ) → ((p + 8 ≤ n) × (up_to p n ≡ p + 8)) ⊎ ((n < p + 8) × (up_to p n ≡ n))
end_cases p n = by (leb (p + 8) n) refl (le_or_lt (p + 8) n)
  where
    by : (b : Bool) → leb (p + 8) n ≡ b → (p + 8 ≤ n) ⊎ (n < p + 8)
        → ((p + 8 ≤ n) × (cond b (p + 8) n ≡ p + 8)) ⊎ ((n < p + 8) × (cond b (p + 8) n ≡ n))
    by true e w = inl (leb-true (p + 8) n e, refl)
    by false e w = inr (leb-false (p + 8) n e, refl)

-- where the positions of the byte that a position is in end
pub rest_within : (p n end : ℕ) → end ≡ up_to (p / 8 * 8) n → p < n → (p < end) × (end ≤ p / 8 * 8 + 8) × (end ≤ n)
rest_within p n end is h =
    ⊎_elim
    (λ w. let a = w.0 in let e = w.1 in (omega (arith, is, e), omega (arith, is, e), omega (arith, is, a, e)))
    (λ w. let a = w.0 in let e = w.1 in (omega (arith, is, h, e), omega (arith, is, a, e), omega (arith, is, e)))
    (end_cases (p / 8 * 8) n)

-- .. at the next byte, where there is one
pub next_byte : (p n end : ℕ) → end ≡ up_to (p / 8 * 8) n → end < n → end ≡ p / 8 * 8 + 8
next_byte p n end is h =
    ⊎_elim
    (λ w. let e = w.1 in omega (arith, is, e))
    (λ w. let e = w.1 in omega (arith, is, e, h))
    (end_cases (p / 8 * 8) n)
