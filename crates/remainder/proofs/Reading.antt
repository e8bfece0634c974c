-- The bytes of a message read as numbers, the first the most significant: their bits are those of the number.
-- Assumes nothing.
use mathlib.Core.Path.{◌≡◌, refl, sym, ap, ap₂, ◌∙◌}
use mathlib.Core.List.{List}
use Prim.Native.Nat.{ℕ, zero, suc, ◌+◌, ◌*◌, ◌-◌, ◌^◌, ◌≤◌, ◌<◌}
use native.Mathlib.Nat.{add-zero, zero-add, add-suc, zero-mul}
use native.Mathlib.Numerals.{add-one}
use native.Mathlib.Omega.{arith}
use lib.ListN.{length, take, drop, drop_of_length-le}
use lib.Seq.{drop-cons, get_or-take, get_or-drop}
use lib.Pow.{pow-add}
use Rattle.std.specs.Int.{w64, from_be_bytes}
use Rattle.octets.specs.Numbers.{byte_at, AllBytes}
use Rattle.remainder.specs.Remainder.{with_bits, bits_of, message_bits}
use Rattle.remainder.specs.Inner.{with_number, high_first}
use Rattle.remainder.proofs.Steps.{number_join, byte_bits, zeros_leave_zero}

-- one byte of the message more, and the end of the message
pub byte_turn : (s : List ℕ) (c d i : ℕ) → d ≡ with_bits c (bits_of (byte_at s i)) → i < length s
    → with_bits d (message_bits (drop (i + 1) s)) ≡ with_bits c (message_bits (drop i s))
unfolding with_bits message_bits
byte_turn s c d i e h = ap (λ (n : ℕ). with_bits n (message_bits (drop (i + 1) s))) e ∙ rw (add-one, drop-cons s i 0)

pub at_end : (s : List ℕ) (c i : ℕ) → length s ≤ i → with_bits c (message_bits (drop i s)) ≡ c
unfolding with_bits message_bits
at_end s c i h = rw drop_of_length-le

-- n bytes have 8 n bits
eight_more : (n : ℕ) → 8 * suc n ≡ 8 + 8 * n
eight_more n = omega arith

pub high_below : (n : ℕ) (s : List ℕ) (at : ℕ) → AllBytes s → high_first n s at < 2 ^ (8 * n)
unfolding high_first
high_below zero s at all = omega arith
high_below (suc n) s at all =
    let most = high_below n s at all in
    let byte = all (at + n) in
    let e : 2 ^ (8 * suc n) ≡ 256 * 2 ^ (8 * n) = ap (λ (k : ℕ). 2 ^ k) (eight_more n) ∙ pow-add 2 8 (8 * n) in
    omega (arith, e, most, byte)

-- their bits are those of the number
pub read_number : (n c : ℕ) (s : List ℕ) (at : ℕ) → AllBytes s → at + n ≤ length s
    → with_bits (with_number (8 * n) c (high_first n s at)) (message_bits (drop (at + n) s)) ≡ with_bits c (message_bits (drop at s))
unfolding with_number high_first
read_number zero c s at all h = ap (λ (k : ℕ). with_bits c (message_bits (drop k s))) (add-zero at)
read_number (suc n) c s at all h =
    let before = with_number (8 * n) c (high_first n s at) in
    let b = byte_at s (at + n) in
    let after = with_number (8 * suc n) c (high_first n s at * 2 ^ 8 + b) in
    let next : after ≡ with_bits before (bits_of b) =
    ap (λ (k : ℕ). with_number k c (high_first n s at * 2 ^ 8 + b)) (eight_more n) ∙ number_join 8 (8 * n) c (high_first n s at) b (all (at + n)) ∙ byte_bits before b in
    ap (λ (k : ℕ). with_bits after (message_bits (drop k s))) (add-suc at n ∙ sym (add-one (at + n)))
    ∙ byte_turn s before after (at + n) next (omega arith) ∙ read_number n c s at all (omega arith)

-- zero bits in front change nothing: a number of n bits is one of n + k
pub zeros_before : (n k x : ℕ) → x < 2 ^ n → with_number (n + k) 0 x ≡ with_number n 0 x
zeros_before n k x h =
    let e : 0 * 2 ^ n + x ≡ x = ap (λ (y : ℕ). y + x) (zero-mul (2 ^ n)) ∙ zero-add x in
    ap (with_number (n + k) 0) (sym e) ∙ number_join n k 0 0 x h ∙ ap (λ (c : ℕ). with_number n c x) (zeros_leave_zero k)

-- so the first n bytes of a message, at most eight, are a number of 64 bits
pub first_bytes : (n : ℕ) (s : List ℕ) → AllBytes s → n ≤ 8 → n ≤ length s
    → with_bits (with_number 64 0 (high_first n s 0)) (message_bits (drop n s)) ≡ with_bits 0 (message_bits s)
first_bytes n s all l h =
    let size : 8 * n + (64 - 8 * n) ≡ 64 = omega arith in
    ap (λ (k : ℕ). with_bits (with_number k 0 (high_first n s 0)) (message_bits (drop n s))) (sym size)
    ∙ ap₂ (λ (c k : ℕ). with_bits c (message_bits (drop k s))) (zeros_before (8 * n) (64 - 8 * n) (high_first n s 0) (high_below n s 0 all)) (sym (zero-add n))
    ∙ read_number n 0 s 0 all (omega arith)

-- the number of the first bytes, read from them alone
pub front_number : (k n : ℕ) (s : List ℕ) → k ≤ n → high_first k (take n s) 0 ≡ high_first k s 0
unfolding high_first
front_number zero n s h = refl
front_number (suc k) n s h =
    ap₂ (λ (x y : ℕ). x * 256 + y) (front_number k n s (omega arith)) (get_or-take n s (0 + k) 0 (omega arith))

-- the number of eight bytes, read from an array of them
pub eight_number : (s : List ℕ) (at : ℕ) → from_be_bytes w64 (take 8 (drop at s)) ≡ high_first 8 s at
unfolding high_first
eight_number s at =
    let byte : (j : ℕ) → j < 8 → byte_at (take 8 (drop at s)) j ≡ byte_at s (at + j) =
    λ j h. get_or-take 8 (drop at s) j 0 h ∙ get_or-drop at s j 0 in
    omega (arith, byte 0 (omega arith), byte 1 (omega arith), byte 2 (omega arith), byte 3 (omega arith), byte 4 (omega arith), byte 5 (omega arith), byte 6 (omega arith), byte 7 (omega arith))
