-- `remainder::by_eights` meets its contract.
-- Assumes nothing.
use Rattle.std.proofs.Common.{◌≡◌, ℕ, zero, suc, ◌+◌, ◌*◌, ◌/◌, ◌%◌, ◌≤◌, ◌<◌, List, [], length, get_or, take, drop, refl, sym, ap, ap₂, ◌∙◌, arith}
use Rattle.std.specs.Simd.{first_chunks}
use Rattle.std.specs.Int.{w64, from_be_bytes}
use Rattle.std.proofs.Math.Nat.{add-zero}
use Rattle.std.proofs.lemmas.List.{drop-drop}
use Rattle.octets.specs.Numbers.{AllBytes}
use Rattle.remainder.specs.Remainder.{with_bits, message_bits, remainder_of}
use Rattle.remainder.specs.Inner.{with_number, high_first}
use Rattle.remainder.proofs.Reading.{first_bytes, front_number, eight_number, read_number, at_end}
use Rattle.remainder.proofs.by_eights.Goals as goal

-- the bytes in front of the eights
start : (s front : List ℕ) (wide : ℕ) → AllBytes s → front ≡ take (length s % 8) s → length front ≡ length s % 8
    → wide ≡ high_first (length front) front 0
    → with_bits (with_number 64 0 wide) (message_bits (drop (length s % 8 + 0 * 8) s)) ≡ remainder_of s
unfolding remainder_of
start s front wide all is long e =
    let n = length s % 8 in
    let number : wide ≡ high_first n s 0 =
    e ∙ ap₂ (λ (k : ℕ) (l : List ℕ). high_first k l 0) long is ∙ front_number n n s (omega arith) in
    ap₂ (λ (x i : ℕ). with_bits (with_number 64 0 x) (message_bits (drop i s))) number (add-zero n)
    ∙ first_bytes n s all (omega arith) (omega arith)

-- the eights, one by one
eight_at : (k i : ℕ) (s : List ℕ) → i < k → get_or (first_chunks 8 k s) i [] ≡ take 8 (drop (i * 8) s)
eight_at zero i s h = absurd (omega arith)
eight_at (suc k) zero s h = refl
eight_at (suc k) (suc i) s h =
    let place : 8 + i * 8 ≡ suc i * 8 = omega arith in
    eight_at k i (drop 8 s) (omega arith) ∙ ap (take 8) (drop-drop (i * 8) 8 s ∙ ap (λ (j : ℕ). drop j s) place)

eight_is : (s : List ℕ) (eights : List (List ℕ)) (k i : ℕ) → eights ≡ first_chunks 8 k (drop (length s % 8) s) → i < k
    → from_be_bytes w64 (get_or eights i []) ≡ high_first 8 s (length s % 8 + i * 8)
eight_is s eights k i is h =
    ap (from_be_bytes w64)
    (ap (λ (l : List (List ℕ)). get_or l i []) is
    ∙ eight_at k i (drop (length s % 8) s) h
    ∙ ap (take 8) (drop-drop (i * 8) (length s % 8) s))
    ∙ eight_number s (length s % 8 + i * 8)

more : (s : List ℕ) (wide next i eight : ℕ) → AllBytes s → length s % 8 + i * 8 + 8 ≤ length s
    → eight ≡ high_first 8 s (length s % 8 + i * 8) → with_number 64 0 next ≡ with_number 64 (with_number 64 0 wide) eight
    → with_bits (with_number 64 0 wide) (message_bits (drop (length s % 8 + i * 8) s)) ≡ remainder_of s
    → with_bits (with_number 64 0 next) (message_bits (drop (length s % 8 + (i + 1) * 8) s)) ≡ remainder_of s
more s wide next i eight all h e d before =
    let at = length s % 8 + i * 8 in
    let place : length s % 8 + (i + 1) * 8 ≡ at + 8 = omega arith in
    ap₂ (λ (c j : ℕ). with_bits c (message_bits (drop j s))) (d ∙ ap (with_number 64 (with_number 64 0 wide)) e) place
    ∙ read_number 8 (with_number 64 0 wide) s at all h
    ∙ before

pub loop-eight-init : goal.loop-eight-init
loop-eight-init c =
    let r = c.as_rchunks in
    start c.args.s.now r.result.0.now c.number_of-wide.result (λ i. (c.type_inv.s i).fits) r.ensures.front r.ensures.front_len c.number_of-wide.ensures

pub loop-eight-preserved : goal.loop-eight-preserved
loop-eight-preserved c =
    let s = c.args.s.now in
    let i = c.loop-eight.eight-index in
    let r = c.as_rchunks in
    more s c.loop-eight.wide c.next_eight-wide.result i c.from_be_bytes.result (λ k. (c.type_inv.s k).fits) (omega (arith, r.ensures.back_len))
    (c.from_be_bytes.ensures ∙ eight_is s r.result.1.now (length s / 8) i r.ensures.back (omega (arith, r.ensures.back_len)))
    c.next_eight-wide.ensures c.loop-eight.invariant

pub returns : goal.returns
returns c =
    let s = c.args.s.now in
    let i = c.loop-eight.eight-index in
    c.narrow.ensures
    ∙ sym (at_end s (with_number 64 0 c.loop-eight.wide) (length s % 8 + i * 8) (omega (arith, c.as_rchunks.ensures.back_len)))
    ∙ c.loop-eight.invariant
