-- Laws of the check: the remainder has 16 bits, and a message has one right check, its remainder, high byte first.
-- Assumes nothing.
use mathlib.Core.Path.{◌≡◌, sym, ap, subst, ◌∙◌}
use mathlib.Core.Bool.{true}
use mathlib.Core.List.{List, [], ◌∷◌, ◌++◌}
use Prim.Native.Nat.{ℕ, ◌+◌, ◌*◌, ◌/◌, ◌%◌, ◌-◌, ◌^◌, ◌<◌}
use native.Mathlib.Nat.{add-zero}
use native.Mathlib.Omega.{arith}
use lib.Dec.{leb, eqb}
use lib.ListN.{length, get_or, length-append}
use lib.Seq.{take-append_seam, get_or-append-add}
use borrow.Author.Tests.{le-leb, eqb-true, eq-eqb}
use Rattle.remainder.specs.Remainder.{with_bits, bits_of, message_bits, remainder_of}
use Rattle.remainder.specs.Check.{check_right, with_check}
use Rattle.remainder.proofs.Steps.{number_below, byte_bits}

-- all bits of a message: the remainder stays below 2^16
bits_below : (c : ℕ) (s : List ℕ) → c < 2 ^ 16 → with_bits c (message_bits s) < 2 ^ 16
unfolding with_bits message_bits
bits_below c [] h = h
bits_below c (b ∷ s) h = bits_below (with_bits c (bits_of b)) s (subst (λ (d : ℕ). d < 2 ^ 16) (byte_bits c b) (number_below 8 c b h))

pub remainder_below : (s : List ℕ) → remainder_of s < 2 ^ 16
unfolding remainder_of
remainder_below s = bits_below 0 s (omega arith)

-- the check of a message that two bytes follow
pub check_of : (s : List ℕ) (high low : ℕ) → check_right (s ++ high ∷ low ∷ []) ≡ eqb (remainder_of s) (high * 256 + low)
unfolding check_right
check_of s high low =
    let tail : List ℕ = high ∷ low ∷ [] in
    let size : length (s ++ tail) ≡ length s + 2 = length-append s tail in
    let n : length (s ++ tail) - 2 ≡ length s = omega arith in
    let two : leb 2 (length (s ++ tail)) ≡ true = le-leb 2 (length (s ++ tail)) (omega arith) in
    let first : get_or (s ++ tail) (length s) 0 ≡ high = ap (λ (k : ℕ). get_or (s ++ tail) k 0) (sym (add-zero (length s))) ∙ get_or-append-add s tail 0 0 in
    let second : get_or (s ++ tail) (length s + 1) 0 ≡ low = get_or-append-add s tail 1 0 in
    simp (two, n, take-append_seam, first, second)

-- two bytes after a message are a right check exactly if they are its remainder, high byte first
pub right_if : (s : List ℕ) (high low : ℕ) → remainder_of s ≡ high * 256 + low → check_right (s ++ high ∷ low ∷ []) ≡ true
right_if s high low e = check_of s high low ∙ eq-eqb (remainder_of s) (high * 256 + low) e

pub right_only_if : (s : List ℕ) (high low : ℕ) → check_right (s ++ high ∷ low ∷ []) ≡ true → remainder_of s ≡ high * 256 + low
right_only_if s high low e = eqb-true (remainder_of s) (high * 256 + low) (sym (check_of s high low) ∙ e)

-- so every message has a right check
pub right_check : (s : List ℕ) → check_right (with_check s) ≡ true
right_check s = right_if s (remainder_of s / 256) (remainder_of s % 256) (omega arith)
