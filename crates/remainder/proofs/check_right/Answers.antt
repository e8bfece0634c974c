-- `remainder::check_right` meets its contract, by what `remainder` ensures: the last two bytes, if there are two, are the number given.
-- Assumes nothing.
use Rattle.std.proofs.Common.{◌≡◌, ℕ, ◌+◌, ◌*◌, ◌-◌, ◌≤◌, ◌<◌, Bool, false, ◌&&◌, List, length, get_or, take, drop, eqb, refl, sym, ap, ap₂, ◌∙◌, arith}
use Rattle.std.proofs.Math.Nat.{add-zero}
use Rattle.std.proofs.lemmas.List.{get_or-drop}
use borrow.Author.Tests.{le-leb, lt-leb}
use Rattle.remainder.specs.Remainder.{remainder_of}
use Rattle.remainder.specs.Check.{check_right}
use Rattle.remainder.proofs.check_right.Goals as goal

short : (s : List ℕ) → length s < 2 → false ≡ check_right s
unfolding check_right
short s h = sym (ap₂ (λ (x y : Bool). x && y) (lt-leb 2 (length s) h) refl)

whole : (s : List ℕ) (r g : ℕ) → 2 ≤ length s → r ≡ remainder_of (take (length s - 2) s)
    → g ≡ get_or s (length s - 2) 0 * 256 + get_or s (length s - 2 + 1) 0 → eqb r g ≡ check_right s
unfolding check_right
whole s r g h d e = ap₂ eqb d e ∙ sym (ap₂ (λ (x y : Bool). x && y) (le-leb 2 (length s) h) refl)

-- a byte of the last ones
byte_of : (s last : List ℕ) (n k at : ℕ) → last ≡ drop n s → n + k ≡ at → get_or last k 0 ≡ get_or s at 0
byte_of s last n k at e a = ap (λ (l : List ℕ). get_or l k 0) e ∙ get_or-drop n s k 0 ∙ ap (λ (j : ℕ). get_or s j 0) a

pub returns-in_default : goal.returns-in_default
returns-in_default c = short c.args.information.now (omega (arith, c.in_default.ensures.cases))

pub returns : goal.returns
returns c =
    let s = c.args.information.now in
    let parts = c.in-Some.ensures.cases in
    let n = length s - 2 in
    let high = byte_of s c.in-Some.check.now n 0 n parts.1 (add-zero n) in
    let low = byte_of s c.in-Some.check.now n 1 (n + 1) parts.1 refl in
    whole s _ _ (omega (arith, parts.2)) (c.remainder.ensures ∙ ap remainder_of parts.0) (omega (arith, high, low))
