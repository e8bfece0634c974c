-- No second answer meets a promise of this crate.
-- Assumes nothing.
use mathlib.Core.Path.{◌≡◌, sym, ◌∙◌}
use mathlib.Core.Bool.{Bool}
use mathlib.Core.List.{List}
use Prim.Native.Nat.{ℕ}
use Rattle.remainder.specs.Remainder.{remainder_of}
use Rattle.remainder.specs.Check.{check_right}

-- `remainder`
pub only_one_remainder : (s : List ℕ) (r q : ℕ) → r ≡ remainder_of s → q ≡ remainder_of s → r ≡ q
only_one_remainder s r q d e = d ∙ sym e

-- `check_right`
pub only_one_check : (s : List ℕ) (r q : Bool) → r ≡ check_right s → q ≡ check_right s → r ≡ q
only_one_check s r q d e = d ∙ sym e
