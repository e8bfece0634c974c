-- No second answer meets the promise of `take`, and no other bytes in what was lent.
-- Assumes nothing.
use mathlib.Core.Path.{◌≡◌}
use mathlib.Core.List.{List}
use Prim.Native.Nat.{ℕ}
use Rattle.std.specs.Prelude.{Result}
use Rattle.reason.specs.declared.Reason.{Reason}
use Rattle.reception.specs.Reception.{Reception}
use Rattle.reception.proofs.OnlyOne.{only_one_added}
use Rattle.taking.specs.Taking.{TakesFrame}

pub only_one_take : (s : Reception) (frame : List ℕ) (r q : Result ℕ Reason) (m m' b b' : List ℕ) → TakesFrame s frame r m b → TakesFrame s frame q m' b'
    → (r ≡ q) × (m ≡ m') × (b ≡ b')
only_one_take s frame r q m m' b b' d e = only_one_added s _ _ r q m m' b b' d e
