-- No second answer meets a promise of this crate, and no other bytes or numbers in what was lent.
-- Assumes nothing.
use mathlib.Core.Path.{◌≡◌}
use Prim.Native.Nat.{ℕ}
use Rattle.reason.specs.Answer.{Answer}
use Rattle.reason.proofs.OnlyOne.{only_one}
use Rattle.station.specs.Boundary.{Exported}

-- every function of the boundary
pub only_one_exported : {A L : Type 0} (answer : Answer A) (made : A → L) (lent : L) (r q : ℕ) (left also : L) → Exported answer made lent r left
    → Exported answer made lent q also → (r ≡ q) × (left ≡ also)
only_one_exported answer made lent r q left also d e = (only_one r q d.returns e.returns, only_one left also d.leaves e.leaves)
