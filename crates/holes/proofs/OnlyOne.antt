-- No second answer meets the promise of this crate.
-- Assumes nothing.
use mathlib.Core.Path.{◌≡◌}
use mathlib.Core.List.{List}
use Prim.Native.Nat.{ℕ}
use Rattle.std.specs.Prelude.{Result}
use Rattle.reason.specs.declared.Reason.{Reason}
use Rattle.reason.specs.Answer.{answer_of}
use Rattle.reason.proofs.OnlyOne.{only_one_answer}
use Rattle.holes.specs.declared.Hole.{Hole}
use Rattle.holes.specs.Listing.{listing}

-- `list`
pub only_one_list : (l : ℕ) (map : List ℕ) (place : ℕ) (r q : Result Hole Reason) → answer_of r ≡ listing l map place → answer_of q ≡ listing l map place
    → r ≡ q
only_one_list l map place r q = only_one_answer r q
