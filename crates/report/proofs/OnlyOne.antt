-- No second answer meets the promise of this crate, and no other bytes in the lent slice.
-- Assumes nothing.
use mathlib.Core.Path.{◌≡◌}
use mathlib.Core.List.{List}
use Prim.Native.Nat.{ℕ}
use Rattle.std.specs.Prelude.{Result}
use Rattle.reason.specs.declared.Reason.{Reason}
use Rattle.reason.proofs.OnlyOne.{only_one_told}
use Rattle.octets.specs.Runs.{put_in}
use Rattle.report.specs.Reporting.{text_of, reporting, Reports}

pub only_one_report : (s out : List ℕ) (r q : Result ℕ Reason) (left also : List ℕ) → Reports s out r left → Reports s out q also
    → (r ≡ q) × (left ≡ also)
only_one_report s out r q left also d e = only_one_told out (reporting s out) (λ n. put_in out 0 (text_of s)) r q left also d e
