-- `report` gives its one reason exactly when it holds (demand 1).
-- Assumes nothing.
use mathlib.Core.List.{List}
use Prim.Native.Nat.{ℕ}
use lib.ListN.{length}
use Rattle.reason.specs.Order.{Exactly}
use Rattle.reason.proofs.OrderLaws.{exactly}
use Rattle.report.specs.Reporting.{text_of, reporting_checks, reporting}

pub report_in_order : (s out : List ℕ) → Exactly (reporting_checks out) (length (text_of s)) (reporting s out)
unfolding reporting
report_in_order s out = exactly (reporting_checks out) (length (text_of s))
