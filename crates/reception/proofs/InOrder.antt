-- Each operation of this crate gives each of its reasons exactly when it is the first that holds (demand 1).
-- Assumes nothing.
use mathlib.Core.List.{List}
use Prim.Native.Nat.{ℕ}
use Rattle.reason.specs.Order.{Exactly}
use Rattle.reason.proofs.OrderLaws.{exactly}
use Rattle.reception.specs.Reception.{Reception, PieceData}
use Rattle.reception.specs.Adding.{of_piece, of_reception, new_in}
use Rattle.reception.specs.Opening.{opening_checks, opening}
use Rattle.reception.specs.Taking.{taking_checks, taking}
use Rattle.reception.specs.Joining.{joining_checks, joining}

pub open_in_order : (l : ℕ) (map buffer : List ℕ) → Exactly (opening_checks l map buffer) tt (opening l map buffer)
unfolding opening
open_in_order l map buffer = exactly (opening_checks l map buffer) tt

pub take_in_order : (s : Reception) (x : PieceData) → Exactly (taking_checks s x) (new_in s (of_piece x)) (taking s x)
unfolding taking
take_in_order s x = exactly (taking_checks s x) (new_in s (of_piece x))

pub join_in_order : (s t : Reception) → Exactly (joining_checks s t) (new_in s (of_reception t)) (joining s t)
unfolding joining
join_in_order s t = exactly (joining_checks s t) (new_in s (of_reception t))
