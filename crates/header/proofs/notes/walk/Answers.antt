-- `header::notes::walk` meets its contract: the loop keeps what the notes say so far.
-- Assumes nothing.
use Rattle.std.proofs.Common.{arith}
use Rattle.header.proofs.ItemLaws.{found_by_told}
use Rattle.header.proofs.NoteLaws.{one_more_at, at_end, at_break}
use Rattle.header.proofs.notes.walk.Goals as goal

pub overflow_add-notes : goal.overflow_add-notes
overflow_add-notes c =
    let x = found_by_told _ _ c.in-Found.is c.step.ensures in
    record { fits = omega (arith, c.loop-item.invariant.few c.place-at.result, x.starts, x.next, x.within) }

pub loop-item-smaller : goal.loop-item-smaller
loop-item-smaller c =
    let x = found_by_told _ _ c.in-Found.is c.step.ensures in
    omega (arith, x.next, x.within)

pub loop-item-preserved : goal.loop-item-preserved
loop-item-preserved c = one_more_at _ _ _ c.loop-item.invariant _ _ _ c.in-Found.is c.step.ensures _ c.place-at.ensures.value

pub returns-in-Ended : goal.returns-in-Ended
returns-in-Ended c = at_end _ _ _ c.loop-item.invariant _ _ c.in-Ended.is c.step.ensures

pub returns-in-Broken : goal.returns-in-Broken
returns-in-Broken c = at_break _ _ _ c.loop-item.invariant _ c.in-Broken.is c.step.ensures
