-- The loop's invariant: what the notes say so far.
use Rattle.std.proofs.Common.{length, ◌-◌}
use Rattle.header.proofs.NoteLaws.{SoFar}
use Rattle.header.proofs.notes.walk.Given as goal

abbrev pub invariant-loop-item : goal.invariant-loop-item
invariant-loop-item l = SoFar l.s l.cursor.at l.notes

abbrev pub decreases-loop-item : goal.decreases-loop-item
decreases-loop-item l = length l.s - l.cursor.at
