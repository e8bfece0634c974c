-- The loop's invariant: the positions of the first map byte, and of the whole ones so far, are held.
use Rattle.std.proofs.Common.{◌-◌, ◌*◌, true}
use Rattle.runs.specs.Inner.{MapRun}
use Rattle.runs.proofs.pieces.hold.Given as goal

abbrev pub invariant-loop-i : goal.invariant-loop-i
invariant-loop-i l = MapRun l.fn.map (λ q. true) l.at (l.i * 8 - l.at) l.map l.new
