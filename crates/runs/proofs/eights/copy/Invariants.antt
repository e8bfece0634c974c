-- The loop's invariant: the first `k` places are copied where their bit is set.
use Rattle.positions.specs.Map.{is_set}
use Rattle.runs.specs.Inner.{BufferRun}
use Rattle.runs.proofs.eights.copy.Given as goal

abbrev pub invariant-loop-k : goal.invariant-loop-k
invariant-loop-k l = BufferRun (is_set l.asked) l.from l.initial.to 0 l.k l.to
