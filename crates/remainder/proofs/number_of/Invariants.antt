-- The loop's invariant: the number is that of the bytes so far.
use Rattle.std.proofs.Common.{◌≡◌}
use Rattle.remainder.specs.Inner.{high_first}
use Rattle.remainder.proofs.number_of.Given as goal

abbrev pub invariant-loop-b : goal.invariant-loop-b
invariant-loop-b l = l.number ≡ high_first l.b-index l.s 0
