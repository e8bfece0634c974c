-- The loop's invariant: the test of the first `k` bytes.
use Rattle.std.proofs.Common.{◌≡◌}
use Rattle.positions.specs.Spans.{every}
use Rattle.runs.specs.Inner.{same_at}
use Rattle.runs.proofs.eights.same_eight.Given as goal

abbrev pub invariant-loop-k : goal.invariant-loop-k
invariant-loop-k l = l.same ≡ every (same_at l.bytes 0 l.other) 0 l.k
