-- The loop's invariant: whether the first k bytes are clear.
use Rattle.std.proofs.Common.{◌≡◌}
use Rattle.positions.specs.Spans.{every}
use Rattle.record.specs.Inner.{clear_at}
use Rattle.record.proofs.reading.clear.Given as goal

abbrev pub invariant-loop-k : goal.invariant-loop-k
invariant-loop-k l = l.clear ≡ every (clear_at l.b l.eight) 0 l.k
