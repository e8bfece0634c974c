-- The loop's invariant: the first bytes of the run stand in `out`.
use Rattle.std.proofs.Common.{length, ◌≡◌}
use Rattle.std.proofs.Math.Seq.{paste}
use Rattle.octets.proofs.store.Given as goal

abbrev pub invariant-loop-k : goal.invariant-loop-k
invariant-loop-k l = (l.out ≡ paste l.initial.out l.at l.run l.k) × (length l.out ≡ length l.initial.out)
