-- The loop's invariant: the first k bytes are as they are saved.
use Rattle.std.proofs.Common.{◌≡◌, ℕ, ◌<◌, get_or}
use Rattle.record.specs.Inner.{byte_saved}
use Rattle.record.proofs.writing.masked_eight.Given as goal

abbrev pub invariant-loop-k : goal.invariant-loop-k
invariant-loop-k l = (j : ℕ) → j < l.k → get_or l.byte-items j 0 ≡ byte_saved l.b l.eight j
