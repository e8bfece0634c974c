-- The loop's invariant: the bytes of the map bytes so far are written.
use Rattle.std.proofs.Common.{◌*◌, ◌≡◌, cond}
use Rattle.octets.specs.Numbers.{byte_at}
use Rattle.octets.specs.Values.{values_from}
use Rattle.octets.specs.Runs.{put_in}
use Rattle.positions.specs.Map.{held}
use Rattle.record.proofs.writing.put_buffer.Given as goal

abbrev pub invariant-loop-i : goal.invariant-loop-i
invariant-loop-i l =
    l.target ≡ put_in l.initial.target l.at (values_from (λ q. cond (held l.map q) (byte_at l.reception.buffer.now q) 0) 0 (l.i * 8))
