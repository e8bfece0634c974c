-- The loop's invariant: the positions of the map bytes so far are joined.
use Rattle.std.proofs.Common.{◌*◌, not, ◌&&◌}
use Rattle.positions.specs.Map.{held}
use Rattle.runs.specs.Inner.{MapRun, BufferRun}
use Rattle.runs.proofs.joins.add.Given as goal

abbrev pub invariant-loop-i : goal.invariant-loop-i
invariant-loop-i l = record {
  joined : MapRun l.initial.map (held l.second.map.now) 0 (l.i * 8) l.map l.new;
  copied : BufferRun (λ q. held l.second.map.now q && not (held l.initial.map q)) l.second.buffer.now l.initial.buffer 0 (l.i * 8) l.buffer;
}
