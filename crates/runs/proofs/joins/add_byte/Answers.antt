-- `runs::joins::add_byte` meets its contract: what is new of one map byte.
-- Assumes nothing.
use Rattle.std.proofs.Common.{arith}
use Rattle.positions.specs.Map.{is_set}
use Rattle.runs.proofs.CopyLaws.{copy_part}
use Rattle.runs.proofs.JoinSteps.{byte_held, byte_copied, byte_not_copied, none_new}
use Rattle.runs.proofs.joins.add_byte.Goals as goal

pub returns-then-new-eq0-clause-map_run : goal.returns-then-new-eq0-clause-map_run
returns-then-new-eq0-clause-map_run c =
    let x = c.args in
    byte_held x.map.now x.second.map.now x.from x.end c.lowest-theirs.result c.requires.first.0 (omega arith) c.requires.first.2 c.lowest-theirs.ensures c.hold-new.new.map 0
    (none_new _ _ _ _ _ _ c.hold-new.ensures.map_run c.if-new-eq0.true)

pub returns-then-new-eq0-clause-buffer_run : goal.returns-then-new-eq0-clause-buffer_run
returns-then-new-eq0-clause-buffer_run c =
    let x = c.args in
    byte_not_copied x.map.now x.second.map.now x.from x.end c.lowest-theirs.result c.requires.first.0 (omega arith) c.requires.first.2 c.lowest-theirs.ensures
    c.hold-new.result c.hold-new.ensures.new c.if-new-eq0.true x.second.buffer.now x.buffer.now

pub returns-clause-map_run : goal.returns-clause-map_run
returns-clause-map_run c =
    let x = c.args in
    rw c.count_set.ensures
    (byte_held x.map.now x.second.map.now x.from x.end c.lowest-theirs.result c.requires.first.0 (omega arith) c.requires.first.2 c.lowest-theirs.ensures _ _ c.hold-new.ensures.map_run)

pub returns-clause-buffer_run : goal.returns-clause-buffer_run
returns-clause-buffer_run c =
    let x = c.args in
    byte_copied x.map.now x.second.map.now x.from x.end c.lowest-theirs.result c.requires.first.0 (omega arith) c.requires.first.2 c.lowest-theirs.ensures
    c.hold-new.result c.hold-new.ensures.new x.second.buffer.now x.buffer.now _
    (copy_part (is_set c.hold-new.result) x.second.buffer.now x.buffer.now x.from x.end c.copy.new.to (omega arith) (omega arith) (omega arith) c.copy.ensures)
