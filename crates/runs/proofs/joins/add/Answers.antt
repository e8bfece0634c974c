-- `runs::joins::add` meets its contract: the map bytes so far are joined, and then the last positions.
-- Assumes nothing.
use Rattle.std.proofs.Common.{◌+◌, ◌-◌, ◌*◌, ◌/◌, not, ◌&&◌, zero-add, arith}
use Rattle.positions.specs.Map.{held}
use Rattle.runs.proofs.MarkLaws.{run_none}
use Rattle.runs.proofs.RunSteps.{runs_on, runs_most}
use Rattle.runs.proofs.CopyLaws.{copy_none}
use Rattle.runs.proofs.JoinSteps.{copies_on}
use Rattle.runs.proofs.joins.add.Goals as goal

pub loop-i-init : goal.loop-i-init
loop-i-init c =
    let x = c.args in
    record {
      joined = run_none x.map.now (held x.second.map.now) 0 (λ i. (c.type_inv.map i).fits);
      copied = copy_none (λ q. held x.second.map.now q && not (held x.map.now q)) x.second.buffer.now x.buffer.now 0;
    }

-- the map bytes so far and this one
pub overflow_add-new : goal.overflow_add-new
overflow_add-new c =
    let d = c.loop-i in
    let most = runs_most c.args.map.now (held c.args.second.map.now) 0 (d.i * 8) d.map d.new d.invariant.joined (d.i * 8) (d.i * 8 + 8 - d.i * 8) ((d.i + 1) * 8)
    (zero-add (d.i * 8)) (omega arith) _ _ c.add_byte-new.ensures.map_run in
    omega (arith, most)

pub loop-i-preserved : goal.loop-i-preserved
loop-i-preserved c =
    let x = c.args in
    let d = c.loop-i in
    record {
      joined =
          runs_on x.map.now (held x.second.map.now) 0 (d.i * 8) d.map d.new d.invariant.joined (d.i * 8) (d.i * 8 + 8 - d.i * 8) ((d.i + 1) * 8)
          (zero-add (d.i * 8)) (omega arith) _ _ c.add_byte-new.ensures.map_run;
      copied =
          copies_on x.map.now x.second.map.now 0 (d.i * 8) d.map d.new d.invariant.joined (d.i * 8) (d.i * 8 + 8 - d.i * 8) ((d.i + 1) * 8)
          (zero-add (d.i * 8)) (omega arith) x.second.buffer.now x.buffer.now d.buffer _ d.invariant.copied c.add_byte-new.ensures.buffer_run;
    }

-- .. and the last positions
pub overflow_add-result : goal.overflow_add-result
overflow_add-result c =
    let x = c.args in
    let d = c.loop-i in
    let most = runs_most x.map.now (held x.second.map.now) 0 (d.i * 8) d.map d.new d.invariant.joined (x.n / 8 * 8) (x.n - x.n / 8 * 8) x.n (omega arith) (omega arith) _ _ c.add_byte.ensures.map_run in
    omega (arith, most)

pub returns-clause-map_run : goal.returns-clause-map_run
returns-clause-map_run c =
    let x = c.args in
    let d = c.loop-i in
    runs_on x.map.now (held x.second.map.now) 0 (d.i * 8) d.map d.new d.invariant.joined (x.n / 8 * 8) (x.n - x.n / 8 * 8) x.n (omega arith) (omega arith) _ _ c.add_byte.ensures.map_run
