-- `runs::pieces::hold` meets its contract: the first map byte, the whole ones so far, and the rest.
-- Assumes nothing.
use Rattle.std.proofs.Common.{◌≡◌, ◌+◌, ◌-◌, ◌*◌, true, refl, arith}
use Rattle.runs.proofs.MarkLaws.{run_none}
use Rattle.runs.proofs.PieceSteps.{held_more, begun}
use Rattle.runs.proofs.pieces.hold.Goals as goal

pub returns-then-at-end : goal.returns-then-at-end
returns-then-at-end c =
    let x = c.args in
    let e : x.end - x.at ≡ 0 = omega arith in
    rw e (run_none x.map.now (λ q. true) x.at (λ i. (c.type_inv.map i).fits))

pub overflow_add-new : goal.overflow_add-new
overflow_add-new c =
    let x = c.args in
    let d = c.loop-i in
    let w = begun x.at x.end _ d.i c.byte_end-start.ensures (omega arith) c.if-start-end.false d.auto.i in
    let more = held_more x.map.now x.at d.i d.map d.new d.invariant w.0 (d.i * 8) _ ((d.i + 1) * 8) refl (omega arith) _ _ c.hold_byte-new-in-loop-i.ensures in
    omega (arith, more.1)

pub loop-i-preserved : goal.loop-i-preserved
loop-i-preserved c =
    let x = c.args in
    let d = c.loop-i in
    let w = begun x.at x.end _ d.i c.byte_end-start.ensures (omega arith) c.if-start-end.false d.auto.i in
    (held_more x.map.now x.at d.i d.map d.new d.invariant w.0 (d.i * 8) _ ((d.i + 1) * 8) refl (omega arith) _ _ c.hold_byte-new-in-loop-i.ensures).0

pub overflow_add-result : goal.overflow_add-result
overflow_add-result c =
    let x = c.args in
    let d = c.loop-i in
    let w = begun x.at x.end _ d.i c.byte_end-start.ensures (omega arith) c.if-start-end.false d.auto.i in
    let all = held_more x.map.now x.at d.i d.map d.new d.invariant w.0 _ _ x.end (omega (arith, w)) (omega arith) _ _ c.hold_byte.ensures in
    omega (arith, all.1)

pub returns : goal.returns
returns c =
    let x = c.args in
    let d = c.loop-i in
    let w = begun x.at x.end _ d.i c.byte_end-start.ensures (omega arith) c.if-start-end.false d.auto.i in
    (held_more x.map.now x.at d.i d.map d.new d.invariant w.0 _ _ x.end (omega (arith, w)) (omega arith) _ _ c.hold_byte.ensures).0
