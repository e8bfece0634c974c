-- `request::write_fill` meets its contract: by what was gathered, and past the last test the frame is written.
-- Assumes nothing.
use mathlib.Core.Path.{◌≡◌, refl, sym, ◌∙◌}
use Prim.Native.Nat.{◌*◌, ◌≤◌}
use lib.ListN.{length}
use lib.Dec.{lit≤}
use lib.Seq.{length-take-le}
use native.Mathlib.Omega.{arith}
use Rattle.std.proofs.Common.{rules}
use Rattle.std.specs.Prelude.{Err}
use Rattle.reason.specs.declared.Reason.TheVariants.{Address}
use Rattle.request.specs.Writing.{wanted_for}
use Rattle.request.proofs.WritingLaws.{fills_2, fill_refused}
use Rattle.request.proofs.GatheringLaws.{gathered_fits, gathered_none, gathered_short, gathered_written}
use Rattle.request.proofs.write_fill.Goals as goal

pub returns-then-not-writable : goal.returns-then-not-writable
returns-then-not-writable c =
    let a = c.args in
    let w = wanted_for a.head a.file a.map.now in
    fill_refused w a.place a.target.now Address (fills_2 w a.place a.target.now (sym c.writable.ensures ∙ c.if-not-writable.true))

pub returns-in_err-written : goal.returns-in_err-written
returns-in_err-written c =
    let a = c.args in
    let reason = c.in_err-written.field-0.0 in
    let passed : c.from_residual.result ≡ Err reason = search rules in
    rw passed (gathered_none (wanted_for a.head a.file a.map.now) a.place a.target.now (sym c.writable.ensures ∙ c.if-not-writable.false) reason
    c.in_err-written.ensures.0)

pub returns-then-target-size : goal.returns-then-target-size
returns-then-target-size c =
    let a = c.args in
    gathered_short (wanted_for a.head a.file a.map.now) a.place a.target.now (sym c.writable.ensures ∙ c.if-not-writable.false) _ _ _
    c.in_ok-written.ensures c.if-target-size.true

-- the bytes of the holes stand within the entries
pub slice_bounds-entries-end : goal.slice_bounds-entries-end
slice_bounds-entries-end c =
    let a = c.args in
    gathered_fits a.file.length a.map.now a.place _ _ _ (lit≤ tt) c.in_ok-written.ensures

pub slice_bounds-put-end : goal.slice_bounds-put-end
slice_bounds-put-end c =
    let a = c.args in
    let fits : c.in_ok-written.written.count * 5 ≤ length c.gather.new.entries =
    gathered_fits a.file.length a.map.now a.place _ _ _ (lit≤ tt) c.in_ok-written.ensures in
    sym (length-take-le _ _ fits)

pub start_frame-requires : goal.start_frame-requires
start_frame-requires c = (sym c.writable.ensures ∙ c.if-not-writable.false, omega (arith, c.if-target-size.false))

pub returns : goal.returns
returns c =
    let a = c.args in
    gathered_written (wanted_for a.head a.file a.map.now) a.place a.target.now (sym c.writable.ensures ∙ c.if-not-writable.false) _ _ _
    c.in_ok-written.ensures (omega (arith, c.if-target-size.false)) (lit≤ tt)
    _ _ _ c.put.result refl c.start_frame.ensures c.put.ensures
