-- `record::reading::spare_clear` meets its contract: the last byte, shifted down to its spare bits.
-- Assumes nothing.
use mathlib.Core.Path.{sym}
use Prim.Native.Nat.{◌/◌, ◌%◌, ◌^◌}
use native.Mathlib.Nat.{div-le_self}
use native.Mathlib.Omega.{arith}
use Rattle.octets.specs.Numbers.{byte_at}
use Rattle.record.proofs.ReadSteps.{no_spare, spare_by_shift}
use Rattle.record.proofs.reading.spare_clear.Goals as goal

pub returns-then-l-eq0 : goal.returns-then-l-eq0
returns-then-l-eq0 c = sym (no_spare c.args.l c.args.map.now c.if-l-eq0.true)

pub returns : goal.returns
returns c =
    let a = c.args in
    let b = (c.type_inv.map (a.l / 8)).fits in
    let d = div-le_self (byte_at a.map.now (a.l / 8)) (2 ^ (a.l % 8)) in
    spare_by_shift a.l a.map.now c.if-l-eq0.false b (omega (arith, b, d))
