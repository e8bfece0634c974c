-- `runs::eights::same_eight` meets its contract: the test of the bytes so far, and of one more.
-- Assumes nothing.
use Rattle.std.proofs.Common.{◌&&◌, eqb, sym, ap, ap₂, ◌∙◌, zero-add}
use native.Mathlib.Nat.{sub-zero}
use Rattle.octets.specs.Numbers.{byte_at}
use Rattle.positions.proofs.SpanLaws.{every_none, every_more}
use Rattle.runs.specs.Inner.{same_at}
use Rattle.runs.proofs.eights.same_eight.Goals as goal

pub loop-k-init : goal.loop-k-init
loop-k-init c = sym (every_none (same_at c.args.bytes.now 0 c.args.other.now) 0)

pub loop-k-preserved : goal.loop-k-preserved
loop-k-preserved c =
    let s = c.args.bytes.now in
    let t = c.args.other.now in
    let k = c.loop-k.k in
    let test = same_at s 0 t in
    ap₂ ◌&&◌ c.loop-k.invariant (ap (λ (j : _). eqb (byte_at s k) (byte_at t j)) (sym (sub-zero k)) ∙ ap test (sym (zero-add k))) ∙ every_more test 0 k
