-- `record::reading::clear` meets its contract: a full byte is clear; of another, whether the first k bytes are.
-- Assumes nothing.
use Rattle.std.proofs.Common.{◌≡◌, ◌||◌, sym, ap, ◌∙◌, arith}
use lib.Dec.{eqb}
use Rattle.octets.specs.Numbers.{byte_at}
use Rattle.positions.specs.Spans.{every}
use Rattle.positions.proofs.SpanLaws.{every_none}
use Rattle.record.specs.Inner.{clear_at}
use Rattle.record.proofs.ReadSteps.{full_clear, clear_more}
use Rattle.record.proofs.reading.clear.Goals as goal

pub returns-then-b-eq255 : goal.returns-then-b-eq255
returns-then-b-eq255 c = sym (full_clear c.args.b c.args.eight.now c.if-b-eq255.true)

pub loop-k-init : goal.loop-k-init
loop-k-init c = sym (every_none (clear_at c.args.b c.args.eight.now) 0)

pub loop-k-preserved : goal.loop-k-preserved
loop-k-preserved c =
    clear_more c.args.b c.args.eight.now c.loop-k.k _ _ c.loop-k.invariant
    (ap (λ (w : _). w || eqb (byte_at c.args.eight.now c.loop-k.k) 0) c.is_set.ensures)

pub returns : goal.returns
returns c =
    let e : c.loop-k.k ≡ 8 = omega arith in
    c.loop-k.invariant ∙ ap (every (clear_at c.args.b c.args.eight.now) 0) e
