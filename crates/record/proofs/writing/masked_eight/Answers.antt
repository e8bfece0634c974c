-- `record::writing::masked_eight` meets its contract: the first k are masked.
-- Assumes nothing.
use Rattle.std.proofs.Common.{◌<◌, ◌≢◌, ◌∙◌, length, cond, sym, ap, arith, get_or-set_other, get_or-set_same, below_more}
use lib.Seq.{ext_get_or}
use Rattle.octets.specs.Numbers.{byte_at}
use Rattle.octets.specs.Values.{values_from}
use Rattle.octets.proofs.ValueLaws.{value_at, values_long}
use Rattle.record.specs.Inner.{byte_saved}
use Rattle.record.proofs.writing.masked_eight.Goals as goal

pub loop-k-init : goal.loop-k-init
loop-k-init c = λ j h. absurd (omega arith)

pub loop-k-preserved : goal.loop-k-preserved
loop-k-preserved c =
    let d = c.loop-k in
    below_more _ _
    (λ j h. let ne : j ≢ d.k = omega arith in rw get_or-set_other (d.invariant j h))
    (let lt : d.k < length d.byte-items = omega arith in
    rw get_or-set_same (c.masked.ensures ∙ ap (λ (w : _). cond w (byte_at c.args.eight.now d.k) 0) c.is_set.ensures))

pub returns : goal.returns
returns c =
    let f = byte_saved c.args.b c.args.eight.now in
    let d = c.loop-k in
    let long = c.loop-k-test.array_long in
    ext_get_or 0 d.byte-items (values_from f 0 8) (long ∙ sym (values_long f 0 8))
    (λ j h. let l : j < d.k = omega (arith, long) in d.invariant j l ∙ sym (value_at f 0 8 j (omega (arith, long, h))))
