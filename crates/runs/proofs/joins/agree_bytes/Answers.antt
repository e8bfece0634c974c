-- `runs::joins::agree_bytes` meets its contract: each map byte is asked, one after the other.
-- Assumes nothing.
use Rattle.std.proofs.Common.{◌∙◌, ◌-◌, ◌*◌, ◌+◌, refl, rules, arith}
use borrow.Author.Tests.{tests}
use Rattle.std.proofs.lemmas.Iterator.{YieldsList-from_range}
use Rattle.std.proofs.lemmas.Iterator.Search.{all_from_yields_List}
use Rattle.positions.specs.Spans.{every}
use Rattle.runs.specs.Inner.{both_agree}
use Rattle.runs.proofs.Steps.{all_eights}
use Rattle.runs.proofs.joins.agree_bytes.Goals as goal

pub returns : goal.returns
returns c =
    let x = c.args in
    let t = both_agree x.held.map.now x.held.buffer.now x.second.map.now x.second.buffer.now in
    all_from_yields_List (λ i. every t (i * 8) (i * 8 + 8 - i * 8)) _ _ c.all.result c.all.ensures.ran
    (YieldsList-from_range 0 x.bytes x.bytes refl (omega arith)) (λ x b q k. search (rules, tests))
    ∙ all_eights t 0 x.bytes
