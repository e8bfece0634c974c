-- `runs::eights::agree` meets its contract: no bit is set, all eight are, or the places are asked one after the other.
-- Assumes nothing.
use Rattle.std.proofs.Common.{◌≡◌, ◌∙◌, List, ℕ, length, sym, ap₂, refl, rules, arith}
use borrow.Author.Tests.{tests}
use Rattle.std.proofs.lemmas.Iterator.{YieldsList-from_range}
use Rattle.std.proofs.lemmas.Iterator.Search.{all_from_yields_List}
use Rattle.std.proofs.lemmas.List.{take_all}
use Rattle.positions.specs.Spans.{every}
use Rattle.positions.proofs.SpanLaws.{all_if}
use Rattle.runs.specs.Inner.{same_at, bit_agrees}
use Rattle.runs.proofs.EightLaws.{none_asked, all_asked}
use Rattle.runs.proofs.Steps.{all_every}
use Rattle.runs.proofs.eights.agree.Goals as goal

pub returns-then-asked-eq0 : goal.returns-then-asked-eq0
returns-then-asked-eq0 c =
    let x = c.args in
    sym (all_if (bit_agrees x.asked x.bytes.now 0 x.other.now 0) 0 (length x.bytes.now) (λ q _ _. none_asked x.asked x.bytes.now 0 x.other.now 0 q c.if-asked-eq0.true))

pub returns : goal.returns
returns c =
    let x = c.args in
    let n : length x.bytes.now ≡ 8 = omega (arith, c.in-Some-Some.ensures.cases.enough) in
    c.same_eight.ensures
    ∙ ap₂ (λ (s t : List ℕ). every (same_at s 0 t) 0 8)
    (c.in-Some-Some.ensures.cases.same ∙ take_all 8 x.bytes.now (omega arith)) (c.in-Some-Some.ensures'.cases.same ∙ take_all 8 x.other.now (omega arith))
    ∙ all_asked x.asked x.bytes.now 0 x.other.now 0 (length x.bytes.now) c.if-asked.true n

pub returns-2 : goal.returns-2
returns-2 c =
    let x = c.args in
    all_from_yields_List (bit_agrees x.asked x.bytes.now 0 x.other.now 0) _ _ c.all.result c.all.ensures.ran
    (YieldsList-from_range 0 (length x.bytes.now) (length x.bytes.now) refl (omega arith)) (λ x b q k. search (rules, tests))
    ∙ all_every (bit_agrees x.asked x.bytes.now 0 x.other.now 0) 0 (length x.bytes.now)
