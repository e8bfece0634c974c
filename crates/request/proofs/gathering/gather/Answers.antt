-- `request::gathering::gather` meets its contract: what is listed so far, with what is left, is the whole.
-- Assumes nothing.
use mathlib.Core.Path.{◌≡◌, sym, ap, ◌∙◌}
use native.Mathlib.Omega.{arith}
use Rattle.reason.specs.Reasons.{number_of}
use Rattle.reason.specs.Answer.{accepted, answer_of}
use Rattle.holes.specs.Listing.{listing}
use Rattle.holes.proofs.ListedLaws.{listed_within}
use Rattle.request.proofs.GatheringLaws.{at_first, one_more, none_listed, no_more, all_listed}
use Rattle.request.proofs.gathering.gather.Goals as goal

pub loop-count-init : goal.loop-count-init
loop-count-init c = at_first _ _ _ _ c.requires

pub bytes_of-requires : goal.bytes_of-requires
bytes_of-requires c =
    let hole = c.in-Ok.hole in
    let listed : listing c.args.l c.args.map.now c.loop-count.end ≡ accepted hole = sym c.list.ensures ∙ ap answer_of c.in-Ok.is in
    omega (arith, listed_within c.args.l c.args.map.now c.loop-count.end hole listed)

pub overflow_add-end : goal.overflow_add-end
overflow_add-end c =
    let hole = c.in-Ok.hole in
    let listed : listing c.args.l c.args.map.now c.loop-count.end ≡ accepted hole = sym c.list.ensures ∙ ap answer_of c.in-Ok.is in
    omega (arith, listed_within c.args.l c.args.map.now c.loop-count.end hole listed)

pub loop-count-preserved : goal.loop-count-preserved
loop-count-preserved c =
    let a = c.args in
    let l = c.loop-count in
    let hole = c.in-Ok.hole in
    let listed : listing a.l a.map.now l.end ≡ accepted hole = sym c.list.ensures ∙ ap answer_of c.in-Ok.is in
    one_more a.l a.map.now a.place a.entries.now c.requires l.count l.end _ l.invariant
    hole _ _ c.put.result c.loop-count-test.true listed c.bytes_of.ensures c.put.ensures

pub returns-in-Err : goal.returns-in-Err
returns-in-Err c =
    let a = c.args in
    let l = c.loop-count in
    none_listed a.l a.map.now a.place a.entries.now c.requires l.count l.end _ l.invariant (number_of c.in-Err.reason)
    (sym c.list.ensures ∙ ap answer_of c.in-Err.is) c.if-count-eq0.true

pub returns-in-Err-2 : goal.returns-in-Err-2
returns-in-Err-2 c =
    let a = c.args in
    let l = c.loop-count in
    no_more a.l a.map.now a.place a.entries.now c.requires l.count l.end _ l.invariant (number_of c.in-Err-2.field-0)
    (sym c.list.ensures ∙ ap answer_of c.in-Err-2.is) (λ z. c.if-count-eq0.false z)

pub returns : goal.returns
returns c =
    let a = c.args in
    let l = c.loop-count in
    all_listed a.l a.map.now a.place a.entries.now c.requires l.count l.end _ l.invariant c.loop-count-test.false
