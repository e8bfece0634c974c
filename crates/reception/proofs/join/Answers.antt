-- `reception::join` meets its contract: the tests in their order, then what only the second holds is copied.
-- Assumes nothing.
use mathlib.Core.Path.{◌≡◌, refl, sym, ◌∙◌}
use mathlib.Core.Bool.{true, false, ◌&&◌}
use native.Mathlib.Omega.{arith}
use lib.Dec.{eqb}
use Rattle.std.proofs.lemmas.Bool.{eqb-true, not-false, not-true, and_parts, and_from, or_left, or_right}
use Rattle.reason.specs.declared.Reason.TheVariants.{Size, OtherFile, Differs, Space}
use Rattle.runs.specs.Offers.{inside}
use Rattle.runs.proofs.OfferLaws.{is_inside, when_inside, agrees_told}
use Rattle.reception.specs.Reception.{Reception, wrong_length, short_space, lent_for, lent_in}
use Rattle.reception.specs.Adding.{of_reception}
use Rattle.reception.specs.Joining.{joining}
use Rattle.reception.proofs.OfferLaws.{right_length, enough_space, adds_refused, adds_counted}
use Rattle.reception.proofs.GivenReasons.{joins_7, joins_12, joins_9, joins_11, joins}
use Rattle.reception.proofs.join.Goals.{then-wrong_length-via-then-wrong_length, then-wrong_length-via-else-wrong_length+then-wrong_length-2, then-short-via-then-short, then-short-via-else-short+then-short-2}
use Rattle.reception.proofs.join.Goals as goal

-- the positions below the second's length, which is the first's, lie inside both
lie : (s t : Reception) → wrong_length t.length ≡ false → short_space s.length s.map s.buffer ≡ false → short_space t.length t.map t.buffer ≡ false
    → (eqb s.number t.number && eqb s.length t.length) ≡ true → (inside s.map s.buffer 0 t.length && inside t.map t.buffer 0 t.length) ≡ true
lie s t right room also_room same =
    let e = eqb-true s.length t.length (and_parts (eqb s.number t.number) (eqb s.length t.length) same).1 in
    let l = right_length t.length right in
    let w = enough_space s.length s.map s.buffer room in
    let v = enough_space t.length t.map t.buffer also_room in
    and_from _ _
    (is_inside s.map s.buffer 0 t.length (omega (arith, l)) (omega (arith, e, w)) (omega (arith, e, w)))
    (is_inside t.map t.buffer 0 t.length (omega (arith, l)) (omega (arith, v)) (omega (arith, v)))

pub returns-then-wrong_length : goal.returns-then-wrong_length
returns-then-wrong_length c =
    adds_refused _ _ _ _ _ Size
    (joins_7 _ _ (elim c.then-wrong_length.branch [ then-wrong_length-via-then-wrong_length w ↦ or_left _ _ (sym w.if-wrong_length.ensures) | then-wrong_length-via-else-wrong_length+then-wrong_length-2 w ↦ or_right _ _ (sym w.if-wrong_length-2.ensures) ]))
    refl refl

pub returns-then-short : goal.returns-then-short
returns-then-short c =
    adds_refused _ _ _ _ _ Space
    (joins_12 _ _ (sym c.if-wrong_length.ensures) (sym c.if-wrong_length-2.ensures)
    (elim c.then-short.branch [ then-short-via-then-short w ↦ or_left _ _ (sym w.if-short.ensures) | then-short-via-else-short+then-short-2 w ↦ or_right _ _ (sym w.if-short-2.ensures) ]))
    refl refl

pub returns-then-ne : goal.returns-then-ne
returns-then-ne c =
    adds_refused _ _ _ _ _ OtherFile
    (joins_9 _ _ (sym c.if-wrong_length.ensures) (sym c.if-wrong_length-2.ensures) (sym c.if-short.ensures) (sym c.if-short-2.ensures) (not-true _ (sym c.if-ne.ensures)))
    refl refl

pub returns-then-not-both_agree : goal.returns-then-not-both_agree
returns-then-not-both_agree c =
    let s = lent_for c.args.file c.args.map.now c.args.buffer.now in
    let t = lent_in c.args.second in
    let same = not-false _ (sym c.if-ne.ensures) in
    let inside = lie s t (sym c.if-wrong_length-2.ensures) (sym c.if-short.ensures) (sym c.if-short-2.ensures) same in
    let told = agrees_told _ inside s.map s.buffer (of_reception t) _ c.both_agree.ensures in
    adds_refused _ _ _ _ _ Differs
    (joins_11 s t (sym c.if-wrong_length.ensures) (sym c.if-wrong_length-2.ensures) (sym c.if-short.ensures) (sym c.if-short-2.ensures) same (told ∙ c.if-not-both_agree.true))
    refl refl

pub returns : goal.returns
returns c =
    let s = lent_for c.args.file c.args.map.now c.args.buffer.now in
    let t = lent_in c.args.second in
    let same = not-false _ (sym c.if-ne.ensures) in
    let inside = lie s t (sym c.if-wrong_length-2.ensures) (sym c.if-short.ensures) (sym c.if-short-2.ensures) same in
    let told = agrees_told _ inside s.map s.buffer (of_reception t) _ c.both_agree.ensures in
    let stored = when_inside _ s.map s.buffer (of_reception t) _ inside _ _ _ c.add_held.ensures in
    adds_counted s (of_reception t) (joining s t) _ _ _ _
    (joins s t (sym c.if-wrong_length.ensures) (sym c.if-wrong_length-2.ensures) (sym c.if-short.ensures) (sym c.if-short-2.ensures) same (told ∙ c.if-not-both_agree.false))
    stored.counts stored.leaves_map stored.leaves_buffer
