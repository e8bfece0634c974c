-- `record::reading::unheld_clear` meets its contract: map bytes with eight positions are asked one after the other, and the last one.
-- Assumes nothing.
use Rattle.std.proofs.Common.{◌≡◌, ◌||◌, ◌*◌, ◌/◌, ◌%◌, ◌≤◌, ◌∙◌, ℕ, List, [], Bool, true, false, length, take, drop, get_or, eqb, sym, ap, refl, rules, arith}
use borrow.Author.Tests.{eq-eqb, tests}
use lib.Seq.{length-take-le}
use Rattle.std.specs.Simd.{first_chunks}
use Rattle.std.specs.List.{range_with_len, list_all}
use Rattle.std.proofs.lemmas.Iterator.{YieldsList-from_range}
use Rattle.std.proofs.lemmas.Iterator.Search.{all_from_yields_List}
use Rattle.octets.specs.Numbers.{byte_at}
use Rattle.positions.specs.Spans.{every}
use Rattle.positions.specs.Map.{held}
use Rattle.positions.proofs.SpanLaws.{every_none}
use Rattle.record.specs.Inner.{clear_at}
use Rattle.record.proofs.ReadSteps.{eights_clear, clear_parts, rest_clear, rest_byte}
use Rattle.record.proofs.reading.unheld_clear.Goals as goal

-- whole map bytes
first : (l : ℕ) (m b : List ℕ) (eights : List (List ℕ)) (r : Bool) → l ≤ length b → eights ≡ first_chunks 8 (length (take l b) / 8) (take l b)
    → r ≡ list_all (λ j. every (clear_at (get_or m j 0) (get_or eights j [])) 0 8) (range_with_len 0 (l / 8))
    → r ≡ every (λ p. held m p || eqb (byte_at b p) 0) 0 (l / 8 * 8)
first l m b eights r room is e =
    let long = length-take-le l b room in
    e ∙ eights_clear l m b eights (length (take l b) / 8) is (omega (arith, long)) 0 (l / 8) (omega (arith, long))

pub returns-else-all : goal.returns-else-all
returns-else-all c =
    let a = c.args in
    let each = all_from_yields_List (λ j. every (clear_at (get_or a.map.now j 0) (get_or c.as_chunks.result.0.now j [])) 0 8) _ _ c.all.result c.all.ensures.ran
    (YieldsList-from_range 0 (a.l / 8) (a.l / 8) refl (omega arith)) (λ x b q k. search (rules, tests)) in
    c.if-all.false
    ∙ clear_parts a.l a.map.now a.buffer.now false _ (sym c.if-all.false ∙ first a.l a.map.now a.buffer.now _ _ c.requires.buffered c.as_chunks.ensures.front each) refl

pub returns-then-l-eq0 : goal.returns-then-l-eq0
returns-then-l-eq0 c =
    let a = c.args in
    let each = all_from_yields_List (λ j. every (clear_at (get_or a.map.now j 0) (get_or c.as_chunks.result.0.now j [])) 0 8) _ _ c.all.result c.all.ensures.ran
    (YieldsList-from_range 0 (a.l / 8) (a.l / 8) refl (omega arith)) (λ x b q k. search (rules, tests)) in
    let t : ℕ → Bool = λ p. held a.map.now p || eqb (byte_at a.buffer.now p) 0 in
    eq-eqb _ 0 c.if-l-eq0.true
    ∙ clear_parts a.l a.map.now a.buffer.now true true (sym c.if-all.true ∙ first a.l a.map.now a.buffer.now _ _ c.requires.buffered c.as_chunks.ensures.front each)
    (sym (every_none t (a.l / 8 * 8)) ∙ ap (every t (a.l / 8 * 8)) (sym c.if-l-eq0.true))

pub returns-else-l-eq0 : goal.returns-else-l-eq0
returns-else-l-eq0 c =
    let a = c.args in
    let each = all_from_yields_List (λ j. every (clear_at (get_or a.map.now j 0) (get_or c.as_chunks.result.0.now j [])) 0 8) _ _ c.all.result c.all.ensures.ran
    (YieldsList-from_range 0 (a.l / 8) (a.l / 8) refl (omega arith)) (λ x b q k. search (rules, tests)) in
    let k = c.as_chunks.ensures in
    let t : ℕ → Bool = λ p. held a.map.now p || eqb (byte_at a.buffer.now p) 0 in
    let rest = c.as_chunks.result.1.now in
    let long = length-take-le a.l a.buffer.now c.requires.buffered in
    let left : length rest ≡ a.l % 8 = omega (arith, long, k.back_len) in
    let place : length (take a.l a.buffer.now) / 8 * 8 ≡ a.l / 8 * 8 = omega (arith, long) in
    clear_parts a.l a.map.now a.buffer.now true c.clear.result (sym c.if-all.true ∙ first a.l a.map.now a.buffer.now _ _ c.requires.buffered k.front each)
    (c.clear.ensures
    ∙ rest_clear a.map.now a.buffer.now rest c.array.result (a.l / 8) (omega (arith, left)) c.array.ensures
    (λ j h. rest_byte a.buffer.now a.l (a.l / 8 * 8) rest c.array.result (k.back ∙ ap (λ (i : ℕ). drop i (take a.l a.buffer.now)) place) c.array.ensures j (omega (arith, left, h)) (omega (arith, left, h)))
    ∙ ap (every t (a.l / 8 * 8)) left)
