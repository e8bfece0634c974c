-- `holes::list` meets its contract: the tests in their order, then the end of the hole.
-- Assumes nothing.
use mathlib.Core.Path.{◌≡◌, sym, ap, ◌∙◌}
use mathlib.Core.Bool.{false}
use mathlib.Core.List.{List}
use Prim.Native.Nat.{ℕ, ◌-◌, ◌≤◌}
use native.Mathlib.Omega.{arith}
use lib.ListN.{length}
use borrow.Author.Tests.{ltb-true, ltb-false}
use Rattle.reason.specs.Answer.{accepted}
use Rattle.positions.specs.Spans.{first}
use Rattle.positions.specs.Map.{held, map_size}
use Rattle.positions.proofs.SpanLaws.{first_from}
use Rattle.reception.specs.Reception.{wrong_length}
use Rattle.holes.specs.Holes.{hole_start, hole_from}
use Rattle.holes.specs.declared.Hole.{Hole}
use Rattle.holes.proofs.GivenReasons.{lists_7, lists_12, lists_15, lists}
use Rattle.holes.proofs.list.Goals as goal

-- a hole from where it starts to where it ends
hole_is : (l : ℕ) (m : List ℕ) (place start end : ℕ) → start ≡ hole_start l m place → end ≡ first (held m) start (l - start)
    → ◌≡◌ {A = Hole} (hole_from l m place) (record { start = start; length = end - start })
hole_is l m place start end s e = rw (sym s, sym e)

pub returns-then-wrong_length : goal.returns-then-wrong_length
returns-then-wrong_length c =
    let x = c.args in
    sym (lists_7 x.length x.map.now x.place (sym c.wrong_length.ensures ∙ c.if-wrong_length.true))

pub returns-then-short_map : goal.returns-then-short_map
returns-then-short_map c =
    let x = c.args in
    let right : wrong_length x.length ≡ false = sym c.wrong_length.ensures ∙ c.if-wrong_length.false in
    sym (lists_12 x.length x.map.now x.place right (ltb-true (length x.map.now) (map_size x.length) (sym c.short_map.ensures ∙ c.if-short_map.true)))

pub returns-then-length-start : goal.returns-then-length-start
returns-then-length-start c =
    let x = c.args in
    let right : wrong_length x.length ≡ false = sym c.wrong_length.ensures ∙ c.if-wrong_length.false in
    let room : map_size x.length ≤ length x.map.now = ltb-false (length x.map.now) (map_size x.length) (sym c.short_map.ensures ∙ c.if-short_map.false) in
    sym (lists_15 x.length x.map.now x.place right room (omega (arith, c.hole_start-start.ensures)))

pub overflow_sub-result : goal.overflow_sub-result
overflow_sub-result c =
    let x = c.args in
    let start = c.hole_start-start.result in
    omega (arith, first_from (held x.map.now) start (x.length - start), c.first_on-end.ensures)

pub returns : goal.returns
returns c =
    let x = c.args in
    let right : wrong_length x.length ≡ false = sym c.wrong_length.ensures ∙ c.if-wrong_length.false in
    let room : map_size x.length ≤ length x.map.now = ltb-false (length x.map.now) (map_size x.length) (sym c.short_map.ensures ∙ c.if-short_map.false) in
    let start = c.hole_start-start.result in
    let is = c.hole_start-start.ensures in
    sym (lists x.length x.map.now x.place right room (omega (arith, is)) ∙ ap accepted (hole_is x.length x.map.now x.place start c.first_on-end.result is c.first_on-end.ensures))
