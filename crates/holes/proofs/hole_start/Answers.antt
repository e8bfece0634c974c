-- `holes::hole_start` meets its contract: past the hole that goes on at the place, to the first unheld position.
-- Assumes nothing.
use mathlib.Core.Path.{sym, ◌∙◌}
use mathlib.Core.Bool.{not}
use borrow.Author.Tests.{not-true}
use Rattle.reason.proofs.Bools.{and_left}
use Rattle.positions.specs.Map.{held}
use Rattle.holes.specs.Holes.{held_before}
use Rattle.holes.proofs.HoleSteps.{start_at, start_after}
use Rattle.holes.proofs.hole_start.Goals as goal

pub returns-then-not-goes_on : goal.returns-then-not-goes_on
returns-then-not-goes_on c =
    let x = c.args in
    start_at x.map.now x.place x.n (sym c.goes_on.ensures ∙ c.if-not-goes_on.true) c.first_on.result c.first_on.ensures

pub returns : goal.returns
returns c =
    let x = c.args in
    let before = held_before x.map.now x.place in
    let free = not (held x.map.now x.place) in
    start_after x.map.now x.place x.n c.first_on-past.result
    (not-true before (and_left (not before) free (sym c.goes_on.ensures ∙ c.if-not-goes_on.false))) c.first_on-past.ensures
    c.first_on-2.result c.first_on-2.ensures
