-- `positions::first_on` meets its contract: what the search finds in the map, and beyond it the first position that is not held.
-- Assumes nothing.
use mathlib.Core.Path.{◌≡◌, sym, ap, ◌∙◌}
use mathlib.Core.List.{List}
use Prim.Native.Nat.{ℕ, ◌-◌}
use native.Mathlib.Omega.{arith}
use Rattle.positions.specs.declared.Side.{Side}
use Rattle.positions.specs.Spans.{first}
use Rattle.positions.specs.Map.{on_side}
use Rattle.positions.proofs.SpanLaws.{first_by}
use Rattle.positions.proofs.SearchLaws.{found_told, none_told, unheld_told}
use Rattle.positions.proofs.first_on.Goals as goal

-- the search on a side that is known
on_the : (m : List ℕ) (from n : ℕ) (side known : Side) → side ≡ known → first (on_side m side) from n ≡ first (on_side m known) from n
on_the m from n side known e = ap (λ (s : Side). first (on_side m s) from n) e

pub returns-then-found-end : goal.returns-then-found-end
returns-then-found-end c =
    let x = c.args in
    let end = c.end_below-end.result in
    found_told x.map.now x.from x.n end c.end_below-end.ensures x.side c.first_in-found.result c.first_in-found.ensures c.if-found-end.true

pub returns-in-Held : goal.returns-in-Held
returns-in-Held c =
    let x = c.args in
    let end = c.end_below-end.result in
    c.max.ensures
    ∙ none_told x.map.now x.from x.n end c.end_below-end.ensures c.first_in-found.result
    (c.first_in-found.ensures ∙ on_the x.map.now x.from (end - x.from) x.side _ c.in-Held.is) c.if-found-end.false
    ∙ sym (on_the x.map.now x.from (x.n - x.from) x.side _ c.in-Held.is)

pub overflow_cast-result-in-Unheld : goal.overflow_cast-result-in-Unheld
overflow_cast-result-in-Unheld c =
    let x = c.args in
    let high = first_by (on_side x.map.now x.side) x.from (c.end_below-end.result - x.from) in
    omega (arith, high, c.first_in-found.ensures, c.end_below-end.ensures)

pub returns-in-Unheld : goal.returns-in-Unheld
returns-in-Unheld c =
    let x = c.args in
    let end = c.end_below-end.result in
    unheld_told x.map.now x.from x.n end c.end_below-end.ensures c.first_in-found.result
    (c.first_in-found.ensures ∙ on_the x.map.now x.from (end - x.from) x.side _ c.in-Unheld.is)
    ∙ sym (on_the x.map.now x.from (x.n - x.from) x.side _ c.in-Unheld.is)
