-- `request::reading::holes_right` meets its contract: what is left to test decides the whole.
-- Assumes nothing.
use mathlib.Core.Path.{◌≡◌, sym, ap, ◌∙◌}
use mathlib.Core.List.{List}
use Prim.Native.Nat.{ℕ, ◌-◌}
use native.Mathlib.Omega.{arith}
use Rattle.octets.specs.Values.{values_from}
use Rattle.request.specs.Request.{holes_right}
use Rattle.request.specs.Reading.{hole_in}
use Rattle.request.proofs.ReadingLaws.{right_then, wrong_here, right_end}
use Rattle.request.proofs.reading.holes_right.Goals as goal

start : (s : List ℕ) (count : ℕ) → holes_right 0 (values_from (hole_in s) 0 (count - 0)) ≡ holes_right 0 (values_from (hole_in s) 0 count)
start s count = let e : count - 0 ≡ count = omega arith in ap (λ (n : ℕ). holes_right 0 (values_from (hole_in s) 0 n)) e

pub loop-i-init : goal.loop-i-init
loop-i-init c = start c.args.s.now c.args.count

pub returns-then-not-hole_right : goal.returns-then-not-hole_right
returns-then-not-hole_right c =
    let l = c.loop-i in
    wrong_here c.args.s.now c.args.count l.place l.i c.hole_from-hole.result _ c.loop-i-test.true c.hole_from-hole.ensures.value
    (sym c.hole_right.ensures ∙ c.if-not-hole_right.true) l.invariant

pub loop-i-preserved : goal.loop-i-preserved
loop-i-preserved c =
    let l = c.loop-i in
    right_then c.args.s.now c.args.count l.place l.i c.hole_from-hole.result _ c.loop-i-test.true c.hole_from-hole.ensures.value
    (sym c.hole_right.ensures ∙ c.if-not-hole_right.false) l.invariant

pub returns : goal.returns
returns c =
    let l = c.loop-i in
    right_end c.args.s.now c.args.count l.place l.i _ c.loop-i-test.false l.invariant
