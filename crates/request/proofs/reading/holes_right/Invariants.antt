-- The loop's invariant: what is left to test decides the whole.
use Rattle.std.proofs.Common.{◌≡◌, ◌-◌}
use Rattle.octets.specs.Values.{values_from}
use Rattle.request.specs.Request.{holes_right}
use Rattle.request.specs.Reading.{hole_in}
use Rattle.request.proofs.reading.holes_right.Given as goal

abbrev pub invariant-loop-i : goal.invariant-loop-i
invariant-loop-i l = holes_right l.place (values_from (hole_in l.s) l.i (l.count - l.i)) ≡ holes_right 0 (values_from (hole_in l.s) 0 l.count)
