-- The loop's invariant: what is there, with the lines of the holes from the place on behind it, is the whole.
use Rattle.std.proofs.Common.{length, ◌≡◌, ◌+◌, ◌-◌}
use Rattle.octets.specs.Runs.{put_in}
use Rattle.holes.specs.EveryHole.{listed_from}
use Rattle.report.specs.Text.{hole_lines}
use Rattle.report.proofs.lines.hole_lines.Given as goal

abbrev pub invariant-loop-hole : goal.invariant-loop-hole
invariant-loop-hole l =
    (l.at + length (hole_lines (listed_from l.l l.l l.map l.place)) ≡ l.from + length (hole_lines (listed_from l.l l.l l.map 0)))
    × (put_in l.out l.at (hole_lines (listed_from l.l l.l l.map l.place)) ≡ put_in l.initial.out l.from (hole_lines (listed_from l.l l.l l.map 0)))
    × (length l.out ≡ length l.initial.out)

abbrev pub decreases-loop-hole : goal.decreases-loop-hole
decreases-loop-hole l = l.l - l.place
