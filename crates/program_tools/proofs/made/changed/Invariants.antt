-- The loop's invariant: what is left of the bytes, from the count so far on, gives the whole count.
use Rattle.std.proofs.Common.{drop, ◌≡◌}
use Rattle.program_tools.specs.Made.{changed_from}
use Rattle.program_tools.proofs.made.changed.Given as goal

abbrev pub invariant-loop-at : goal.invariant-loop-at
invariant-loop-at l = changed_from l.count l.at (drop l.at l.bytes) l.before ≡ changed_from 0 0 l.bytes l.before
