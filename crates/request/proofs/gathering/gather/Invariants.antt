-- The loop's invariant: what is listed so far, with what is left, is the whole.
use Rattle.request.proofs.GatheringLaws.{SoFar}
use Rattle.request.proofs.gathering.gather.Given as goal

abbrev pub invariant-loop-count : goal.invariant-loop-count
invariant-loop-count l = SoFar l.l l.map l.place l.initial.entries l.count l.end l.entries
