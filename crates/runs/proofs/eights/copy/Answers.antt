-- `runs::eights::copy` meets its contract: all eight at once, or the places so far are copied where their bit is set.
-- Assumes nothing.
use Rattle.std.proofs.Common.{length, true, refl, sym, arith}
use Rattle.positions.specs.Map.{is_set}
use Rattle.positions.proofs.MapLaws.{full_set}
use Rattle.runs.proofs.CopyLaws.{copy_all, copy_told}
use Rattle.runs.proofs.eights.copy.Goals as goal

pub returns-then-from-eq8 : goal.returns-then-from-eq8
returns-then-from-eq8 c =
    let x = c.args in
    rw c.copy_from_slice.ensures.after
    (copy_told (λ q. true) x.from.now x.to.now 0 (length x.to.now) x.from.now (copy_all x.from.now x.to.now (length x.to.now) c.requires.1 refl)
    (is_set x.asked) (λ q l g. sym (full_set x.asked q c.if-asked-eq255.true (omega arith))))
