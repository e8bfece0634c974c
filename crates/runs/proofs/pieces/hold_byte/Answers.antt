-- `runs::pieces::hold_byte` meets its contract: the bits of those positions become set.
-- Assumes nothing.
use Rattle.std.proofs.Common.{ap₂, ◌-◌, arith}
use lib.Bits.{bit_and}
use Rattle.runs.proofs.PieceSteps.{some_held}
use Rattle.runs.proofs.pieces.hold_byte.Goals as goal

pub returns : goal.returns
returns c =
    let x = c.args in
    rw c.count_set.ensures
    (some_held x.from x.end _ (omega arith) c.requires.1 (ap₂ (λ a b. bit_and a (255 - b)) c.lowest.ensures c.lowest-2.ensures) x.map.now _ _ c.hold-new.ensures.map_run)
