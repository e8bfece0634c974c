-- `ax25::spelling::is_name` meets its contract: before the first character the two say what the definitions say of all six.
-- Assumes nothing.
use Rattle.std.proofs.Common.{[], ◌∷◌, refl, arith}
use lib.Seq.{append_snoc}
use Rattle.std.proofs.lemmas.List.{append-nil}
use Rattle.ax25.proofs.spelling.is_name.Goals as goal

pub loop-c-init : goal.loop-c-init
loop-c-init c = ([], grind (arith, append-nil), refl, refl)

pub loop-c-preserved : goal.loop-c-preserved
loop-c-preserved c =
    let i = c.loop-c.invariant in
    (c.in-Some.c.now ∷ i.0, grind (arith, append_snoc), grind arith, grind arith)
