-- `positions::is_set` meets its contract: the shift and the mask give the bit, and beyond a byte's length there is none.
-- Assumes nothing.
use mathlib.Core.Path.{sym}
use Rattle.std.proofs.lemmas.Nat.Bits.{shr_and_one}
use Rattle.positions.specs.Map.{bit}
use Rattle.positions.proofs.BitLaws.{set_high}
use Rattle.positions.proofs.is_set.Goals as goal

pub returns-then-k-ge8 : goal.returns-then-k-ge8
returns-then-k-ge8 c = sym (set_high 8 c.args.b c.args.k c.ranges.b.fits c.if-k-ge8.true)

pub returns : goal.returns
unfolding bit
returns c = simp shr_and_one
