-- `positions::lowest` meets its contract: the mask keeps the lowest bits.
-- Assumes nothing.
use mathlib.Core.Path.{sym, ap, ◌∙◌}
use Prim.Native.Nat.{ℕ, ◌-◌}
use native.Mathlib.Nat.{mod-eq_of_lt, lt_of_lt_of_le}
use native.Mathlib.Omega.{arith}
use lib.Bits.{bit_and, and_mask}
use lib.Pow.{pow_mono}
use Rattle.std.proofs.lemmas.Nat.{one_shl}
use Rattle.positions.proofs.lowest.Goals as goal

pub returns-then-n-ge8 : goal.returns-then-n-ge8
returns-then-n-ge8 c = sym (mod-eq_of_lt (lt_of_lt_of_le c.ranges.b.fits (pow_mono c.if-n-ge8.true)))

pub returns : goal.returns
returns c =
    ap (λ (x : ℕ). bit_and c.args.b (x - 1)) (one_shl c.args.n 8 (omega arith))
    ∙ and_mask c.args.b c.args.n
