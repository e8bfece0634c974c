-- `remainder::next_byte` meets its contract.
-- Assumes nothing.
use Rattle.std.proofs.Common.{ℕ, ap, ◌∙◌}
use Rattle.remainder.specs.Shifts.{shifted, byte_step}
use Rattle.remainder.proofs.Shifts.{byte_step_lem}
use Rattle.remainder.proofs.next_byte.Goals as goal

pub returns : goal.returns
returns c =
    ap (λ (b : ℕ). shifted byte_step c.args.c b) c.from.ensures
    ∙ byte_step_lem c.args.c c.args.b c.ranges.c.fits c.ranges.b.fits
