-- `remainder::narrow` meets its contract.
-- Assumes nothing.
use Rattle.std.proofs.Common.{ℕ, ap, ◌∙◌}
use Rattle.remainder.specs.Shifts.{shifted, narrow_step}
use Rattle.remainder.proofs.Shifts.{narrow_step_lem}
use Rattle.remainder.proofs.narrow.Goals as goal

pub returns : goal.returns
returns c = ap (λ (q : ℕ). shifted narrow_step q 0) c.by_fourth-fourth.ensures ∙ narrow_step_lem c.args.wide c.ranges.wide.fits
