-- `remainder::next_eight` meets its contract.
-- Assumes nothing.
use Rattle.std.proofs.Common.{ℕ, ap, ◌∙◌}
use Rattle.remainder.specs.Shifts.{shifted, eight_step}
use Rattle.remainder.specs.Inner.{with_number}
use Rattle.remainder.proofs.Shifts.{eight_step_lem}
use Rattle.remainder.proofs.next_eight.Goals as goal

pub returns : goal.returns
returns c =
    ap (λ (q : ℕ). with_number 64 0 (shifted eight_step q c.args.eight)) c.by_fourth-q.ensures
    ∙ eight_step_lem c.args.wide c.args.eight c.ranges.wide.fits
