-- `request::reading::hole_in_frame` meets its contract: at its place behind the head.
-- Assumes nothing.
use mathlib.Core.Path.{◌∙◌}
use Rattle.request.proofs.ReadingLaws.{in_frame}
use Rattle.request.proofs.reading.hole_in_frame.Goals as goal

pub returns : goal.returns
returns c = c.hole_from.ensures.value ∙ in_frame c.args.frame.now c.args.index
