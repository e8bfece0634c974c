-- `request::write_start` meets its contract: past its two tests the frame is written.
-- Assumes nothing.
use mathlib.Core.Path.{sym, ◌∙◌}
use Rattle.request.proofs.WritingLaws.{start_2, start_12, start_written}
use Rattle.request.proofs.write_start.Goals as goal

pub returns-then-not-writable : goal.returns-then-not-writable
returns-then-not-writable c = start_2 c.args.head c.args.number c.args.target.now (sym c.writable.ensures ∙ c.if-not-writable.true)

pub returns-then-target-lt-HOLES_AT : goal.returns-then-target-lt-HOLES_AT
returns-then-target-lt-HOLES_AT c =
    start_12 c.args.head c.args.number c.args.target.now (sym c.writable.ensures ∙ c.if-not-writable.false) c.if-target-lt-HOLES_AT.true

pub returns : goal.returns
returns c =
    start_written c.args.head c.args.number c.args.target.now (sym c.writable.ensures ∙ c.if-not-writable.false) c.if-target-lt-HOLES_AT.false _
    c.start_frame.ensures
