-- `record::read_record` meets its contract: one test.
-- Assumes nothing.
use mathlib.Core.Path.{sym, ap, ◌∙◌}
use Rattle.reason.specs.Answer.{accepted}
use Rattle.record.proofs.GivenAnswers.{reads_13, reads}
use Rattle.record.proofs.read_record.Goals as goal

pub returns-then-not-is_record : goal.returns-then-not-is_record
returns-then-not-is_record c = sym (reads_13 c.args.saved.now (sym c.is_record.ensures ∙ c.if-not-is_record.true))

pub returns : goal.returns
returns c = ap accepted c.says.ensures ∙ sym (reads c.args.saved.now (sym c.is_record.ensures ∙ c.if-not-is_record.false))
