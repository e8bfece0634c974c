-- `program_holes::report_all` meets its contract: what is promised of the bytes read is promised of the whole input.
-- Assumes nothing.
use Rattle.report.proofs.WholeInput.{cut_reports_the_same}
use Rattle.program_holes.proofs.report_all.Goals as goal

pub returns : goal.returns
returns c = λ input e. cut_reports_the_same input _ _ _ c.report.result _ c.requires.0 e c.report.ensures
