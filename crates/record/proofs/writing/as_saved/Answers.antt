-- `record::writing::as_saved` meets its contract: those of a full byte are as they are.
-- Assumes nothing.
use Rattle.record.proofs.PutLaws.{full_saved}
use Rattle.record.proofs.writing.as_saved.Goals as goal

pub returns-then-b-eq255 : goal.returns-then-b-eq255
returns-then-b-eq255 c = full_saved c.args.b c.args.eight.now c.if-b-eq255.true c.told-eight
