-- `record::writing::masked` meets its contract: 255 keeps a byte, and 0 none of it.
-- Assumes nothing.
use Rattle.record.proofs.PutLaws.{masked}
use Rattle.record.proofs.writing.masked.Goals as goal

pub returns : goal.returns
returns c = masked c.args.byte c.args.is_held c.ranges.byte.fits
