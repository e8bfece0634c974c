-- `ax25::read_head` meets its contract: where the source is none, it is 2.
-- Assumes nothing.
use Rattle.std.proofs.Common.{arith}
use Rattle.ax25.proofs.SpellingLaws.{address_refused, refused_address}
use Rattle.ax25.proofs.HeadLaws.{reads_2}
use Rattle.ax25.proofs.read_head.Goals as goal

pub returns-in_err-source : goal.returns-in_err-source
returns-in_err-source c = grind (arith, reads_2, address_refused, refused_address)
