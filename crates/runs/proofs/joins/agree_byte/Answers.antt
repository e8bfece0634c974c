-- `runs::joins::agree_byte` meets its contract: the parts of both buffers agree where both bits are set.
-- Assumes nothing.
use Rattle.std.proofs.Common.{◌∙◌, arith}
use Rattle.runs.proofs.JoinSteps.{byte_asked}
use Rattle.runs.proofs.joins.agree_byte.Goals as goal

pub returns : goal.returns
returns c =
    let x = c.args in
    c.agree.ensures
    ∙ byte_asked x.held.map.now x.held.buffer.now x.second.map.now x.second.buffer.now x.from x.end c.requires.first.0 (omega arith) c.requires.first.2 c.requires.held.buffered c.requires.second.buffered
