-- `runs::joins::agree` meets its contract: whole map bytes, and what is left.
-- Assumes nothing.
use Rattle.std.proofs.Common.{◌∙◌, true, false, refl}
use Rattle.runs.proofs.JoinSteps.{by_bytes}
use Rattle.runs.proofs.joins.agree.Goals as goal

pub returns-else-n-eq0 : goal.returns-else-n-eq0
returns-else-n-eq0 c =
    let x = c.args in
    by_bytes x.held.map.now x.held.buffer.now x.second.map.now x.second.buffer.now x.n true c.agree_byte.result c.if-agree_bytes.ensures c.agree_byte.ensures

pub returns-else-agree_bytes : goal.returns-else-agree_bytes
returns-else-agree_bytes c =
    let x = c.args in
    c.if-agree_bytes.false ∙ by_bytes x.held.map.now x.held.buffer.now x.second.map.now x.second.buffer.now x.n false _ c.if-agree_bytes.ensures refl
