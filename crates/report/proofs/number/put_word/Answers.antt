-- `report::number::put_word` meets its contract: the word fits, so `put` writes it.
-- Assumes nothing.
use Rattle.octets.proofs.RunLaws.{put_fits}
use Rattle.report.proofs.number.put_word.Goals as goal

pub returns-clause-out_after : goal.returns-clause-out_after
returns-clause-out_after c =
    let a = c.args in
    (put_fits a.out.now a.at a.word.now _ _ c.put.ensures c.requires).1
