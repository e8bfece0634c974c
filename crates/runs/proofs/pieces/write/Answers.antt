-- `runs::pieces::write` meets its contract: the piece is put over the part of the buffer that it has.
-- Assumes nothing.
use Rattle.octets.proofs.RunLaws.{put_fits}
use Rattle.runs.proofs.pieces.write.Goals as goal

pub returns-clause-buffer_after : goal.returns-clause-buffer_after
returns-clause-buffer_after c =
    let x = c.args in
    (put_fits x.buffer.now x.at x.piece.now c.put.result c.put.new.out c.put.ensures c.requires.buffered).1
