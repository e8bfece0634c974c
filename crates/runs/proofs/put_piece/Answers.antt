-- `runs::put_piece` meets its contract: inside, and then written and marked.
-- Assumes nothing.
use Rattle.std.proofs.Common.{◌≡◌, length, true, sym, ◌∙◌}
use Rattle.octets.specs.Runs.{put_in}
use Rattle.runs.specs.Offers.{piece_at, inside}
use Rattle.runs.proofs.OfferLaws.{stores_run}
use Rattle.runs.proofs.put_piece.Goals as goal

pub returns : goal.returns
returns c =
    let x = c.args in
    let fits : inside x.map.now x.buffer.now x.at (length x.piece.now) ≡ true = sym c.inside.ensures ∙ c.if-not-inside.false in
    stores_run (inside x.map.now x.buffer.now x.at (length x.piece.now)) x.map.now x.buffer.now
    (piece_at x.at x.piece.now) (put_in x.buffer.now x.at x.piece.now) fits _ _ _ c.write.ensures.map_run c.write.ensures.buffer_after
