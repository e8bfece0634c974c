-- `taking::take` meets its contract: by what reading the frame answers.
-- Assumes nothing.
use mathlib.Core.Path.{◌≡◌, sym, ap, ◌∙◌}
use Rattle.std.proofs.Common.{rules}
use Rattle.std.specs.Prelude.{Result, Err}
use Rattle.reason.specs.declared.Reason.{Reason}
use Rattle.reason.specs.Answer.{answer_of}
use Rattle.frame.specs.declared.Piece.{Piece}
use Rattle.frame.specs.Piece.{piece_bytes_read}
use Rattle.reception.specs.Reception.{lent_for}
use Rattle.taking.proofs.TakingLaws.{takes_no_piece, takes_piece}
use Rattle.taking.proofs.take.Goals as goal

pub returns-in_err-piece : goal.returns-in_err-piece
returns-in_err-piece c =
    let a = c.args in
    let reason = c.in_err-piece.field-0.0 in
    let passed : c.from_residual.result ≡ Err reason = search rules in
    rw passed (takes_no_piece (lent_for a.file a.map.now a.buffer.now) a.frame.now reason (sym c.in_err-piece.ensures))

pub returns : goal.returns
returns c =
    let a = c.args in
    takes_piece (lent_for a.file a.map.now a.buffer.now) a.frame.now c.in_ok-piece.piece c.piece_of-bytes.result.now c.take.result c.take.new.map
    c.take.new.buffer (sym c.in_ok-piece.ensures)
    (c.piece_of-bytes.ensures ∙ ap (λ (r : Result Piece Reason). piece_bytes_read (answer_of r) a.frame.now) c.in_ok-piece.was) c.take.ensures
