-- `runs::pieces::agree` meets its contract: the positions of the first map byte, and those behind them.
-- Assumes nothing.
use Rattle.std.proofs.Common.{◌≡◌, ◌∙◌, ◌/◌, length, true, false, sym, refl, arith}
use Rattle.std.proofs.lemmas.Slice.{between_to_end}
use Rattle.positions.proofs.SpanLaws.{every_none}
use Rattle.runs.specs.Inner.{piece_agrees}
use Rattle.runs.proofs.OfferLaws.{piece_agrees_lem}
use Rattle.runs.proofs.PieceSteps.{ends, piece_told, rest_behind}
use Rattle.runs.proofs.pieces.agree.Goals as goal

pub returns-then-at-end : goal.returns-then-at-end
returns-then-at-end c =
    let x = c.args in
    let none : length x.piece.now ≡ 0 = omega arith in
    piece_agrees_lem x.held.map.now x.held.buffer.now x.at x.piece.now true
    (rw none (sym (every_none (piece_agrees x.held.map.now x.held.buffer.now x.at x.piece.now) x.at)))

pub returns-then-not-agree : goal.returns-then-not-agree
returns-then-not-agree c =
    let x = c.args in
    piece_told x.held.map.now x.held.buffer.now x.at x.piece.now _ c.byte_end-start.ensures (omega arith) _ c.split_at.ensures.front c.requires.buffered
    false c.if-not-agree.ensures (length c.split_at.result.1.now) c.split_at.ensures.back_len _ refl

pub returns-then-start-end : goal.returns-then-start-end
returns-then-start-end c =
    let x = c.args in
    piece_told x.held.map.now x.held.buffer.now x.at x.piece.now _ c.byte_end-start.ensures (omega arith) _ c.split_at.ensures.front c.requires.buffered
    true c.if-not-agree.ensures 0 (omega arith) true (sym (every_none (piece_agrees x.held.map.now x.held.buffer.now x.at x.piece.now) c.byte_end-start.result))

pub returns : goal.returns
returns c =
    let x = c.args in
    let m = x.held.map.now in
    let b = x.held.buffer.now in
    let s = c.byte_end-start.result in
    let w = ends m b x.at x.piece.now s c.byte_end-start.ensures (omega arith) in
    piece_told m b x.at x.piece.now s c.byte_end-start.ensures (omega arith) _ c.split_at.ensures.front c.requires.buffered
    true c.if-not-agree.ensures (length c.split_at.result.1.now) c.split_at.ensures.back_len c.agree-2.result
    (c.agree-2.ensures
    ∙ rest_behind m b x.at x.piece.now s c.byte_end-start.ensures (omega arith) (omega (arith, w)) _ _ _
    (between_to_end m (s / 8) (length m) (omega arith)) (between_to_end b s (length b) (omega arith)) c.split_at.ensures.back (length c.split_at.result.1.now))
