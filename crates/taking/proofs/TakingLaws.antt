-- Laws of taking a frame in: a frame that is read as a piece is taken in as that piece, and one that is refused changes nothing.
-- Assumes nothing.
use mathlib.Core.Path.{◌≡◌, refl, ap, ap₂}
use mathlib.Core.List.{List}
use Prim.Native.Nat.{ℕ}
use Rattle.std.specs.Prelude.{Result, Err}
use Rattle.reason.specs.declared.Reason.{Reason}
use Rattle.reason.specs.Reasons.{number_of}
use Rattle.reason.specs.Answer.{accepted, refused}
use Rattle.reason.proofs.OrderLaws.{refused_then, accepted_then, accepted_only_if}
use Rattle.frame.specs.declared.Piece as framed
use Rattle.ax25.specs.Information.{information_of}
use Rattle.frame.specs.Piece.{piece_order, piece_of, read_piece, data_part}
use Rattle.reception.specs.Reception.{Reception, PieceData}
use Rattle.reception.specs.Adding.{of_piece, new_in, after}
use Rattle.reception.specs.Taking.{taking_checks, taking, taken, Takes}
use Rattle.reception.proofs.OfferLaws.{adds_refused}
use Rattle.taking.specs.Taking.{piece_data_in, taking_frame, taken_frame, TakesFrame}

-- what an accepted frame says
pub read_is : (frame : List ℕ) (p : framed.Piece) → read_piece frame ≡ accepted p → p ≡ piece_of frame
unfolding read_piece
read_is frame p e = (accepted_only_if (piece_order frame) (piece_of frame) p e).1

module _ (s : Reception) (frame : List ℕ) where
  -- the frame's reasons come first ..
  pub frame_refused : (n : ℕ) → read_piece frame ≡ refused n → taking_frame s frame ≡ refused n
  unfolding read_piece taking_frame
  frame_refused n e = refused_then (piece_order frame) (taking_checks s (piece_data_in frame)) (piece_of frame) (new_in s (of_piece (piece_data_in frame))) n e

  -- .. and then those of its piece
  pub frame_accepted : (p : framed.Piece) → read_piece frame ≡ accepted p → taking_frame s frame ≡ taking s (piece_data_in frame)
  unfolding read_piece taking_frame taking
  frame_accepted p e = accepted_then (piece_order frame) (taking_checks s (piece_data_in frame)) (piece_of frame) p (new_in s (of_piece (piece_data_in frame))) e

  -- the reception afterwards
  pub frame_leaves : (n : ℕ) → read_piece frame ≡ refused n → taken_frame s frame ≡ s
  frame_leaves n e = ap (after s (of_piece (piece_data_in frame))) (frame_refused n e)

  pub frame_taken : (p : framed.Piece) → read_piece frame ≡ accepted p → taken_frame s frame ≡ taken s (piece_data_in frame)
  frame_taken p e = ap (after s (of_piece (piece_data_in frame))) (frame_accepted p e)

  -- the promise of `take`, by what reading the frame answered
  pub takes_no_piece : (reason : Reason) → read_piece frame ≡ refused (number_of reason) → TakesFrame s frame (Err reason) s.map s.buffer
  takes_no_piece reason e = adds_refused s (of_piece (piece_data_in frame)) (taking_frame s frame) s.map s.buffer reason (frame_refused (number_of reason) e) refl refl

  piece_is : (p : framed.Piece) (bytes : List ℕ) → p ≡ piece_of frame → bytes ≡ data_part (information_of frame)
      → record { number = p.number; offset = p.offset; bytes = bytes } ≡ piece_data_in frame
  piece_is p bytes e b = ap₂ (λ (q : framed.Piece) (d : List ℕ). record { number = q.number; offset = q.offset; bytes = d }) e b

  another : (x y : PieceData) (r : Result ℕ Reason) (map buffer : List ℕ) → x ≡ y → Takes s x r map buffer → Takes s y r map buffer
  another x y r map buffer e t = rw e at t

  pub takes_piece : (p : framed.Piece) (bytes : List ℕ) (r : Result ℕ Reason) (map buffer : List ℕ) → read_piece frame ≡ accepted p → bytes ≡ data_part (information_of frame)
      → Takes s (record { number = p.number; offset = p.offset; bytes = bytes }) r map buffer
      → TakesFrame s frame r map buffer
  takes_piece p bytes r map buffer e b t =
      let same = frame_accepted p e in
      rw same (another (record { number = p.number; offset = p.offset; bytes = bytes }) (piece_data_in frame) r map buffer
      (piece_is p bytes (read_is frame p e) b) t)
