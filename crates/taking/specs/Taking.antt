-- Taking a frame in (01, "Reception" and "Numbered reasons"): the piece that it is, into the reception of a file.
-- Assumes nothing.
use Rattle.std.specs.Prelude.{List, ◌++◌, ℕ, Result}
use Rattle.reason.specs.declared.Reason.{Reason}
use Rattle.reason.specs.Answer.{Answer}
use Rattle.reason.specs.Order.{Check, first_of}
use Rattle.ax25.specs.Information.{information_of}
use Rattle.frame.specs.Piece.{piece_order, piece_of, data_part}
use Rattle.reception.specs.Reception.{Reception, PieceData}
use Rattle.reception.specs.Adding.{of_piece, after, Adds}
use Rattle.reception.specs.Taking.{taking_checks, taken_new}

-- the data of the piece in a frame: the number of its file, its offset, and the bytes between the nine header bytes and the two check bytes
abbrev pub piece_data_in : List ℕ → PieceData
piece_data_in frame = record { number = (piece_of frame).number; offset = (piece_of frame).offset; bytes = data_part (information_of frame) }

-- "Taking in a piece: the frame's reasons, then 7 (L), 12, 9, 10, 11"
abbrev pub taking_order : Reception → List ℕ → List Check
taking_order s frame = piece_order frame ++ taking_checks s (piece_data_in frame)

-- the answer: the count of newly held positions, or the reason
unfoldable pub taking_frame : Reception → List ℕ → Answer ℕ
taking_frame s frame = first_of (taking_order s frame) (taken_new s (piece_data_in frame))

-- the reception afterwards
abbrev pub taken_frame : Reception → List ℕ → Reception
taken_frame s frame = after s (of_piece (piece_data_in frame)) (taking_frame s frame)

-- The promise of `take`: what it answers, and what it leaves in the lent map and buffer.
abbrev pub TakesFrame : Reception → List ℕ → Result ℕ Reason → List ℕ → List ℕ → Type 0
TakesFrame s frame r map buffer = Adds s (of_piece (piece_data_in frame)) (taking_frame s frame) r map buffer
