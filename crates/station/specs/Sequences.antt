-- Sequences of frames, and what they cover (demand 3). A frame is any list of bytes: damaged ones, frames of other files and
-- directory frames are among them.
-- Assumes nothing.
use Rattle.std.specs.Prelude.{◌≡◌, Bool, true, false, ◌&&◌, ◌||◌, List, [], ◌∷◌, ℕ, length}
use Rattle.reason.specs.Answer.{is_accepted}
use Rattle.octets.specs.Lists.{Each}
use Rattle.positions.specs.Spans.{within}
use Rattle.frame.specs.Piece.{read_piece}
use Rattle.reception.specs.Reception.{Reception}
use Rattle.reception.specs.Fitting.{fits, AgreesWith}
use Rattle.taking.specs.Taking.{piece_data_in, taking_frame, taken_frame}

-- the reception after a sequence of frames, taken in one after the other
abbrev pub taken_frames : Reception → List (List ℕ) → Reception
taken_frames s [] = s
taken_frames s (frame ∷ frames) = taken_frames (taken_frame s frame) frames

-- the position is one of those of the frame's piece
abbrev pub in_piece : List ℕ → ℕ → Bool
in_piece frame p = within (piece_data_in frame).offset (length (piece_data_in frame).bytes) p

-- a frame of the sequence was accepted when it was taken in, and its piece covered the position
abbrev pub covered_in : Reception → List (List ℕ) → ℕ → Bool
covered_in s [] p = false
covered_in s (frame ∷ frames) p = is_accepted (taking_frame s frame) && in_piece frame p || covered_in (taken_frame s frame) frames p

-- a frame is a piece that fits a file: it is read as a piece, its number is the file's, and it ends by the file's end
abbrev pub fits_file : ℕ → ℕ → List ℕ → Bool
fits_file number l frame = is_accepted (read_piece frame) && fits number l (piece_data_in frame)

-- one of the frames fits the file, and its piece covers the position
abbrev pub covered : ℕ → ℕ → List (List ℕ) → ℕ → Bool
covered number l [] p = false
covered number l (frame ∷ frames) p = fits_file number l frame && in_piece frame p || covered number l frames p

-- if a frame is a piece that fits a file, it agrees with it
abbrev pub AgreesIfFits : ℕ → ℕ → List ℕ → List ℕ → Type 0
AgreesIfFits number l file frame = fits_file number l frame ≡ true → AgreesWith file (piece_data_in frame)

-- every piece among the frames that fits number and length agrees with the file
abbrev pub AllAgree : ℕ → ℕ → List ℕ → List (List ℕ) → Type 0
AllAgree number l file frames = Each (AgreesIfFits number l file) frames
