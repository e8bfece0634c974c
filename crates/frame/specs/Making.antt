-- How a satellite makes a file piece (01, "Frame"), for the theorems that a piece made so is read as that piece, and that every
-- accepted frame is one.
-- Assumes nothing.
use Rattle.std.specs.Prelude.{◌≡◌, true, List, ◌∷◌, ◌++◌, ℕ, ◌^◌, ◌≤◌, ◌<◌, length}
use Rattle.octets.specs.Numbers.{bytes_of}
use Rattle.remainder.specs.Check.{with_check}
use Rattle.ax25.specs.Address.{is_writable}
use Rattle.ax25.specs.Head.{head_bytes}
use Rattle.frame.specs.declared.Piece.{Piece}
use Rattle.ax25.specs.Information.{file_protocol}
use Rattle.frame.specs.Piece.{piece_flags}

-- the nine header bytes: flags, number (4), type (1), offset (3)
abbrev pub piece_before : Piece → List ℕ
piece_before p = piece_flags ∷ (bytes_of 4 p.number ++ p.kind ∷ bytes_of 3 p.offset)

-- them, the data and the check of both
abbrev pub piece_information : Piece → List ℕ → List ℕ
piece_information p bytes = with_check (piece_before p ++ bytes)

-- the whole frame
abbrev pub piece_frame : Piece → List ℕ → List ℕ
piece_frame p bytes = head_bytes p.head.destination p.head.source file_protocol ++ piece_information p bytes

-- a piece that can be made: both addresses can be written, number, type and offset fit their bytes, and there are 1 to 244 bytes
-- of data
pub record MakeablePiece (p : Piece) (bytes : List ℕ) : Type 0 where
  pub destination : is_writable p.head.destination ≡ true
  pub source : is_writable p.head.source ≡ true
  pub number : p.number < 256 ^ 4
  pub kind : p.kind < 256
  pub offset : p.offset < 256 ^ 3
  pub some : 1 ≤ length bytes
  pub most : length bytes ≤ 244
