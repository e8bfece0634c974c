-- A file piece (01, "Frame"): flags, file number (4), type (1), offset (3), 1 to 244 data bytes, check.
-- Assumes nothing.
use Rattle.std.specs.Prelude.{not, List, [], ◌∷◌, ◌++◌, ℕ, ◌+◌, ltb, eqb, length}
use Rattle.reason.specs.Answer.{Answer, accepted, refused}
use Rattle.reason.specs.Order.{Check, check, first_of}
use Rattle.octets.specs.Numbers.{byte_at, number_at}
use Rattle.remainder.specs.Check.{check_length, check_right}
use Rattle.ax25.specs.declared.Head.{Head}
use Rattle.ax25.specs.Head.{head_checks, head_of}
use Rattle.frame.specs.declared.Piece.{Piece}
use Rattle.frame.specs.Parts.{part_behind}
use Rattle.ax25.specs.Information.{file_protocol, information_of}

-- how many bytes stand before the data: flags, number, type and offset
abbrev pub before_data : ℕ
before_data = 9

-- the flags of every piece
abbrev pub piece_flags : ℕ
piece_flags = 0x02

-- "Order in a frame", of the information of a piece: 1 (information), 6, 5, 7 (no data)
unfoldable pub piece_checks : List ℕ → List Check
piece_checks s =
    check (ltb (length s) (before_data + check_length)) 1
    ∷ check (not (check_right s)) 6
    ∷ check (not (eqb (byte_at s 0) piece_flags)) 5
    ∷ check (eqb (length s) (before_data + check_length)) 7
    ∷ []

-- what the information of a piece says, behind a head; kind is 01's type, a reserved word
unfoldable pub piece_fields : Head → List ℕ → Piece
piece_fields head s = record { head = head; number = number_at 4 s 1; kind = byte_at s 5; offset = number_at 3 s 6 }

-- all reasons of a piece in their order
abbrev pub piece_order : List ℕ → List Check
piece_order frame = head_checks file_protocol frame ++ piece_checks (information_of frame)

-- what a piece says: both addresses and all its fields
abbrev pub piece_of : List ℕ → Piece
piece_of frame = piece_fields (head_of frame) (information_of frame)

-- reading a frame as a piece
unfoldable pub read_piece : List ℕ → Answer Piece
read_piece frame = first_of (piece_order frame) (piece_of frame)

-- the bytes of the information between the nine header bytes and the check bytes
abbrev pub data_part : List ℕ → List ℕ
data_part s = part_behind before_data s

-- the bytes of a piece that was read: none if it was refused
abbrev pub piece_bytes_read : Answer Piece → List ℕ → List ℕ
piece_bytes_read (accepted p) frame = data_part (information_of frame)
piece_bytes_read (refused n) frame = []

-- the piece itself
abbrev pub piece_bytes : List ℕ → List ℕ
piece_bytes frame = piece_bytes_read (read_piece frame) frame
