-- What an accepted frame says (01, "Frame"; demand 2): its fields are its bytes at their places, counted from 0 in the whole frame.
-- Assumes nothing.
use Rattle.std.specs.Prelude.{◌≡◌, true, List, ℕ, ◌+◌, ◌/◌, ◌%◌, ◌≤◌, length}
use Rattle.reason.specs.Answer.{accepted}
use Rattle.octets.specs.Numbers.{byte_at, number_at}
use Rattle.remainder.specs.Check.{check_length, check_right}
use Rattle.ax25.specs.Head.{head_length, head_of, read_head}
use Rattle.ax25.specs.Information.{file_protocol, directory_protocol, information_of}
use Rattle.ax25.specs.Says.{HeadSays}
use Rattle.header.specs.Header.{header_length}
use Rattle.header.specs.Rules.{Rules}
use Rattle.header.specs.Says.{HeaderSays}
use Rattle.frame.specs.declared.Piece.{Piece}
use Rattle.frame.specs.declared.Entry.{Entry}
use Rattle.frame.specs.Piece.{piece_flags, piece_of, data_part, piece_bytes}
use Rattle.frame.specs.Entry.{before_header, header_part, header_bytes}

-- An accepted piece. The longest has 244 bytes, since a frame has at most 271.
pub record PieceSays (frame : List ℕ) (p : Piece) : Type 0 where
  pub is : p ≡ piece_of frame
  pub head_read : read_head file_protocol frame ≡ accepted p.head
  pub head : HeadSays file_protocol frame p.head
  pub flags : byte_at frame 16 ≡ piece_flags
  pub number : p.number ≡ number_at 4 frame 17
  pub kind : p.kind ≡ byte_at frame 21
  pub offset : p.offset ≡ number_at 3 frame 22
  pub checked : check_right (information_of frame) ≡ true
  pub bytes : piece_bytes frame ≡ data_part (information_of frame)
  pub size : length (piece_bytes frame) + 27 ≡ length frame
  pub some : 1 ≤ length (piece_bytes frame)
  pub most : length (piece_bytes frame) ≤ 244

-- An accepted directory entry: bit 5 set, no bit but 5 and 6, the offset 0, and a header of the entry's own file that keeps the
-- rules and is all of what stands before the check bytes.
pub record EntrySays (frame : List ℕ) (e : Entry) : Type 0 where
  pub head : HeadSays directory_protocol frame e.head
  pub flags : e.flags ≡ byte_at frame 16
  pub allowed : (e.flags % 32 ≡ 0) × (e.flags / 128 ≡ 0)
  pub whole : (e.flags / 32 % 2 ≡ 1) × (e.offset ≡ 0)
  pub number : e.number ≡ number_at 4 frame 17
  pub offset : e.offset ≡ number_at 4 frame 21
  pub old : e.old ≡ number_at 4 frame 25
  pub new : e.new ≡ number_at 4 frame 29
  pub checked : check_right (information_of frame) ≡ true
  pub bytes : header_bytes frame ≡ header_part (information_of frame)
  pub header : HeaderSays (header_bytes frame) e.number e.header
  pub alone : e.header.size ≡ length (header_bytes frame)

-- What a directory entry must keep, rule by rule: its head, 19 bytes of information at least, the check, no flag bit but 5 and 6, a
-- header that is whole, keeps the rules of a header of the entry's file, and ends where the check bytes start. An entry is accepted
-- exactly if it keeps them.
pub record EntryRules (frame : List ℕ) : Type 0 where
  pub headed : read_head directory_protocol frame ≡ accepted (head_of frame)
  pub long : head_length + before_header + check_length ≤ length frame
  pub checked : check_right (information_of frame) ≡ true
  pub allowed : (byte_at frame 16 % 32 ≡ 0) × (byte_at frame 16 / 128 ≡ 0)
  pub whole : (byte_at frame 16 / 32 % 2 ≡ 1) × (number_at 4 frame 21 ≡ 0)
  pub ruled : Rules (header_part (information_of frame)) (number_at 4 frame 17)
  pub alone : header_length (header_part (information_of frame)) ≡ length (header_part (information_of frame))
