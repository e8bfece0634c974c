-- A directory entry (01, "Frame"): flags (1), number (4), offset (4), time old (4), time new (4), header, check.
-- Assumes nothing.
use Rattle.std.specs.Prelude.{Bool, not, ◌&&◌, List, [], ◌∷◌, ◌++◌, ℕ, ◌+◌, ◌/◌, ◌%◌, ltb, eqb, length}
use Rattle.reason.specs.Answer.{Answer, accepted, refused}
use Rattle.reason.specs.Order.{Check, check, first_of}
use Rattle.octets.specs.Numbers.{byte_at, number_at}
use Rattle.remainder.specs.Check.{check_length, check_right}
use Rattle.ax25.specs.declared.Head.{Head}
use Rattle.ax25.specs.Head.{head_checks, head_of}
use Rattle.header.specs.Header.{header_length, header_of, keeps_rules}
use Rattle.frame.specs.declared.Entry.{Entry}
use Rattle.frame.specs.Parts.{part_behind}
use Rattle.ax25.specs.Information.{directory_protocol, information_of}

-- how many bytes stand before the file header: flags, number, offset, time old and time new
abbrev pub before_header : ℕ
before_header = 17

-- flag bits 5 and 6 are free, the others 0
abbrev pub flags_allowed : ℕ → Bool
flags_allowed flags = eqb (flags % 32) 0 && eqb (flags / 128) 0

-- the header is whole: bit 5 is set and the offset 0
abbrev pub header_whole : ℕ → ℕ → Bool
header_whole flags offset = eqb (flags / 32 % 2) 1 && eqb offset 0

-- the bytes of the information between time new and the check bytes
abbrev pub header_part : List ℕ → List ℕ
header_part s = part_behind before_header s

-- they are a header of the file with the entry's number, and nothing follows its end
abbrev pub header_right : List ℕ → Bool
header_right s = keeps_rules (header_part s) (number_at 4 s 1) && eqb (header_length (header_part s)) (length (header_part s))

-- "Order in a frame", of the information of an entry: 1 (information), 6, 5, 14, 8
unfoldable pub entry_checks : List ℕ → List Check
entry_checks s =
    check (ltb (length s) (before_header + check_length)) 1
    ∷ check (not (check_right s)) 6
    ∷ check (not (flags_allowed (byte_at s 0))) 5
    ∷ check (not (header_whole (byte_at s 0) (number_at 4 s 5))) 14
    ∷ check (not (header_right s)) 8
    ∷ []

-- what the information of an entry says, behind a head
unfoldable pub entry_fields : Head → List ℕ → Entry
entry_fields head s = record {
  head = head;
  flags = byte_at s 0;
  number = number_at 4 s 1;
  offset = number_at 4 s 5;
  old = number_at 4 s 9;
  new = number_at 4 s 13;
  header = header_of (header_part s);
}

-- all reasons of an entry in their order
abbrev pub entry_order : List ℕ → List Check
entry_order frame = head_checks directory_protocol frame ++ entry_checks (information_of frame)

-- what an entry says: both addresses, all its fields, and the values of its header
abbrev pub entry_of : List ℕ → Entry
entry_of frame = entry_fields (head_of frame) (information_of frame)

-- reading a frame as a directory entry
unfoldable pub read_entry : List ℕ → Answer Entry
read_entry frame = first_of (entry_order frame) (entry_of frame)

-- the header of an entry that was read: no bytes if it was refused
abbrev pub header_bytes_read : Answer Entry → List ℕ → List ℕ
header_bytes_read (accepted e) frame = header_part (information_of frame)
header_bytes_read (refused n) frame = []

-- an entry's file header itself
abbrev pub header_bytes : List ℕ → List ℕ
header_bytes frame = header_bytes_read (read_entry frame) frame
