-- What the boundary tells of frames and of file headers (01, "What the station does"): all values as numbers, those of a frame in the
-- order of their bytes and those of a header in the order of its items' ids.
-- Assumes nothing.
use Rattle.std.specs.Prelude.{List, [], ◌∷◌, ℕ, ◌+◌, length, Option, Some, None}
use Rattle.octets.specs.Numbers.{number_at}
use Rattle.ax25.specs.Head.{head_length}
use Rattle.ax25.specs.Information.{information_of}
use Rattle.header.specs.declared.Header.{Header}
use Rattle.header.specs.Header.{read_header}
use Rattle.frame.specs.declared.Piece.{Piece}
use Rattle.frame.specs.declared.Entry.{Entry}
use Rattle.frame.specs.Piece.{before_data, read_piece, data_part}
use Rattle.frame.specs.Entry.{before_header, header_part, read_entry}
use Rattle.station.specs.Boundary.{Exported}
use Rattle.station.specs.AddressNumber.{address_number}

-- a piece as numbers
abbrev pub piece_numbers : List ℕ → Piece → List ℕ
piece_numbers frame p =
    address_number p.head.destination ∷  -- destination
    address_number p.head.source ∷  -- source
    p.number ∷  -- the file's number
    p.kind ∷  -- type
    p.offset ∷  -- offset
    (head_length + before_data) ∷  -- where its bytes stand in the frame: the place of the first
    length (data_part (information_of frame)) ∷  -- and how many they are
    []

-- `station_piece`
abbrev pub PieceOut : List ℕ → List ℕ → ℕ → List ℕ → Type 0
PieceOut frame = Exported (read_piece frame) (piece_numbers frame)

-- an entry as numbers, but for the values of its file header
abbrev pub entry_numbers : List ℕ → Entry → List ℕ
entry_numbers frame e =
    address_number e.head.destination ∷  -- destination
    address_number e.head.source ∷  -- source
    e.flags ∷  -- flags
    e.number ∷  -- the file's number
    e.offset ∷  -- offset
    e.old ∷  -- time old
    e.new ∷  -- time new
    (head_length + before_header) ∷  -- where its file header stands in the frame: the place of the first byte
    length (header_part (information_of frame)) ∷  -- and how many they are
    []

-- the eight bytes of a name as a number, least significant byte first
abbrev pub name_number : List ℕ → ℕ
name_number n = number_at 8 n 0

-- the three bytes of an extension likewise
abbrev pub extension_number : List ℕ → ℕ
extension_number e = number_at 3 e 0

-- whether item 12 is present: 1 where it is, and 0 where not
abbrev pub uploaded_of : Option ℕ → ℕ
uploaded_of (Some t) = 1
uploaded_of None = 0

-- the time of item 12, and 0 where it is not present
abbrev pub upload_of : Option ℕ → ℕ
upload_of (Some t) = t
upload_of None = 0

-- the values of a file header as numbers, but for its file's number and how many bytes it has itself, which are told beside them
abbrev pub header_numbers : Header → List ℕ
header_numbers h =
    name_number h.name ∷  -- 02: name
    extension_number h.extension ∷  -- 03: extension
    h.length ∷  -- 04: the whole file's length
    h.created ∷  -- 05: created
    h.modified ∷  -- 06: modified
    h.upset ∷  -- 07: upset
    h.kind ∷  -- 08: type
    h.bodysum ∷  -- 09: the body's sum
    h.headersum ∷  -- 0A: the header's sum
    h.body ∷  -- 0B: the body's offset
    uploaded_of h.upload ∷  -- 12: whether it is present
    upload_of h.upload ∷  -- 12: its time
    []

-- what is told of an entry: its own numbers, and the values of its file header
pub record EntryTold : Type 0 where
  pub told : List ℕ
  pub values : List ℕ

abbrev pub entry_told : List ℕ → Entry → EntryTold
entry_told frame e = record { told = entry_numbers frame e; values = header_numbers e.header }

-- `station_entry`
abbrev pub EntryOut : List ℕ → EntryTold → ℕ → EntryTold → Type 0
EntryOut frame = Exported (read_entry frame) (entry_told frame)

-- what is told of a file header: how many bytes it has itself, from AA 55 to the end item, and its values
pub record HeaderTold : Type 0 where
  pub size : ℕ
  pub values : List ℕ

abbrev pub header_told : Header → HeaderTold
header_told h = record { size = h.size; values = header_numbers h }

-- `station_header`, of the header that the bytes start with and of the file with the number
abbrev pub HeaderOut : List ℕ → ℕ → HeaderTold → ℕ → HeaderTold → Type 0
HeaderOut bytes number = Exported (read_header bytes number) header_told
