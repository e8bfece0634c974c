-- What the boundary writes and tells of requests (01, "What the station does"), and its promises.
-- Assumes nothing.
use Rattle.std.specs.Prelude.{List, [], ◌∷◌, ℕ}
use Rattle.octets.specs.Runs.{put_in}
use Rattle.ax25.specs.declared.Head.{Head}
use Rattle.holes.specs.declared.Hole.{Hole}
use Rattle.request.specs.declared.Request.{Request}
use Rattle.request.specs.Request.{flags_of}
use Rattle.request.specs.Reading.{read_request, hole_at}
use Rattle.request.specs.Writing.{Wanted, filling, fill_frame, starting}
use Rattle.station.specs.Boundary.{Exported}
use Rattle.station.specs.AddressNumber.{address_number, address_of}

-- the addresses that two numbers tell
abbrev pub head_told : ℕ → ℕ → Head
head_told destination source = record { destination = address_of destination; source = address_of source }

-- how many holes a request lists, the end of the last, and the target
pub record WrittenRequest : Type 0 where
  pub count : ℕ
  pub end : ℕ
  pub target : List ℕ

-- `station_write_fill`
abbrev pub FillsOut : Wanted → ℕ → WrittenRequest → ℕ → WrittenRequest → Type 0
FillsOut w place lent =
    Exported (filling w place lent.target) (λ x. record { count = x.count; end = x.end; target = put_in lent.target 0 (fill_frame w place) }) lent

-- `station_write_start`
abbrev pub StartsOut : Head → ℕ → List ℕ → ℕ → List ℕ → Type 0
StartsOut head number lent = Exported (starting head number lent) (λ left. left) lent

-- a request as numbers
abbrev pub request_numbers : Request → List ℕ
request_numbers r =
    address_number r.head.destination ∷  -- destination
    address_number r.head.source ∷  -- source
    flags_of r.asks ∷  -- flags, which say what it asks for
    r.number ∷  -- the file's number
    r.count ∷  -- how many holes it lists
    []

-- `station_read_request`
abbrev pub RequestOut : List ℕ → List ℕ → ℕ → List ℕ → Type 0
RequestOut frame = Exported (read_request frame) request_numbers

-- `station_hole`: start and length of the hole with an index; both are 0 beyond the request's count
abbrev pub HoleOut : List ℕ → ℕ → Hole → ℕ → Hole → Type 0
HoleOut frame index = Exported (read_request frame) (λ r. hole_at frame index)
