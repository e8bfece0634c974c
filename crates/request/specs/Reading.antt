-- Reading a request frame (01, "Fill request" and "Numbered reasons").
-- Assumes nothing.
use Rattle.std.specs.Prelude.{◌≡◌, Bool, cond, not, ◌&&◌, ◌||◌, List, [], ◌∷◌, ◌++◌, ℕ, ◌+◌, ◌-◌, ◌*◌, ◌/◌, ◌%◌, ltb, eqb, length, Result}
use Rattle.reason.specs.declared.Reason.{Reason}
use Rattle.reason.specs.Answer.{Answer, accepted, refused, answer_of}
use Rattle.reason.specs.Order.{Check, check, first_of}
use Rattle.octets.specs.Numbers.{byte_at, number_at}
use Rattle.octets.specs.Values.{values_from}
use Rattle.ax25.specs.declared.Head.{Head}
use Rattle.ax25.specs.Head.{head_checks, head_of}
use Rattle.ax25.specs.Information.{file_protocol, information_of}
use Rattle.holes.specs.declared.Hole.{Hole}
use Rattle.request.specs.declared.Asks.{Asks}
use Rattle.request.specs.declared.Asks.TheVariants.{Start, Holes}
use Rattle.request.specs.declared.Request.{Request}
use Rattle.request.specs.Request.{flags_of, block_size, holes_of_kind, before_holes, bytes_per_hole, holes_right}

-- the flags ask for the start
abbrev pub asks_start : ℕ → Bool
asks_start flags = eqb flags (flags_of Start)

-- .. or list holes; others are not allowed
abbrev pub flags_allowed : ℕ → Bool
flags_allowed flags = asks_start flags || eqb flags (flags_of Holes)

-- what allowed flags ask for
abbrev pub asks_by : ℕ → Asks
asks_by flags = cond (asks_start flags) Start Holes

-- The promise of reading flags: what they ask for, or reason 5.
abbrev pub AsksBy : ℕ → Result Asks Reason → Type 0
AsksBy flags r = answer_of r ≡ first_of (check (not (flags_allowed flags)) 5 ∷ []) (asks_by flags)

-- how many holes follow, and how many bytes are left over
abbrev pub count_in : List ℕ → ℕ
count_in s = (length s - before_holes) / bytes_per_hole

abbrev pub odd_bytes : List ℕ → ℕ
odd_bytes s = (length s - before_holes) % bytes_per_hole

-- no bytes are left over, and there are as many holes as what is asked for has
abbrev pub count_right : List ℕ → Bool
count_right s = eqb (odd_bytes s) 0 && holes_of_kind (asks_by (byte_at s 0)) (count_in s)

-- the hole in the five bytes from a place on: offset (3) and length (2)
unfoldable pub hole_spelled : List ℕ → ℕ → Hole
hole_spelled s at = record { start = number_at 3 s at; length = number_at 2 s (at + 3) }

-- the hole with an index, counted from 0
abbrev pub hole_in : List ℕ → ℕ → Hole
hole_in s index = hole_spelled s (before_holes + index * bytes_per_hole)

-- all of them
abbrev pub holes_in : List ℕ → List Hole
holes_in s = values_from (hole_in s) 0 (count_in s)

-- "A request frame", of the information: 1, 5, 7 (block size, count, odd bytes), 10
unfoldable pub request_checks : List ℕ → List Check
request_checks s =
    check (ltb (length s) before_holes) 1
    ∷ check (not (flags_allowed (byte_at s 0))) 5
    ∷ check (not (eqb (number_at 2 s 5) block_size && count_right s)) 7
    ∷ check (not (holes_right 0 (holes_in s))) 10
    ∷ []

-- what the information of a request says, behind a head
unfoldable pub request_fields : Head → List ℕ → Request
request_fields head s = record { head = head; asks = asks_by (byte_at s 0); number = number_at 4 s 1; count = count_in s }

-- all reasons of a request in their order: 1, 2, 3, 4, 7, 1, 5, 7, 10
abbrev pub request_order : List ℕ → List Check
request_order frame = head_checks file_protocol frame ++ request_checks (information_of frame)

-- what a request says: both addresses, start or hole list, number and count
abbrev pub request_of : List ℕ → Request
request_of frame = request_fields (head_of frame) (information_of frame)

-- reading a frame as a request
unfoldable pub read_request : List ℕ → Answer Request
read_request frame = first_of (request_order frame) (request_of frame)

-- no hole: one of no bytes, which no accepted request has
abbrev pub no_hole : Hole
no_hole = record { start = 0; length = 0 }

-- the hole with an index of a request that was read; none beyond its count, and none where it was refused
abbrev pub hole_read : Answer Request → List ℕ → ℕ → Hole
hole_read (accepted r) frame index = cond (ltb index r.count) (hole_in (information_of frame) index) no_hole
hole_read (refused n) frame index = no_hole

-- the hole with an index of a request frame
abbrev pub hole_at : List ℕ → ℕ → Hole
hole_at frame index = hole_read (read_request frame) frame index

-- the holes of a request that was read: all below its count
abbrev pub holes_read : Answer Request → List ℕ → List Hole
holes_read (accepted r) frame = values_from (hole_in (information_of frame)) 0 r.count
holes_read (refused n) frame = []

-- the holes of a request frame
abbrev pub holes_of : List ℕ → List Hole
holes_of frame = holes_read (read_request frame) frame
