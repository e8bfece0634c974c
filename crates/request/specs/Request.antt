-- A fill request (01, "Fill request"): flags, file number (4), block size 244 (2), then for each hole offset (3) and length (2).
-- Assumes nothing.
use Rattle.std.specs.Prelude.{Bool, true, ◌&&◌, List, [], ◌∷◌, ◌++◌, ℕ, suc, ◌+◌, ◌*◌, leb, eqb}
use Rattle.octets.specs.Numbers.{bytes_of}
use Rattle.ax25.specs.declared.Head.{Head}
use Rattle.ax25.specs.Head.{head_length, head_bytes}
use Rattle.ax25.specs.Information.{file_protocol}
use Rattle.holes.specs.declared.Hole.{Hole}
use Rattle.reception.specs.Reception.{longest}
use Rattle.holes.specs.EveryHole.{end_of}
use Rattle.request.specs.declared.Asks.{Asks}
use Rattle.request.specs.declared.Asks.TheVariants.{Start, Holes}

-- the flags: 0x10 asks for the start, 0x11 lists holes
abbrev pub flags_of : Asks → ℕ
flags_of Start = 0x10
flags_of Holes = 0x11

-- the block size of every request
abbrev pub block_size : ℕ
block_size = 244

-- the most holes of a request
abbrev pub most_holes : ℕ
most_holes = 49

-- a request for the start has no holes, one that lists holes has 1 to 49
abbrev pub holes_of_kind : Asks → ℕ → Bool
holes_of_kind Start n = eqb n 0
holes_of_kind Holes n = leb 1 n && leb n most_holes

-- how many bytes stand before the holes: flags, number and block size
abbrev pub before_holes : ℕ
before_holes = 7

-- how many bytes a hole takes: offset and length
abbrev pub bytes_per_hole : ℕ
bytes_per_hole = 5

-- how many bytes a request's frame of n holes has
abbrev pub frame_length : ℕ → ℕ
frame_length n = head_length + before_holes + n * bytes_per_hole

-- the bytes before the holes
abbrev pub request_before : Asks → ℕ → List ℕ
request_before asks number = flags_of asks ∷ (bytes_of 4 number ++ bytes_of 2 block_size)

-- the bytes of a hole
abbrev pub hole_bytes : Hole → List ℕ
hole_bytes hole = bytes_of 3 hole.start ++ bytes_of 2 hole.length

-- the bytes of holes, one after the other
abbrev pub holes_bytes : List Hole → List ℕ
holes_bytes [] = []
holes_bytes (hole ∷ holes) = hole_bytes hole ++ holes_bytes holes

-- the information of a request
abbrev pub information : Asks → ℕ → List Hole → List ℕ
information asks number holes = request_before asks number ++ holes_bytes holes

-- its whole frame: protocol 0xBB, no check bytes
unfoldable pub request_frame : Head → Asks → ℕ → List Hole → List ℕ
request_frame head asks number holes = head_bytes head.destination head.source file_protocol ++ information asks number holes

-- a hole that starts at a place or later, has at least 1 byte, and does not end beyond 32,768
abbrev pub hole_right : ℕ → Hole → Bool
hole_right place hole = leb place hole.start && leb 1 hole.length && leb (end_of hole) longest

-- holes that ascend from a place, with at least one position between neighbours
unfoldable pub holes_right : ℕ → List Hole → Bool
holes_right place [] = true
holes_right place (hole ∷ holes) = hole_right place hole && holes_right (suc (end_of hole)) holes
