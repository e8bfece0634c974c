-- What private functions promise each other (01, "Record"): a part of a record, and the questions of the other files, asked of one
-- map byte. No promise of a public function cites it.
-- Assumes nothing.
use Rattle.std.specs.Prelude.{Bool, cond, ◌||◌, List, [], ℕ, ◌+◌, ◌≤◌, leb, eqb, length}
use Rattle.octets.specs.Numbers.{byte_at}
use Rattle.positions.specs.Map.{is_set, map_size}
use Rattle.record.specs.Reading.{part}

-- a map and a buffer have room for a file of l bytes
pub record Room (l : ℕ) (map buffer : List ℕ) : Type 0 where
  pub mapped : map_size l ≤ length map
  pub buffered : l ≤ length buffer

-- the n bytes of a record from a place on where they fit, and else none
abbrev pub part_by : List ℕ → ℕ → ℕ → List ℕ
part_by s at n = cond (leb (at + n) (length s)) (part s at n) []

-- bit k of a map byte is set, or the byte at place k is zero
abbrev pub clear_at : ℕ → List ℕ → ℕ → Bool
clear_at b bytes k = is_set b k || eqb (byte_at bytes k) 0

-- the byte at place k where bit k of a map byte is set, and else 0
abbrev pub byte_saved : ℕ → List ℕ → ℕ → ℕ
byte_saved b bytes k = cond (is_set b k) (byte_at bytes k) 0
