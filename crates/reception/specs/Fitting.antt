-- One piece and one file: whether it fits the file, which of its positions it covers, and whether its bytes are the file's (demand 3).
-- Assumes nothing.
use Rattle.std.specs.Prelude.{◌≡◌, Bool, ◌&&◌, List, ℕ, ◌+◌, ◌<◌, leb, eqb, length}
use Rattle.octets.specs.Numbers.{byte_at}
use Rattle.positions.specs.Spans.{within}
use Rattle.reception.specs.Reception.{PieceData}

-- a piece fits a file: its number is the file's, and it ends by the file's end
abbrev pub fits : ℕ → ℕ → PieceData → Bool
fits number l x = eqb number x.number && leb (x.offset + length x.bytes) l

-- a piece that fits covers the position
abbrev pub covers : ℕ → ℕ → PieceData → ℕ → Bool
covers number l x p = fits number l x && within x.offset (length x.bytes) p

-- a piece agrees with a file: its bytes are the file's
abbrev pub AgreesWith : List ℕ → PieceData → Type 0
AgreesWith file x = (i : ℕ) → i < length x.bytes → byte_at x.bytes i ≡ byte_at file (x.offset + i)
