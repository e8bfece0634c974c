-- Frames and a reception that worked cases speak of (01, "Both sides of the line").
-- Assumes nothing.
use Rattle.std.specs.Prelude.{List, [], ◌∷◌, ℕ, replicate}
use Rattle.ax25.specs.Examples.{va3sfl, uosat5}
use Rattle.frame.specs.Making.{piece_frame}
use Rattle.reception.specs.Reception.{Reception}
use Rattle.reception.specs.Opening.{opened}

-- a frame with a piece of file 7 at a position, its check bytes right
abbrev pub frame_at : ℕ → List ℕ → List ℕ
frame_at offset bytes = piece_frame (record { head = record { destination = va3sfl; source = uosat5 11 }; number = 7; kind = 0; offset = offset }) bytes

-- ABCD at 0
abbrev pub front : List ℕ
front = frame_at 0 (0x41 ∷ 0x42 ∷ 0x43 ∷ 0x44 ∷ [])

-- file 7 with length 20 and the longest file, opened in space that held something else
abbrev pub opened_twenty : Reception
opened_twenty = opened 7 20 (replicate 3 0xFF) (replicate 20 0xFF)

abbrev pub longest_file : Reception
longest_file = opened 7 32768 (replicate 4096 0xFF) (replicate 32768 0xFF)
