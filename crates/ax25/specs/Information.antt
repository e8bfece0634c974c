-- The information of a frame (01, "Frame"): what follows the head, and the protocol that says what it is about.
-- Assumes nothing.
use Rattle.std.specs.Prelude.{List, ℕ, drop}
use Rattle.ax25.specs.Head.{head_length}

-- the protocols: of file pieces and fill requests, and of directory entries
abbrev pub file_protocol : ℕ
file_protocol = 0xBB

abbrev pub directory_protocol : ℕ
directory_protocol = 0xBD

-- what follows the head
abbrev pub information_of : List ℕ → List ℕ
information_of frame = drop head_length frame
