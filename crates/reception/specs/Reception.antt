-- A reception of a file, and the data of a piece of one (01, "Reception").
-- Assumes nothing.
use Rattle.std.specs.Prelude.{Bool, not, ◌&&◌, ◌||◌, List, ℕ, leb, ltb, length}
use Rattle.positions.specs.Map.{map_size}
use Rattle.reception.specs.declared.File.{File}
use Rattle.reception.specs.declared.Data.{Data}
use Rattle.reception.specs.declared.Reception as declared

-- the longest file
abbrev pub longest : ℕ
longest = 32768

-- number, length, map and buffer; the lent lists may be longer than the file needs
pub record Reception : Type 0 where
  pub number : ℕ
  pub length : ℕ
  pub map : List ℕ
  pub buffer : List ℕ

-- the data of a piece: the number of its file, the position of its first byte, and its bytes
pub record PieceData : Type 0 where
  pub number : ℕ
  pub offset : ℕ
  pub bytes : List ℕ

-- what is lent: a file's reception in a map and a buffer; one that is lent to be read; the data of a piece
abbrev pub lent_for : File → List ℕ → List ℕ → Reception
lent_for file map buffer = record { number = file.number; length = file.length; map = map; buffer = buffer }

abbrev pub lent_in : declared.Reception → Reception
lent_in t = lent_for t.file t.map.now t.buffer.now

abbrev pub data_in : Data → PieceData
data_in x = record { number = x.number; offset = x.offset; bytes = x.bytes.now }

-- reason 7: the length is not 1 to 32,768
abbrev pub wrong_length : ℕ → Bool
wrong_length l = not (leb 1 l && leb l longest)

-- reason 12: the lent map has fewer than ceil(L/8) bytes
abbrev pub short_map : ℕ → List ℕ → Bool
short_map l map = ltb (length map) (map_size l)

-- reason 12: the lent map or the lent buffer is too short
abbrev pub short_space : ℕ → List ℕ → List ℕ → Bool
short_space l map buffer = short_map l map || ltb (length buffer) l
