-- What a reception of a file holds, and the reception apart from lent space beyond it (demand 3).
-- Assumes nothing.
use Rattle.std.specs.Prelude.{◌≡◌, Bool, false, cond, List, ℕ, ◌*◌, ◌≤◌, ◌<◌, length, take, drop}
use Rattle.octets.specs.Numbers.{byte_at, AllBytes}
use Rattle.positions.specs.Map.{held, map_size}
use Rattle.reception.specs.Reception.{Reception}

-- The reception s, of the file with this number and length, holds exactly the positions of a set, all below l; there its
-- bytes are the file's, elsewhere they are zero, and so are the spare bits. It says nothing of what lies beyond in the lent
-- map and buffer.
pub record HoldsOf (number l : ℕ) (file : List ℕ) (set : ℕ → Bool) (s : Reception) : Type 0 where
  pub numbered : s.number ≡ number
  pub sized : s.length ≡ l
  pub map_long : map_size l ≤ length s.map
  pub buffer_long : l ≤ length s.buffer
  pub map_bytes : AllBytes s.map
  pub below : (p : ℕ) → l ≤ p → set p ≡ false
  pub holds : (p : ℕ) → p < map_size l * 8 → held s.map p ≡ set p
  pub bytes : (p : ℕ) → p < l → byte_at s.buffer p ≡ cond (set p) (byte_at file p) 0

-- the reception itself: the ceil(L/8) bytes of its map and the L bytes of its buffer
abbrev pub itself : Reception → Reception
itself s = record { number = s.number; length = s.length; map = take (map_size s.length) s.map; buffer = take s.length s.buffer }

-- what lies beyond in the lent map and buffer
pub record Beyond : Type 0 where
  pub map : List ℕ
  pub buffer : List ℕ

-- .. of a reception
abbrev pub beyond : Reception → Beyond
beyond s = record { map = drop (map_size s.length) s.map; buffer = drop s.length s.buffer }
