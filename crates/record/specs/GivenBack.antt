-- What saving and loading again gives back (01, "Record").
-- Assumes nothing.
use Rattle.std.specs.Prelude.{◌≡◌, cond, ℕ, ◌*◌, ◌<◌}
use Rattle.octets.specs.Numbers.{byte_at}
use Rattle.positions.specs.Map.{held, map_size}
use Rattle.reception.specs.Reception.{Reception}
use Rattle.reception.specs.Held.{held_of}

-- The reception t is s given back: of the same file, it holds exactly the positions of the file that s holds, so that its spare
-- bits are zero; there its bytes are those of s, and elsewhere they are zero.
pub record GivesBack (s t : Reception) : Type 0 where
  pub numbered : t.number ≡ s.number
  pub sized : t.length ≡ s.length
  pub holds : (p : ℕ) → p < map_size s.length * 8 → held t.map p ≡ held_of s.length s.map p
  pub bytes : (p : ℕ) → p < s.length → byte_at t.buffer p ≡ cond (held s.map p) (byte_at s.buffer p) 0
