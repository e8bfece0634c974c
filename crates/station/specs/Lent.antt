-- A lent map and a lent buffer, of any length (01, "Reception").
-- Assumes nothing.
use Rattle.std.specs.Prelude.{List, ℕ}
use Rattle.reception.specs.Reception.{Reception}

pub record Lent : Type 0 where
  pub map : List ℕ
  pub buffer : List ℕ

-- the reception in them of the file with a number and a length
abbrev pub reception_in : ℕ → ℕ → Lent → Reception
reception_in number l lent = record { number = number; length = l; map = lent.map; buffer = lent.buffer }
