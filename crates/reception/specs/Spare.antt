-- Spare bits (01, "Reception"): bits of a map at positions that are not below L.
-- Assumes nothing.
use Rattle.std.specs.Prelude.{◌≡◌, List, ℕ, ◌<◌, length}
use Rattle.positions.specs.Map.{held}
use Rattle.reception.specs.Reception.{Reception}

-- two maps that differ in such bits alone: they are as long, and hold the same positions below l
pub record SameBelow (l : ℕ) (map map' : List ℕ) : Type 0 where
  pub long : length map' ≡ length map
  pub same : (p : ℕ) → p < l → held map p ≡ held map' p

-- a reception with another map
abbrev pub with_map : Reception → List ℕ → Reception
with_map s map = record { number = s.number; length = s.length; map = map; buffer = s.buffer }
