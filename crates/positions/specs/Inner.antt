-- What the private functions promise each other (01, "Reception"): the bits of a map byte on a side of the map. No promise of a
-- public function cites it.
-- Assumes nothing.
use Rattle.std.specs.Prelude.{ℕ, ◌-◌}
use Rattle.positions.specs.declared.Side.{Side}
use Rattle.positions.specs.declared.Side.TheVariants.{Held, Unheld}

-- the byte whose set bits are those on the side; a byte without any is what it gives for 0
abbrev pub side_of : ℕ → Side → ℕ
side_of b Held = b
side_of b Unheld = 255 - b
