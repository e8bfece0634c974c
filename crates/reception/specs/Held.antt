-- What a host asks of a map (01, "Reception"): is a position of the file held, and how many are.
-- Assumes nothing.
use Rattle.std.specs.Prelude.{Bool, ◌&&◌, List, ℕ, ltb}
use Rattle.positions.specs.Spans.{count}
use Rattle.positions.specs.Map.{held}

-- a position of the file, below l, that is held; a spare bit is no position of the file
abbrev pub held_of : ℕ → List ℕ → ℕ → Bool
held_of l map p = ltb p l && held map p

-- how many positions of the file are held
abbrev pub held_count : ℕ → List ℕ → ℕ
held_count l map = count (held map) 0 l
