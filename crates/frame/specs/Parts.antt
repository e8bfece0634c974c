-- A part of a frame, or of its information (01, "Frame"): what stands behind its first bytes and before the two check bytes.
-- Assumes nothing.
use Rattle.std.specs.Prelude.{List, ℕ, ◌-◌, length, take, drop}
use Rattle.remainder.specs.Check.{check_length}

-- the bytes behind the first n and before the check bytes
abbrev pub part_behind : ℕ → List ℕ → List ℕ
part_behind n s = take (length s - check_length - n) (drop n s)
