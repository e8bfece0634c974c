-- Holes (01, "Reception"): the longest runs of unheld positions below L.
-- Assumes nothing.
use Rattle.std.specs.Prelude.{◌≡◌, Bool, true, false, not, ◌&&◌, List, ℕ, zero, suc, ◌+◌, ◌-◌, ◌≤◌, ◌<◌}
use Rattle.positions.specs.Spans.{first}
use Rattle.positions.specs.Map.{held}
use Rattle.holes.specs.declared.Hole.{Hole}

-- no unheld position stands right before p
abbrev pub held_before : List ℕ → ℕ → Bool
held_before map zero = true
held_before map (suc p) = held map p

-- a hole starts at p
abbrev pub starts_hole : List ℕ → ℕ → Bool
starts_hole map p = not (held map p) && held_before map p

-- the first position below l, from a place on, where a hole starts; where there is none, one that is not below l
abbrev pub hole_start : ℕ → List ℕ → ℕ → ℕ
hole_start l map place = first (starts_hole map) place (l - place)

-- the end of a hole: the first held position behind its start, or l
abbrev pub hole_end : ℕ → List ℕ → ℕ → ℕ
hole_end l map start = first (held map) start (l - start)

-- the first hole that starts at the place or later
abbrev pub hole_from : ℕ → List ℕ → ℕ → Hole
hole_from l map place =
    let start = hole_start l map place in
    record { start = start; length = hole_end l map start - start }

-- What a hole is: a run of unheld positions below l that cannot be made longer.
pub record IsHole (l : ℕ) (map : List ℕ) (hole : Hole) : Type 0 where
  pub some : 1 ≤ hole.length
  pub below : hole.start + hole.length ≤ l
  pub unheld : (p : ℕ) → hole.start ≤ p → p < hole.start + hole.length → held map p ≡ false
  pub no_longer_before : (p : ℕ) → suc p ≡ hole.start → held map p ≡ true
  pub no_longer_behind : hole.start + hole.length < l → held map (hole.start + hole.length) ≡ true
