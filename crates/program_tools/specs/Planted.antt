-- Faults that are planted in one call.
-- Assumes nothing.
use Rattle.std.specs.Prelude.{Bool, cond, ◌||◌}
use Rattle.program_tools.specs.declared.planted.Planted.{Planted}

-- whether a fault is one of the two, by a test that two are the same
abbrev pub is_among : {F : Type 0} → (F → F → Bool) → Planted F → F → Bool
is_among same f fault = same f.first fault || same f.second fault

-- the second of two values where a fault is one of the two, else the first
abbrev pub chosen : {F T : Type 0} → (F → F → Bool) → Planted F → F → T → T → T
chosen same f fault right wrong = cond (is_among same f fault) wrong right
