-- The list that a rule makes, its values at places one after the other (01: the 256 remainders of "Frame", map and buffer of
-- "Reception").
-- Assumes nothing.
use Rattle.std.specs.Prelude.{List, [], ◌∷◌, ℕ, zero, suc}

-- the values of f at n places from i on
abbrev pub values_from : {A : Type 0} → (ℕ → A) → ℕ → ℕ → List A
values_from f i zero = []
values_from f i (suc n) = f i ∷ values_from f (suc i) n
