-- `request::reading::hole_from` meets its contract: both numbers.
-- Assumes nothing.
use mathlib.Core.Path.{ap₂}
use Prim.Native.Nat.{ℕ}
use Rattle.request.specs.Reading.{hole_spelled}
use Rattle.request.proofs.reading.hole_from.Goals as goal

pub returns-clause-value : goal.returns-clause-value
unfolding hole_spelled
returns-clause-value c = ap₂ (λ (x y : ℕ). record { start = x; length = y }) c.number.ensures.value c.number-2.ensures.value
