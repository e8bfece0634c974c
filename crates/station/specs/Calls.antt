-- Calls of `take` one after the other (demand 3), by their promises alone: whatever the functions do, this is what is known of it.
-- Assumes nothing.
use Rattle.std.specs.Prelude.{List, [], ◌∷◌, ℕ, Result}
use Rattle.reason.specs.declared.Reason.{Reason}
use Rattle.station.specs.Lent.{Lent, reception_in}
use Rattle.taking.specs.Taking.{TakesFrame}

-- from what is lent at first, over frames, to what is left at last; each call answers something and leaves something that meets its
-- promise
pub data Calls (number l : ℕ) : Lent → List (List ℕ) → Lent → Type 0 where
  none : (lent : Lent) → Calls number l lent [] lent
  more : (lent left last : Lent) (frame : List ℕ) (frames : List (List ℕ)) (r : Result ℕ Reason)
      → TakesFrame (reception_in number l lent) frame r left.map left.buffer → Calls number l left frames last
      → Calls number l lent (frame ∷ frames) last
