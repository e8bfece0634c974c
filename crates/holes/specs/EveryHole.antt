-- Listing every hole (01, "Reception" and "Fill request"): asked from a place, and then each time from the end of the last hole,
-- until reason 15.
-- Assumes nothing.
use Rattle.std.specs.Prelude.{◌≡◌, List, [], ◌∷◌, ℕ, zero, suc, ◌+◌, ◌≤◌, ◌<◌}
use Rattle.reason.specs.Answer.{Answer, accepted, refused}
use Rattle.octets.specs.Lists.{OneOf, Each}
use Rattle.holes.specs.Holes.{IsHole}
use Rattle.holes.specs.Listing.{listing}
use Rattle.holes.specs.declared.Hole.{Hole}

-- the position behind a hole
abbrev pub end_of : Hole → ℕ
end_of hole = hole.start + hole.length

-- a list that goes on where a hole was answered, and ends where none was
abbrev pub go_on : Answer Hole → (Hole → List Hole) → List Hole
go_on (accepted hole) more = hole ∷ more hole
go_on (refused n) more = []

-- what is listed by n questions, the first from a place, each other from the end of the hole before
abbrev pub listed_from : ℕ → ℕ → List ℕ → ℕ → List Hole
listed_from zero l map place = []
listed_from (suc n) l map place = go_on (listing l map place) (λ hole. listed_from n l map (end_of hole))

-- the end of the last hole of a list, from where the next question is asked; of an empty list, the place of the first question
abbrev pub last_end : ℕ → List Hole → ℕ
last_end place [] = place
last_end place (hole ∷ holes) = last_end (end_of hole) holes

-- the holes ascend: the first starts at a place or later, and at least one position stands between neighbours
abbrev pub Ascending : ℕ → List Hole → Type 0
Ascending place [] = Unit
Ascending place (hole ∷ holes) = (place ≤ hole.start) × Ascending (suc (end_of hole)) holes

-- What a list of all holes is: each of it is a hole, they ascend, so that none comes twice, every hole is one of it, and the question
-- after the last is answered by reason 15.
pub record AllHoles (l : ℕ) (map : List ℕ) (holes : List Hole) : Type 0 where
  pub are_holes : Each (IsHole l map) holes
  pub ascend : Ascending 0 holes
  pub every_one : (hole : Hole) → IsHole l map hole → OneOf hole holes
  pub then_15 : listing l map (last_end 0 holes) ≡ refused 15

-- a position stands in a hole
abbrev pub InHole : ℕ → List ℕ → ℕ → Type 0
InHole l map p = (hole : Hole) × (IsHole l map hole × ((hole.start ≤ p) × (p < end_of hole)))
