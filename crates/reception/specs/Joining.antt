-- Joining a second reception into a first (01, "Reception").
-- Assumes nothing.
use Rattle.std.specs.Prelude.{not, ◌&&◌, ◌||◌, List, [], ◌∷◌, ℕ, eqb, Result}
use Rattle.reason.specs.declared.Reason.{Reason}
use Rattle.reason.specs.Answer.{Answer}
use Rattle.reason.specs.Order.{Check, check, first_of}
use Rattle.reception.specs.Reception.{Reception, wrong_length, short_space}
use Rattle.reception.specs.Adding.{of_reception, agrees, new_in, after, Adds}

-- "Joining: 7 and 12 (each for either reception), 9, 11"; 9 is for the number or the length
abbrev pub joining_checks : Reception → Reception → List Check
joining_checks s t =
    check (wrong_length s.length || wrong_length t.length) 7 ∷
    check (short_space s.length s.map s.buffer || short_space t.length t.map t.buffer) 12 ∷
    check (not (eqb s.number t.number && eqb s.length t.length)) 9 ∷
    check (not (agrees s (of_reception t))) 11 ∷ []

-- the count of positions that only the second holds
abbrev pub joined_new : Reception → Reception → ℕ
joined_new s t = new_in s (of_reception t)

-- the answer: that count, or the reason
unfoldable pub joining : Reception → Reception → Answer ℕ
joining s t = first_of (joining_checks s t) (joined_new s t)

-- the first reception afterwards; the second is unchanged
abbrev pub joined : Reception → Reception → Reception
joined s t = after s (of_reception t) (joining s t)

-- The promise of `join`: what it answers, and what it leaves in the lent map and buffer of the first.
abbrev pub Joins : Reception → Reception → Result ℕ Reason → List ℕ → List ℕ → Type 0
Joins s t r map buffer = Adds s (of_reception t) (joining s t) r map buffer
