-- Opening a reception (01, "Reception"): the map and the buffer are cleared.
-- Assumes nothing.
use Rattle.std.specs.Prelude.{◌≡◌, List, [], ◌∷◌, ◌++◌, ℕ, drop, replicate, Result}
use Rattle.reason.specs.declared.Reason.{Reason}
use Rattle.reason.specs.Answer.{Answer, answer_of, leaving}
use Rattle.reason.specs.Order.{Check, check, first_of}
use Rattle.positions.specs.Map.{map_size}
use Rattle.reception.specs.Reception.{Reception, wrong_length, short_space}

-- the first n bytes are 0, the others as they were
abbrev pub cleared : ℕ → List ℕ → List ℕ
cleared n bytes = replicate n 0 ++ drop n bytes

-- "Opening: 7, 12"
abbrev pub opening_checks : ℕ → List ℕ → List ℕ → List Check
opening_checks l map buffer = check (wrong_length l) 7 ∷ check (short_space l map buffer) 12 ∷ []

-- the answer: it is open, or the reason
unfoldable pub opening : ℕ → List ℕ → List ℕ → Answer Unit
opening l map buffer = first_of (opening_checks l map buffer) tt

-- the lent map and the lent buffer when it is open: the ceil(L/8) map bytes, spare bits included, and the L buffer bytes are cleared
abbrev pub opened_map : ℕ → List ℕ → List ℕ
opened_map l map = cleared (map_size l) map

abbrev pub opened_buffer : ℕ → List ℕ → List ℕ
opened_buffer l buffer = cleared l buffer

-- the reception that is open then
abbrev pub opened : ℕ → ℕ → List ℕ → List ℕ → Reception
opened number l map buffer = record { number = number; length = l; map = opened_map l map; buffer = opened_buffer l buffer }

-- The promise of `open`: what it answers, and what it leaves in the lent map and buffer.
pub record Opens (l : ℕ) (map buffer : List ℕ) (r : Result Unit Reason) (map' buffer' : List ℕ) : Type 0 where
  pub answers : answer_of r ≡ opening l map buffer
  pub leaves_map : map' ≡ leaving (λ u. opened_map l map) map (opening l map buffer)
  pub leaves_buffer : buffer' ≡ leaving (λ u. opened_buffer l buffer) buffer (opening l map buffer)
