-- Loading a record into a reception (01, "Record").
-- Assumes nothing.
use Rattle.std.specs.Prelude.{◌≡◌, not, List, [], ◌∷◌, ℕ, Result}
use Rattle.reason.specs.declared.Reason.{Reason}
use Rattle.reason.specs.Answer.{Answer, answer_of, leaving}
use Rattle.reason.specs.Order.{Check, check, first_of}
use Rattle.octets.specs.Runs.{put_in}
use Rattle.reception.specs.Reception.{Reception, short_space}
use Rattle.reception.specs.declared.File.{File}
use Rattle.record.specs.Reading.{number_in, length_in, map_in, buffer_in, is_record, recorded_in}

-- "Loading: 13, 12"
abbrev pub loading_checks : List ℕ → List ℕ → List ℕ → List Check
loading_checks s map buffer = check (not (is_record s)) 13 ∷ check (short_space (length_in s) map buffer) 12 ∷ []

-- the answer: number and length, or the reason
unfoldable pub loading : List ℕ → List ℕ → List ℕ → Answer File
loading s map buffer = first_of (loading_checks s map buffer) (recorded_in s)

-- the lent map and buffer when it is loaded: the record's map, so that spare bits are clear, and its buffer; what lies beyond stays
abbrev pub loaded_map : List ℕ → List ℕ → List ℕ
loaded_map s map = put_in map 0 (map_in s)

abbrev pub loaded_buffer : List ℕ → List ℕ → List ℕ
loaded_buffer s buffer = put_in buffer 0 (buffer_in s)

-- the reception that is loaded then
abbrev pub loaded : List ℕ → List ℕ → List ℕ → Reception
loaded s map buffer = record { number = number_in s; length = length_in s; map = loaded_map s map; buffer = loaded_buffer s buffer }

-- The promise of `load`: what it answers, and what it leaves in the lent map and buffer.
pub record Loads (s map buffer : List ℕ) (r : Result File Reason) (map' buffer' : List ℕ) : Type 0 where
  pub answers : answer_of r ≡ loading s map buffer
  pub leaves_map : map' ≡ leaving (λ x. loaded_map s map) map (loading s map buffer)
  pub leaves_buffer : buffer' ≡ leaving (λ x. loaded_buffer s buffer) buffer (loading s map buffer)
