-- Saving a reception as a record (01, "Record").
-- Assumes nothing.
use Rattle.std.specs.Prelude.{◌||◌, List, [], ◌∷◌, ℕ, ltb, length, Result}
use Rattle.reason.specs.declared.Reason.{Reason}
use Rattle.reason.specs.Answer.{Answer, answer_of, WritesAndTells}
use Rattle.reason.specs.Order.{Check, check, first_of}
use Rattle.octets.specs.Runs.{put_in}
use Rattle.reception.specs.Reception.{Reception, wrong_length, short_space}
use Rattle.record.specs.Record.{record_of, record_length}

-- "Saving: 7, 12": 12 where the map, the buffer or the target is too short
abbrev pub saving_checks : Reception → List ℕ → List Check
saving_checks s target =
    check (wrong_length s.length) 7
    ∷ check (short_space s.length s.map s.buffer || ltb (length target) (record_length s.length)) 12
    ∷ []

-- the answer: the record's size, or the reason
unfoldable pub saving : Reception → List ℕ → Answer ℕ
saving s target = first_of (saving_checks s target) (record_length s.length)

-- The promise of `save`: what it answers, and that it leaves the record in the first bytes of the target, or every byte as it was.
abbrev pub Saves : Reception → List ℕ → Result ℕ Reason → List ℕ → Type 0
Saves s target r left = WritesAndTells target (saving s target) (λ n. put_in target 0 (record_of s)) (answer_of r) left
