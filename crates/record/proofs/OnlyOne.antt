-- No second answer meets a promise of this crate, and no other bytes in a target, a map or a buffer.
-- Assumes nothing.
use mathlib.Core.Path.{◌≡◌}
use mathlib.Core.List.{List}
use Prim.Native.Nat.{ℕ}
use Rattle.std.specs.Prelude.{Result}
use Rattle.reason.specs.declared.Reason.{Reason}
use Rattle.reason.specs.Answer.{answer_of}
use Rattle.reason.proofs.OnlyOne.{only_one, only_one_answer, only_one_told}
use Rattle.octets.specs.Runs.{put_in}
use Rattle.reception.specs.Reception.{Reception}
use Rattle.reception.specs.declared.File.{File}
use Rattle.record.specs.Record.{record_of}
use Rattle.record.specs.Reading.{read_record, map_read}
use Rattle.record.specs.Saving.{saving, Saves}
use Rattle.record.specs.Loading.{Loads}

-- `save`: the answer and every byte of the target
pub only_one_save : (s : Reception) (target : List ℕ) (r q : Result ℕ Reason) (left also : List ℕ) → Saves s target r left → Saves s target q also
    → (r ≡ q) × (left ≡ also)
only_one_save s target r q left also d e =
    only_one_told target (saving s target) (λ n. put_in target 0 (record_of s)) r q left also d e

-- `load`: the answer and every byte of the map and the buffer
pub only_one_load : (s map buffer : List ℕ) (r q : Result File Reason) (m m' b b' : List ℕ) → Loads s map buffer r m b → Loads s map buffer q m' b'
    → (r ≡ q) × (m ≡ m') × (b ≡ b')
only_one_load s map buffer r q m m' b b' d e = (
  only_one_answer r q d.answers e.answers,
  only_one m m' d.leaves_map e.leaves_map,
  only_one b b' d.leaves_buffer e.leaves_buffer,
)

-- `read_record` and `map_of`
pub only_one_read_record : (s : List ℕ) (r q : Result File Reason) → answer_of r ≡ read_record s → answer_of q ≡ read_record s → r ≡ q
only_one_read_record s r q = only_one_answer r q

pub only_one_map_of : (s : List ℕ) (read : Result File Reason) (r q : List ℕ) → r ≡ map_read (answer_of read) s → q ≡ map_read (answer_of read) s → r ≡ q
only_one_map_of s read r q = only_one r q
