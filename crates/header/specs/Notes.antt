-- What `read_header` notes on its one walk over the items (01, "File header"): a list with a note for each meaning, of how many
-- items have it, of the last one's length, and of where its data start. Only the contracts of private functions speak of
-- them; `proofs/NoteLaws.antt` leads from the notes to the definitions of `Header`, which go by id.
-- Assumes nothing.
use Rattle.std.specs.Prelude.{◌≡◌, true, false, List, ℕ, ◌+◌, ◌≤◌, ◌<◌, length, get_or, Option, Some, None}
use Rattle.header.specs.declared.Meaning.{Meaning}
use Rattle.header.specs.declared.Meaning.TheVariants.{End, FileNumber, FileName, FileExtension, FileLength, CreationTime, ModificationTime, UpsetFlag, FileType, BodySum, HeaderSum, BodyOffset, UploadTime, Other}
use Rattle.header.specs.declared.notes.Note.{Note}
use Rattle.header.specs.declared.notes.Notes.{Notes}
use Rattle.header.specs.Items.{decision_of, items, count_of, start_of, size_of, comes_to_end}
use Rattle.header.specs.Header.{header_length}

-- the place of a meaning; all items of other ids share the last one
abbrev pub place_of : Meaning → ℕ
place_of End = 0
place_of FileNumber = 1
place_of FileName = 2
place_of FileExtension = 3
place_of FileLength = 4
place_of CreationTime = 5
place_of ModificationTime = 6
place_of UpsetFlag = 7
place_of FileType = 8
place_of BodySum = 9
place_of HeaderSum = 10
place_of BodyOffset = 11
place_of UploadTime = 12
place_of Other = 13

-- how many places there are
abbrev pub places : ℕ
places = 14

-- nothing is noted of a meaning
abbrev pub no_note : Note
no_note = record { count = 0; size = 0; start = 0 }

-- the note of a meaning, and of the meaning that an id decides
abbrev pub note_of : List Note → Meaning → Note
note_of notes m = get_or notes (place_of m) no_note

abbrev pub by_id : List Note → ℕ → Note
by_id notes id = note_of notes (decision_of id).meaning

-- what the notes tell of each id: how many items have it, how long the last one's data are, and where they start
abbrev pub counts : List Note → ℕ → ℕ
counts notes id = (by_id notes id).count

abbrev pub sizes : List Note → ℕ → ℕ
sizes notes id = (by_id notes id).size

abbrev pub starts : List Note → ℕ → ℕ
starts notes id = (by_id notes id).start

-- an id whose meaning has a place of its own
abbrev pub Placed : ℕ → Type 0
Placed id = place_of (decision_of id).meaning < place_of Other

-- what all items of s leave in the notes, where they come to the end item, and the place behind it
pub record Noted (s : List ℕ) (n : Notes) : Type 0 where
  pub ends : comes_to_end (items s) ≡ true
  pub reaches : n.end ≡ header_length s
  pub counted : (id : ℕ) → Placed id → counts n.notes id ≡ count_of (items s) id
  pub sized : (id : ℕ) → Placed id → sizes n.notes id ≡ size_of (items s) id
  pub started : (id : ℕ) → Placed id → starts n.notes id ≡ start_of (items s) id
  pub within : (id : ℕ) → Placed id → starts n.notes id + sizes n.notes id ≤ n.end
  pub inside : n.end ≤ length s

-- what the walk leaves, by its answer; where the items break off there are no notes
pub record Walks (walked : Option Notes) (s : List ℕ) : Type 0 where
  pub ended : (n : Notes) → walked ≡ Some n → Noted s n
  pub broken : walked ≡ None → comes_to_end (items s) ≡ false
