-- The items of a file header (01, "File header"): what an id decides, one step of the cursor, and all items up to the end.
-- Assumes nothing.
use Rattle.std.specs.Prelude.{Bool, true, false, not, cond, List, [], ◌∷◌, ◌++◌, ℕ, zero, suc, ◌+◌, ltb, eqb, length}
use Rattle.octets.specs.Numbers.{byte_at, number_at}
use Rattle.header.specs.declared.Meaning.{Meaning}
use Rattle.header.specs.declared.Meaning.TheVariants.{End, FileNumber, FileName, FileExtension, FileLength, CreationTime, ModificationTime, UpsetFlag, FileType, BodySum, HeaderSum, BodyOffset, UploadTime, Other}
use Rattle.header.specs.declared.Size.{Size}
use Rattle.header.specs.declared.Size.TheVariants.{Exactly, Any}
use Rattle.header.specs.declared.Decision.{Decision}
use Rattle.header.specs.declared.Item.{Item}
use Rattle.header.specs.declared.Step.{Step}
use Rattle.header.specs.declared.Step.TheVariants.{Found, Ended, Broken}

-- an id, the length of its items, and their meaning
pub data Known : Type 0 where
  known : ℕ → ℕ → Meaning → Known

-- the mandatory items
unfoldable pub mandatory_items : List Known
mandatory_items =
    known 0x01 4 FileNumber
    ∷ known 0x02 8 FileName
    ∷ known 0x03 3 FileExtension
    ∷ known 0x04 4 FileLength
    ∷ known 0x05 4 CreationTime
    ∷ known 0x06 4 ModificationTime
    ∷ known 0x07 1 UpsetFlag
    ∷ known 0x08 1 FileType
    ∷ known 0x09 2 BodySum
    ∷ known 0x0A 2 HeaderSum
    ∷ known 0x0B 2 BodyOffset
    ∷ []

-- all items whose length is fixed: the end item, which has no data, the mandatory ones, and item 12 with 4 bytes
unfoldable pub known_items : List Known
known_items = known 0x00 0 End ∷ mandatory_items ++ known 0x12 4 UploadTime ∷ []

-- the decision over an id, by a list of known items: other ids have any length
abbrev pub look_up : List Known → ℕ → Decision
look_up [] id = record { meaning = Other; size = Any }
look_up (known one size meaning ∷ rest) id = cond (eqb id one) (record { meaning = meaning; size = Exactly size }) (look_up rest id)

-- the decision over an item's id: its length and its meaning
unfoldable pub decision_of : ℕ → Decision
decision_of id = look_up known_items id

-- the decision allows n bytes of data
abbrev pub allows_size : Size → ℕ → Bool
allows_size (Exactly m) n = eqb n m
allows_size Any n = true

-- What stands at the place of a list of n bytes, if the id and the length read there are these. Three bytes of id and
-- length are there, the id allows the length, id 0 ends the header, and an item's data are there too.
unfoldable pub step_with : ℕ → ℕ → ℕ → ℕ → Step
step_with n at id size =
    cond (ltb n (at + 3)) Broken
    (cond (not (allows_size (decision_of id).size size)) Broken
    (cond (eqb id 0) (Ended (record { at = at + 3 }))
    (cond (ltb n (at + 3 + size)) Broken
    (Found (record { id = id; meaning = (decision_of id).meaning; start = at + 3; size = size }) (record { at = at + 3 + size })))))

-- an item is id (2), length (1) and data
unfoldable pub step_at : List ℕ → ℕ → Step
step_at s at = step_with (length s) at (number_at 2 s at) (byte_at s (at + 2))

-- Items one after the other. They end with the end item, at the place behind it, or break off.
pub data Items : Type 0 where
  item : Item → Items → Items
  ended : ℕ → Items
  broken : Items

-- what a step finds, and then what stands at the next cursor
abbrev pub after : Step → (ℕ → Items) → Items
after (Found i c) next = item i (next c.at)
after (Ended c) next = ended c.at
after Broken next = broken

-- at most k steps
abbrev pub steps : ℕ → List ℕ → ℕ → Items
steps zero s at = broken
steps (suc k) s at = after (step_at s at) (steps k s)

-- the items from a place on: each has three bytes or more, so as many steps as there are bytes come to the end
unfoldable pub items_from : List ℕ → ℕ → Items
items_from s at = steps (length s) s at

-- the items of a header, which follow AA 55
abbrev pub items : List ℕ → Items
items s = items_from s 2

-- how many items have the id
abbrev pub count_of : Items → ℕ → ℕ
count_of (item i rest) id = cond (eqb i.id id) 1 0 + count_of rest id
count_of (ended e) id = 0
count_of broken id = 0

-- f of the last item with the id, and d if there is none
abbrev pub last_of : (Item → ℕ) → ℕ → ℕ → Items → ℕ
last_of f d id (item i rest) = last_of f (cond (eqb i.id id) (f i) d) id rest
last_of f d id (ended e) = d
last_of f d id broken = d

-- where the data of the last item with the id start, and how many bytes they are; 0 if there is none
abbrev pub start_of : Items → ℕ → ℕ
start_of is id = last_of (λ (i : Item). i.start) 0 id is

abbrev pub size_of : Items → ℕ → ℕ
size_of is id = last_of (λ (i : Item). i.size) 0 id is

-- the items come to the end item
abbrev pub comes_to_end : Items → Bool
comes_to_end (item i rest) = comes_to_end rest
comes_to_end (ended e) = true
comes_to_end broken = false

-- the place behind the end item; nothing asks for it where the items break off
abbrev pub behind_end : Items → ℕ
behind_end (item i rest) = behind_end rest
behind_end (ended e) = e
behind_end broken = 0
