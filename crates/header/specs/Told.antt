-- Which value of a header an item's meaning is (01, "File header": "The decision over an item's id gives its length and meaning").
-- `proofs/ItemSays.antt` shows that an accepted header tells for each of its items what the item's data say.
-- Assumes nothing.
use Rattle.std.specs.Prelude.{◌≡◌, List, ◌⊎◌, ℕ, Some}
use Rattle.octets.specs.Numbers.{number_at}
use Rattle.header.specs.declared.Meaning.{Meaning}
use Rattle.header.specs.declared.Meaning.TheVariants.{End, FileNumber, FileName, FileExtension, FileLength, CreationTime, ModificationTime, UpsetFlag, FileType, BodySum, HeaderSum, BodyOffset, UploadTime, Other}
use Rattle.header.specs.declared.Item.{Item}
use Rattle.header.specs.declared.Header.{Header}
use Rattle.header.specs.Items.{Items, item, ended, broken}

-- an item stands among the items
abbrev pub Among : Item → Items → Type 0
Among j (item i rest) = (i ≡ j) ⊎ Among j rest
Among j (ended e) = ⊥
Among j broken = ⊥

-- The header's value for a meaning is what the data say: their number, or the bytes themselves for name and extension. The end item
-- and other items tell nothing.
abbrev pub Tells : Header → Meaning → List ℕ → Type 0
Tells h End bytes = Unit {0}
Tells h FileNumber bytes = h.number ≡ number_at 4 bytes 0
Tells h FileName bytes = h.name ≡ bytes
Tells h FileExtension bytes = h.extension ≡ bytes
Tells h FileLength bytes = h.length ≡ number_at 4 bytes 0
Tells h CreationTime bytes = h.created ≡ number_at 4 bytes 0
Tells h ModificationTime bytes = h.modified ≡ number_at 4 bytes 0
Tells h UpsetFlag bytes = h.upset ≡ number_at 1 bytes 0
Tells h FileType bytes = h.kind ≡ number_at 1 bytes 0
Tells h BodySum bytes = h.bodysum ≡ number_at 2 bytes 0
Tells h HeaderSum bytes = h.headersum ≡ number_at 2 bytes 0
Tells h BodyOffset bytes = h.body ≡ number_at 2 bytes 0
Tells h UploadTime bytes = h.upload ≡ Some (number_at 4 bytes 0)
Tells h Other bytes = Unit {0}
