-- What an accepted file header says (01, "File header"; demand 2): each value is the number of its item's data.
-- Assumes nothing.
use Rattle.std.specs.Prelude.{◌≡◌, cond, List, ℕ, ◌≤◌, eqb, length, Some, None}
use Rattle.octets.specs.Numbers.{number_at}
use Rattle.header.specs.declared.Header.{Header}
use Rattle.header.specs.Items.{items, count_of}
use Rattle.header.specs.Header.{header_length}
use Rattle.header.specs.Rules.{Rules}
use Rattle.header.specs.Data.{data_of}

-- It keeps the rules, as a header of the file; size is its own length, within the bytes, and length the whole file's; its name and
-- extension are the bytes of items 02 and 03 in their order; item 12 is told exactly if it is there; and item 0B lies between size and
-- length.
pub record HeaderSays (s : List ℕ) (number : ℕ) (h : Header) : Type 0 where
  pub ruled : Rules s number
  pub size : h.size ≡ header_length s
  pub within : h.size ≤ length s
  pub numbered : h.number ≡ number
  pub number_item : h.number ≡ number_at 4 (data_of 0x01 s) 0
  pub length : h.length ≡ number_at 4 (data_of 0x04 s) 0
  pub created : h.created ≡ number_at 4 (data_of 0x05 s) 0
  pub modified : h.modified ≡ number_at 4 (data_of 0x06 s) 0
  pub upset : h.upset ≡ number_at 1 (data_of 0x07 s) 0
  pub kind : h.kind ≡ number_at 1 (data_of 0x08 s) 0
  pub bodysum : h.bodysum ≡ number_at 2 (data_of 0x09 s) 0
  pub headersum : h.headersum ≡ number_at 2 (data_of 0x0A s) 0
  pub body : h.body ≡ number_at 2 (data_of 0x0B s) 0
  pub name : h.name ≡ data_of 0x02 s
  pub extension : h.extension ≡ data_of 0x03 s
  pub upload : h.upload ≡ cond (eqb (count_of (items s) 0x12) 0) None (Some (number_at 4 (data_of 0x12 s) 0))
  pub behind : h.size ≤ h.body
  pub before : h.body ≤ h.length
