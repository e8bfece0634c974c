-- When a file header is accepted, and the values that it then gives (01, "File header").
-- Assumes nothing.
use Rattle.std.specs.Prelude.{Bool, not, cond, ◌&&◌, List, [], ◌∷◌, ℕ, ◌%◌, leb, eqb, take, Option, Some, None, sum}
use Rattle.std.specs.List.{list_all}
use Rattle.reason.specs.Answer.{Answer}
use Rattle.reason.specs.Order.{Check, check, first_of}
use Rattle.octets.specs.Numbers.{byte_at, number_at}
use Rattle.octets.specs.Values.{values_from}
use Rattle.octets.specs.Runs.{put_in}
use Rattle.header.specs.declared.Pair.{Pair}
use Rattle.header.specs.declared.Header.{Header}
use Rattle.header.specs.Items.{Known, known, mandatory_items, items, count_of, start_of, size_of, comes_to_end, behind_end}

-- the first two bytes are AA 55
abbrev pub begins_right : List ℕ → Bool
begins_right s = eqb (byte_at s 0) 0xAA && eqb (byte_at s 1) 0x55

-- the header's length, from AA 55 to the end item
abbrev pub header_length : List ℕ → ℕ
header_length s = behind_end (items s)

-- known items as pairs of id and length
abbrev pub pairs_of : List Known → List Pair
pairs_of [] = []
pairs_of (known id size meaning ∷ rest) = record { id = id; size = size } ∷ pairs_of rest

-- the table of mandatory items: id and length
abbrev pub mandatory : List Pair
mandatory = pairs_of mandatory_items

-- the pair's item is there exactly once, with its length; count and size tell of each id how many items have it, and how
-- long their data are
abbrev pub once : (ℕ → ℕ) → (ℕ → ℕ) → Pair → Bool
once count size p = eqb (count p.id) 1 && eqb (size p.id) p.size

-- the sum of all header bytes modulo 65,536, with item 0A's own two data bytes taken as 0
unfoldable pub header_sum : List ℕ → ℕ
header_sum s = sum (put_in (take (header_length s) s) (start_of (items s) 0x0A) (0 ∷ 0 ∷ [])) % 65536

-- item 0A is the sum, item 01 the file's number, and item 0B (body) at least the header's length (size) and at most item 04 (length)
abbrev pub values_agree : Header → ℕ → ℕ → Bool
values_agree h sum number = eqb h.headersum sum && eqb h.number number && leb h.size h.body && leb h.body h.length

-- the bytes of items 02 and 03 in their order, which start at the place
abbrev pub name_at : List ℕ → ℕ → List ℕ
name_at s at = values_from (byte_at s) at 8

abbrev pub extension_at : List ℕ → ℕ → List ℕ
extension_at s at = values_from (byte_at s) at 3

-- item 12 where it is present; count is how many items 12 there are, and at is where the last one's data start
abbrev pub upload_by : ℕ → ℕ → List ℕ → Option ℕ
upload_by count at s = cond (eqb count 0) None (Some (number_at 4 s at))

-- the values of all items of a header of so many bytes; count and start tell of each id how many items have it, and where their
-- data start
abbrev pub values_by : (ℕ → ℕ) → (ℕ → ℕ) → ℕ → List ℕ → Header
values_by count start size s = record {
  number = number_at 4 s (start 0x01);
  name = name_at s (start 0x02);
  extension = extension_at s (start 0x03);
  length = number_at 4 s (start 0x04);
  created = number_at 4 s (start 0x05);
  modified = number_at 4 s (start 0x06);
  upset = byte_at s (start 0x07);
  kind = byte_at s (start 0x08);
  bodysum = number_at 2 s (start 0x09);
  headersum = number_at 2 s (start 0x0A);
  body = number_at 2 s (start 0x0B);
  upload = upload_by (count 0x12) (start 0x12) s;
  size = size;
}

-- the values of the header that s starts with
unfoldable pub header_of : List ℕ → Header
header_of s = values_by (count_of (items s)) (start_of (items s)) (header_length s) s

-- each mandatory item is there exactly once, with its length
abbrev pub all_once : List ℕ → Bool
all_once s = list_all (once (count_of (items s)) (size_of (items s))) mandatory

-- item 12 is there at most once
abbrev pub upload_right : List ℕ → Bool
upload_right s = leb (count_of (items s) 0x12) 1

-- its values agree with its bytes, with the number and with each other
abbrev pub values_right : List ℕ → ℕ → Bool
values_right s number = values_agree (header_of s) (header_sum s) number

-- the header keeps every rule: `Rules` says them one by one
unfoldable pub keeps_rules : List ℕ → ℕ → Bool
keeps_rules s number = begins_right s && comes_to_end (items s) && all_once s && upload_right s && values_right s number

-- the order in reading a header: 8
abbrev pub header_checks : List ℕ → ℕ → List Check
header_checks s number = check (not (keeps_rules s number)) 8 ∷ []

-- reading the header that s starts with, of the file with the number
unfoldable pub read_header : List ℕ → ℕ → Answer Header
read_header s number = first_of (header_checks s number) (header_of s)
