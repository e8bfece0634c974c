-- Figure 3.1 as a header, and headers that differ from it in one rule, the sum worked out anew, by computation.
-- Assumes nothing.
use mathlib.Core.Path.{◌≡◌, refl}
use mathlib.Core.List.{List, [], ◌∷◌, ◌++◌}
use Prim.Native.Nat.{ℕ}
use lib.ListN.{take, drop, set, replicate}
use Rattle.std.specs.Prelude.{Option, Some, None}
use Rattle.reason.specs.Answer.{Answer, accepted, refused}
use Rattle.reason.specs.Order.{first_of}
use Rattle.octets.specs.Runs.{put_in}
use Rattle.header.specs.declared.Meaning.TheVariants.{End, FileNumber, FileName, FileExtension, FileLength, CreationTime, ModificationTime, UpsetFlag, FileType, BodySum, HeaderSum, BodyOffset, UploadTime, Other}
use Rattle.header.specs.declared.Size.TheVariants.{Exactly, Any}
use Rattle.header.specs.declared.Step.{Step}
use Rattle.header.specs.declared.Step.TheVariants.{Found, Ended, Broken}
use Rattle.header.specs.declared.Decision.{Decision}
use Rattle.header.specs.declared.Header.{Header}
use Rattle.header.specs.Items.{mandatory_items, known_items, decision_of, step_with, step_at, Items, item, ended, items_from, items}
use Rattle.header.specs.Header.{header_sum, header_of, keeps_rules, read_header}
use Rattle.header.specs.Data.{data_of}
use Rattle.header.specs.Figure.{figure31}

-- its items, one after the other
abbrev items31 : Items
items31 =
    item (record { id = 0x01; meaning = FileNumber; start = 5; size = 4 })
    (item (record { id = 0x02; meaning = FileName; start = 12; size = 8 })
    (item (record { id = 0x03; meaning = FileExtension; start = 23; size = 3 })
    (item (record { id = 0x04; meaning = FileLength; start = 29; size = 4 })
    (item (record { id = 0x05; meaning = CreationTime; start = 36; size = 4 })
    (item (record { id = 0x06; meaning = ModificationTime; start = 43; size = 4 })
    (item (record { id = 0x12; meaning = UploadTime; start = 50; size = 4 })
    (item (record { id = 0x07; meaning = UpsetFlag; start = 57; size = 1 })
    (item (record { id = 0x08; meaning = FileType; start = 61; size = 1 })
    (item (record { id = 0x09; meaning = BodySum; start = 65; size = 2 })
    (item (record { id = 0x0A; meaning = HeaderSum; start = 70; size = 2 })
    (item (record { id = 0x0B; meaning = BodyOffset; start = 75; size = 2 })
    (ended 80))))))))))))

-- figure 3.1 with an item's id, which stands at the place, made 30, and the sum to match: so that item is missing
abbrev missing : ℕ → ℕ → List ℕ
missing at sum = set (set figure31 at 0x30) 70 sum

-- with bytes that all differ in items 01, 02, 03, 04 and 07, and the sum to match
abbrev of_bytes : List ℕ
of_bytes =
    0xAA ∷ 0x55 ∷ 0x01 ∷ 0x00 ∷ 0x04 ∷ 0x01 ∷ 0x02 ∷ 0x03 ∷ 0x04 ∷ 0x02 ∷ 0x00 ∷ 0x08 ∷ 0x11 ∷ 0x12 ∷ 0x13 ∷ 0x14 ∷ 0x15 ∷ 0x16 ∷ 0x17 ∷ 0x18
    ∷ 0x03 ∷ 0x00 ∷ 0x03 ∷ 0x21 ∷ 0x22 ∷ 0x23 ∷ 0x04 ∷ 0x00 ∷ 0x04 ∷ 0x4E ∷ 0x0B ∷ 0x05 ∷ 0x06 ∷ []
    ++ drop 33 (set (set (set figure31 57 0x01) 70 0xA9) 71 0x0B)

-- with two items 30 of 255 bytes behind its own items, whose bytes add up to more than 65,535: 596 bytes, the sum is 18D9B
abbrev beyond_16_bits : List ℕ
beyond_16_bits =
    set (set (set (set (take 77 figure31) 75 0x54) 76 0x02) 70 0x9B) 71 0x8D ++ 0x30 ∷ 0x00 ∷ 0xFF ∷ [] ++ replicate 255 0xFF ++ 0x30 ∷ 0x00 ∷ 0xFF ∷ [] ++ replicate 255 0x80 ++ 0x00 ∷ 0x00 ∷ 0x00 ∷ []

-- with another item 05, of three bytes, beside its own
abbrev beside_five : List ℕ
beside_five = set (set (take 77 figure31) 75 86) 70 0xC4 ++ 0x05 ∷ 0x00 ∷ 0x03 ∷ 0x00 ∷ 0x00 ∷ 0x00 ∷ 0x00 ∷ 0x00 ∷ 0x00 ∷ []

-- with item 01 behind the others
abbrev unordered : List ℕ
unordered = take 2 figure31 ++ take 68 (drop 9 figure31) ++ take 7 (drop 2 figure31) ++ drop 77 figure31

-- two items 30, and no end item
abbrev two_others : List ℕ
two_others = 0xAA ∷ 0x55 ∷ 0x30 ∷ 0x00 ∷ 0x01 ∷ 0x41 ∷ 0x30 ∷ 0x00 ∷ 0x02 ∷ 0x42 ∷ 0x43 ∷ []

-- figure 3.1 with item 12's id as given and the sum to match: other items of four bytes in its place
abbrev twelve : ℕ → ℕ → ℕ → List ℕ
twelve low high sum = set (set (set figure31 47 low) 48 high) 70 sum

-- with item 0B as given, and the sum to match
abbrev body : ℕ → ℕ → ℕ → List ℕ
body low high sum = set (set (set figure31 75 low) 76 high) 70 sum

-- without item 12: 73 bytes
abbrev without_twelve : List ℕ
without_twelve = set (set (set (take 47 figure31 ++ drop 54 figure31) 68 73) 63 0x8E) 64 0x0B

-- with item 12 twice: 87 bytes
abbrev twice_twelve : List ℕ
twice_twelve = set (set (take 47 figure31 ++ 0x12 ∷ 0x00 ∷ 0x04 ∷ 0x01 ∷ 0x00 ∷ 0x00 ∷ 0x00 ∷ [] ++ drop 47 figure31) 82 87) 77 0xD4

-- with two bytes of data in item 07: 81 bytes
abbrev long_seven : List ℕ
long_seven = set (set (take 56 figure31 ++ 0x02 ∷ 0x00 ∷ [] ++ drop 57 figure31) 76 81) 71 0xB8

-- with three bytes of data in item 12: 79 bytes
abbrev short_twelve : List ℕ
short_twelve = set (set (take 49 figure31 ++ 0x03 ∷ [] ++ take 3 (drop 50 figure31) ++ drop 54 figure31) 74 79) 69 0x7C

-- the values of figure 3.1, with the body offset, the sum, the upload time and the header's length as given
abbrev values : ℕ → ℕ → Option ℕ → ℕ → Header
values body sum upload size = record {
  number = 0x21E0;
  name = 0x43 ∷ 0x4C ∷ 0x39 ∷ 0x39 ∷ 0x31 ∷ 0x32 ∷ 0x30 ∷ 0x38 ∷ [];
  extension = 0x20 ∷ 0x20 ∷ 0x20 ∷ [];
  length = 0x0B4E;
  created = 0x384DB0D5;
  modified = 0x384DB0D6;
  upset = 0x00;
  kind = 0xD9;
  bodysum = 0x99D4;
  headersum = sum;
  body = body;
  upload = upload;
  size = size;
}

-- those of `of_bytes`
abbrev told : Header
told = record {
  number = 0x04030201;
  name = 0x11 ∷ 0x12 ∷ 0x13 ∷ 0x14 ∷ 0x15 ∷ 0x16 ∷ 0x17 ∷ 0x18 ∷ [];
  extension = 0x21 ∷ 0x22 ∷ 0x23 ∷ [];
  length = 0x06050B4E;
  created = 0x384DB0D5;
  modified = 0x384DB0D6;
  upset = 0x01;
  kind = 0xD9;
  bodysum = 0x99D4;
  headersum = 0x0BA9;
  body = 0x50;
  upload = Some 0x384DB0D6;
  size = 80;
}

-- what figure 3.1 is answered without each of the mandatory items in turn
abbrev answers : List (Answer Header)
answers =
    read_header (missing 2 0xE5) 0x21E0
    ∷ read_header (missing 9 0xE4) 0x21E0
    ∷ read_header (missing 20 0xE3) 0x21E0
    ∷ read_header (missing 26 0xE2) 0x21E0
    ∷ read_header (missing 33 0xE1) 0x21E0
    ∷ read_header (missing 40 0xE0) 0x21E0
    ∷ read_header (missing 54 0xDF) 0x21E0
    ∷ read_header (missing 58 0xDE) 0x21E0
    ∷ read_header (missing 62 0xDD) 0x21E0
    ∷ read_header (missing 67 0xDC) 0x21E0
    ∷ read_header (missing 72 0xDB) 0x21E0
    ∷ []

pub record Cases : Type 0 where
  pub sum_of_figure_3_1 : header_sum figure31 ≡ 0x0DB6
  pub figure_3_1 : read_header figure31 0x21E0 ≡ accepted (values 0x50 0x0DB6 (Some 0x384DB0D6) 80)
  pub body_behind : read_header (figure31 ++ 0x00 ∷ 0x23 ∷ 0x30 ∷ []) 0x21E0 ≡ accepted (values 0x50 0x0DB6 (Some 0x384DB0D6) 80)
  pub items_of_figure_3_1 : items figure31 ≡ items31
  pub all_bytes_told : read_header of_bytes 0x04030201 ≡ accepted told
  pub sum_beyond_16_bits : read_header beyond_16_bits 0x21E0 ≡ accepted (values 596 0x8D9B (Some 0x384DB0D6) 596)
  pub any_order : read_header unordered 0x21E0 ≡ accepted (values 0x50 0x0DB6 (Some 0x384DB0D6) 80)
  pub other_number : read_header figure31 0x21E1 ≡ refused 8
  pub marker_wrong : read_header (set (set figure31 0 0xAB) 70 0xB7) 0x21E0 ≡ refused 8
  pub marker_wrong_behind : read_header (set (set figure31 1 0x54) 70 0xB5) 0x21E0 ≡ refused 8
  pub no_bytes : read_header [] 0x21E0 ≡ refused 8
  pub cut_in_end_item : read_header (take 79 figure31) 0x21E0 ≡ refused 8
  pub cut_before_end_item : read_header (take 77 figure31) 0x21E0 ≡ refused 8
  pub end_item_of_one : read_header (set (set figure31 79 0x01) 70 0xB7 ++ 0x00 ∷ []) 0x21E0 ≡ refused 8
  pub upload_absent : read_header without_twelve 0x21E0 ≡ accepted (values 73 0x0B8E None 73)
  pub other_item : read_header (twelve 0x30 0x00 0xD4) 0x21E0 ≡ accepted (values 0x50 0x0DD4 None 80)
  pub id_has_two_bytes : read_header (twelve 0x12 0x01 0xB7) 0x21E0 ≡ accepted (values 0x50 0x0DB7 None 80)
  pub item_twice : read_header (twelve 0x05 0x00 0xA9) 0x21E0 ≡ refused 8
  pub item_missing : answers ≡ replicate 11 (refused 8)
  pub item_beside : read_header beside_five 0x21E0 ≡ refused 8
  pub upload_twice : read_header twice_twelve 0x21E0 ≡ refused 8
  pub item_too_long : read_header long_seven 0x21E0 ≡ refused 8
  pub upload_too_short : read_header short_twelve 0x21E0 ≡ refused 8
  pub body_in_header : read_header (body 0x4F 0x00 0xB5) 0x21E0 ≡ refused 8
  pub body_at_end_of_file : read_header (body 0x4E 0x0B 0xBF) 0x21E0 ≡ accepted (values 0x0B4E 0x0DBF (Some 0x384DB0D6) 80)
  pub body_beyond_file : read_header (body 0x4F 0x0B 0xC0) 0x21E0 ≡ refused 8
  pub sum_over_itself : read_header (set (set figure31 70 0x79) 71 0x0E) 0x21E0 ≡ refused 8
  pub name_bytes : data_of 0x02 figure31 ≡ 0x43 ∷ 0x4C ∷ 0x39 ∷ 0x39 ∷ 0x31 ∷ 0x32 ∷ 0x30 ∷ 0x38 ∷ []
  pub extension_bytes : data_of 0x03 of_bytes ≡ 0x21 ∷ 0x22 ∷ 0x23 ∷ []
  pub last_of_two : data_of 0x30 two_others ≡ 0x42 ∷ 0x43 ∷ []
  pub no_such_item : data_of 0x30 figure31 ≡ []
  pub first_step : ◌≡◌ {A = Step} (step_at figure31 2) (Found (record { id = 0x01; meaning = FileNumber; start = 5; size = 4 }) (record { at = 9 }))
  pub step_to_the_end : ◌≡◌ {A = Step} (step_at (take 9 figure31) 2) (Found (record { id = 0x01; meaning = FileNumber; start = 5; size = 4 }) (record { at = 9 }))
  pub step_cut_off : ◌≡◌ {A = Step} (step_at (take 8 figure31) 2) Broken
  pub last_step : ◌≡◌ {A = Step} (step_at figure31 77) (Ended (record { at = 80 }))
  pub step_beyond : ◌≡◌ {A = Step} (step_at figure31 78) Broken
  pub end_decided : ◌≡◌ {A = Decision} (decision_of 0x00) (record { meaning = End; size = Exactly 0 })
  pub upload_decided : ◌≡◌ {A = Decision} (decision_of 0x12) (record { meaning = UploadTime; size = Exactly 4 })
  pub other_decided : ◌≡◌ {A = Decision} (decision_of 0x1200) (record { meaning = Other; size = Any })

pub cases : Cases
unfolding first_of put_in mandatory_items known_items decision_of step_with step_at items_from header_sum header_of keeps_rules read_header data_of figure31
cases = record {
  sum_of_figure_3_1 = refl;
  figure_3_1 = refl;
  body_behind = refl;
  items_of_figure_3_1 = refl;
  all_bytes_told = refl;
  sum_beyond_16_bits = refl;
  any_order = refl;
  other_number = refl;
  marker_wrong = refl;
  marker_wrong_behind = refl;
  no_bytes = refl;
  cut_in_end_item = refl;
  cut_before_end_item = refl;
  end_item_of_one = refl;
  upload_absent = refl;
  other_item = refl;
  id_has_two_bytes = refl;
  item_twice = refl;
  item_missing = refl;
  item_beside = refl;
  upload_twice = refl;
  item_too_long = refl;
  upload_too_short = refl;
  body_in_header = refl;
  body_at_end_of_file = refl;
  body_beyond_file = refl;
  sum_over_itself = refl;
  name_bytes = refl;
  extension_bytes = refl;
  last_of_two = refl;
  no_such_item = refl;
  first_step = refl;
  step_to_the_end = refl;
  step_cut_off = refl;
  last_step = refl;
  step_beyond = refl;
  end_decided = refl;
  upload_decided = refl;
  other_decided = refl;
}
