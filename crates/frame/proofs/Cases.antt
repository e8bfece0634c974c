-- The cases of 01 that frames decide, the figures, and both sides of their limits, by computation.
-- Assumes nothing.
use mathlib.Core.Path.{◌≡◌, refl}
use mathlib.Core.List.{List, [], ◌∷◌, ◌++◌}
use Prim.Native.Nat.{ℕ}
use lib.ListN.{take, drop, set, replicate}
use Rattle.reason.specs.Answer.{accepted, refused}
use Rattle.reason.specs.Order.{first_of}
use Rattle.octets.specs.Runs.{put_in}
use Rattle.remainder.specs.Remainder.{with_bit, with_bits, message_bits, remainder_of}
use Rattle.remainder.specs.Check.{check_right, with_check}
use Rattle.remainder.specs.Figure.{figure32}
use Rattle.ax25.specs.Address.{is_name, address_at, well_formed}
use Rattle.ax25.specs.Head.{head_checks, head_of}
use Rattle.ax25.specs.Examples.{va3sfl, va3sfl_bytes, uosat5, uosat5_bytes}
use Rattle.ax25.specs.declared.Head.{Head}
use Rattle.std.specs.Prelude.{Some}
use Rattle.header.specs.declared.Header.{Header}
use Rattle.header.specs.Items.{mandatory_items, known_items, decision_of, step_with, step_at, items_from}
use Rattle.header.specs.Header.{header_sum, header_of, keeps_rules, read_header}
use Rattle.frame.specs.declared.Entry.{Entry}
use Rattle.frame.specs.Piece.{piece_checks, piece_fields, read_piece, piece_bytes}
use Rattle.frame.specs.Entry.{entry_checks, entry_fields, read_entry, header_bytes}
use Rattle.frame.specs.Figure.{figure33}

-- a frame from UOSAT5-11 to VA3SFL-0
abbrev framed : ℕ → List ℕ → List ℕ
framed protocol s = va3sfl_bytes ++ uosat5_bytes 0x77 ++ 0x03 ∷ protocol ∷ [] ++ s

abbrev from_uosat5 : Head
from_uosat5 = record { destination = va3sfl; source = uosat5 11 }

-- the nine header bytes of a piece of file 7, type 0, with the flags and the three bytes of the offset
abbrev nine : ℕ → ℕ → ℕ → ℕ → List ℕ
nine flags low middle high = flags ∷ 0x07 ∷ 0x00 ∷ 0x00 ∷ 0x00 ∷ 0x00 ∷ low ∷ middle ∷ high ∷ []

-- a piece without data, with the check bytes 01 7F, and one with the byte 41, with its check bytes
abbrev no_data : List ℕ
no_data = framed 0xBB (nine 0x02 0x00 0x00 0x00 ++ 0x01 ∷ 0x7F ∷ [])

abbrev one_byte : List ℕ
one_byte = framed 0xBB (nine 0x02 0x00 0x00 0x00 ++ 0x41 ∷ 0x37 ∷ 0xC4 ∷ [])

-- figure 3.2 as a frame, and with one byte of its information changed and the check made right
abbrev entry32 : List ℕ
entry32 = framed 0xBD (figure32 ++ 0x9D ∷ 0x3D ∷ [])

abbrev changed : ℕ → ℕ → List ℕ
changed at b = framed 0xBD (with_check (set figure32 at b))

-- the values of figure 3.2's header
abbrev header32 : Header
header32 = record {
  number = 0xAE67;
  name = 0x42 ∷ 0x4C ∷ 0x39 ∷ 0x39 ∷ 0x31 ∷ 0x31 ∷ 0x32 ∷ 0x34 ∷ [];
  extension = 0x20 ∷ 0x20 ∷ 0x20 ∷ [];
  length = 0x06E0;
  created = 0x383B2D49;
  modified = 0x383C7EE1;
  upset = 0x00;
  kind = 0xCA;
  bodysum = 0x44FB;
  headersum = 0x0C84;
  body = 0x50;
  upload = Some 0x383C7EE0;
  size = 80;
}

-- those of figure 3.2, with the flags as given
abbrev values32 : ℕ → Entry
values32 flags = record { head = from_uosat5; flags = flags; number = 0xAE67; offset = 0; old = 0x383C7EE0; new = 0x383DCFEE; header = header32 }

-- figure 3.2 with bytes that all differ in flags, number, times and item 01, and the sum to match
abbrev entry_of_bytes : List ℕ
entry_of_bytes =
    0x60 ∷ 0x67 ∷ 0xAE ∷ 0x02 ∷ 0x01 ∷ 0x00 ∷ 0x00 ∷ 0x00 ∷ 0x00 ∷ 0x11 ∷ 0x12 ∷ 0x13 ∷ 0x14 ∷ 0x21 ∷ 0x22 ∷ 0x23 ∷ 0x24 ∷ [] ++ set (set (set (drop 17 figure32) 7 0x02) 8 0x01) 70 0x87

abbrev values_of_bytes : Entry
values_of_bytes = record {
  head = from_uosat5;
  flags = 0x60;
  number = 0x0102AE67;
  offset = 0;
  old = 0x14131211;
  new = 0x24232221;
  header = record {
    number = 0x0102AE67;
    name = header32.name;
    extension = header32.extension;
    length = header32.length;
    created = header32.created;
    modified = header32.modified;
    upset = header32.upset;
    kind = header32.kind;
    bodysum = header32.bodysum;
    headersum = 0x0C87;
    body = header32.body;
    upload = header32.upload;
    size = header32.size;
  };
}

-- the values of the header that figure 3.3's piece begins with
abbrev header33 : Header
header33 = record {
  number = 0xAE7E;
  name = 0x41 ∷ 0x4C ∷ 0x39 ∷ 0x39 ∷ 0x31 ∷ 0x31 ∷ 0x32 ∷ 0x39 ∷ [];
  extension = 0x20 ∷ 0x20 ∷ 0x20 ∷ [];
  length = 0x03C1;
  created = 0x3841C564;
  modified = 0x3841FC5B;
  upset = 0x00;
  kind = 0xC9;
  bodysum = 0xADEB;
  headersum = 0x0D88;
  body = 0x50;
  upload = Some 0x3841FC5A;
  size = 80;
}

pub record Cases : Type 0 where
  pub without_data : read_piece no_data ≡ refused 7
  pub no_part_of_refused : piece_bytes no_data ≡ []
  pub with_a_byte : read_piece one_byte ≡ accepted (record { head = from_uosat5; number = 7; kind = 0; offset = 0 })
  pub byte_handed_out : piece_bytes one_byte ≡ 0x41 ∷ []
  pub check_low_byte_first : read_piece (framed 0xBB (nine 0x02 0x00 0x00 0x00 ++ 0x41 ∷ 0xC4 ∷ 0x37 ∷ [])) ≡ refused 6
  pub offset_of_three_bytes : read_piece (framed 0xBB (with_check (nine 0x02 0x00 0x00 0x01 ++ 0x41 ∷ []))) ≡ accepted (record { head = from_uosat5; number = 7; kind = 0; offset = 65536 })
  pub all_bytes_told : read_piece (framed 0xBB (with_check (0x02 ∷ 0x04 ∷ 0x03 ∷ 0x02 ∷ 0x01 ∷ 0x05 ∷ 0x08 ∷ 0x07 ∷ 0x06 ∷ 0x41 ∷ []))) ≡ accepted (record { head = from_uosat5; number = 0x01020304; kind = 0x05; offset = 0x060708 })
  pub head_only : read_piece (framed 0xBB []) ≡ refused 1
  pub information_of_10 : read_piece (framed 0xBB (with_check (take 8 (nine 0x02 0x00 0x00 0x00)))) ≡ refused 1
  pub check_before_flags : read_piece (framed 0xBB (nine 0x03 0x00 0x00 0x00 ++ 0x41 ∷ 0x00 ∷ 0x00 ∷ [])) ≡ refused 6
  pub flags_before_no_data : read_piece (framed 0xBB (with_check (nine 0x03 0x00 0x00 0x00))) ≡ refused 5
  pub information_of_256 : read_piece (framed 0xBB (with_check (nine 0x02 0x00 0x00 0x00 ++ replicate 245 0))) ≡ refused 7
  pub figure_3_3 : read_piece (framed 0xBB figure33) ≡ accepted (record { head = from_uosat5; number = 0xAE7E; kind = 0xC9; offset = 0 })
  pub figure_3_3_bytes : piece_bytes (framed 0xBB figure33) ≡ take 244 (drop 9 figure33)
  pub figure_3_3_header : read_header (piece_bytes (framed 0xBB figure33)) 0xAE7E ≡ accepted header33
  pub piece_as_entry : read_entry (framed 0xBB figure33) ≡ refused 4
  pub sum_of_figure_3_2 : header_sum (drop 17 figure32) ≡ 0x0C84
  pub figure_3_2 : read_entry entry32 ≡ accepted (values32 0x20)
  pub figure_3_2_header : header_bytes entry32 ≡ drop 17 figure32
  pub newest_file : read_entry (changed 0 0x60) ≡ accepted (values32 0x60)
  pub bit_5_clear : read_entry (changed 0 0x00) ≡ refused 14
  pub bit_5_clear_newest : read_entry (changed 0 0x40) ≡ refused 14
  pub bit_7_set : read_entry (changed 0 0xA0) ≡ refused 5
  pub bit_4_set : read_entry (changed 0 0x30) ≡ refused 5
  pub flags_before_whole : read_entry (changed 0 0x01) ≡ refused 5
  pub offset_not_0 : read_entry (changed 8 0x01) ≡ refused 14
  pub whole_before_header : read_entry (framed 0xBD (with_check (0x00 ∷ take 16 (drop 1 figure32)))) ≡ refused 14
  pub other_number : read_entry (changed 1 0x68) ≡ refused 8
  pub check_before_flags_of_entry : read_entry (framed 0xBD (set figure32 0 0x21 ++ 0x9D ∷ 0x3D ∷ [])) ≡ refused 6
  pub information_of_18 : read_entry (framed 0xBD (with_check (take 16 figure32))) ≡ refused 1
  pub information_of_19 : read_entry (framed 0xBD (with_check (take 17 figure32))) ≡ refused 8
  pub byte_behind_header : read_entry (framed 0xBD (with_check (figure32 ++ 0x00 ∷ []))) ≡ refused 8
  pub all_bytes_of_entry_told : read_entry (framed 0xBD (with_check entry_of_bytes)) ≡ accepted values_of_bytes
  pub no_header_of_refused : header_bytes (changed 0 0x00) ≡ []

pub cases : Cases
unfolding first_of put_in with_bit with_bits message_bits remainder_of check_right figure32 is_name address_at well_formed head_checks head_of mandatory_items known_items decision_of step_with step_at items_from header_sum header_of keeps_rules read_header piece_checks piece_fields read_piece entry_checks entry_fields read_entry figure33
cases = record {
  without_data = refl;
  no_part_of_refused = refl;
  with_a_byte = refl;
  byte_handed_out = refl;
  check_low_byte_first = refl;
  offset_of_three_bytes = refl;
  all_bytes_told = refl;
  head_only = refl;
  information_of_10 = refl;
  check_before_flags = refl;
  flags_before_no_data = refl;
  information_of_256 = refl;
  figure_3_3 = refl;
  figure_3_3_bytes = refl;
  figure_3_3_header = refl;
  piece_as_entry = refl;
  sum_of_figure_3_2 = refl;
  figure_3_2 = refl;
  figure_3_2_header = refl;
  newest_file = refl;
  bit_5_clear = refl;
  bit_5_clear_newest = refl;
  bit_7_set = refl;
  bit_4_set = refl;
  flags_before_whole = refl;
  offset_not_0 = refl;
  whole_before_header = refl;
  other_number = refl;
  check_before_flags_of_entry = refl;
  information_of_18 = refl;
  information_of_19 = refl;
  byte_behind_header = refl;
  all_bytes_of_entry_told = refl;
  no_header_of_refused = refl;
}
