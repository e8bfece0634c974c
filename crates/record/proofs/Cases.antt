-- The cases of 01 that records decide, and both sides of their limits, by computation.
-- Assumes nothing.
use mathlib.Core.Path.{◌≡◌, refl}
use mathlib.Core.Bool.{true}
use mathlib.Core.List.{List, [], ◌∷◌, ◌++◌}
use Prim.Native.Nat.{ℕ}
use lib.ListN.{take, drop, set, replicate}
use Rattle.std.specs.Prelude.{Ok, Err}
use Rattle.reason.specs.declared.Reason.TheVariants.{Size, Space}
use Rattle.reason.specs.Answer.{Answer, accepted, refused, answer_of, leaving}
use Rattle.reason.specs.Order.{first_of}
use Rattle.octets.specs.Runs.{put_in}
use Rattle.positions.specs.Spans.{every}
use Rattle.positions.specs.Map.{bit, held, bits_from, map_of}
use Rattle.reception.specs.Reception.{Reception}
use Rattle.reception.specs.declared.File.{File}
use Rattle.record.specs.Record.{field, saved_map, saved_buffer, record_of, record_length}
use Rattle.record.specs.Saving.{saving, Saves}
use Rattle.record.specs.Reading.{map_in, buffer_in, is_record, read_record, map_read}
use Rattle.record.specs.Loading.{loading, loaded_map, loaded_buffer, loaded, Loads}

-- the input of the hole program in 01: number 7, length 20, held 0 to 3 and 8 to 9
abbrev sample : List ℕ
sample =
    0x01 ∷ 0x04 ∷ 0x00 ∷ 0x07 ∷ 0x00 ∷ 0x00 ∷ 0x00 ∷ 0x02 ∷ 0x04 ∷ 0x00 ∷ 0x14 ∷ 0x00 ∷ 0x00 ∷ 0x00 ∷ 0x03 ∷ 0x03 ∷ 0x00 ∷ 0x0F ∷ 0x03 ∷ 0x00 ∷ 0x04 ∷ 0x14 ∷ 0x00 ∷
    0x41 ∷ 0x42 ∷ 0x43 ∷ 0x44 ∷ 0x00 ∷ 0x00 ∷ 0x00 ∷ 0x00 ∷ 0x45 ∷ 0x46 ∷ replicate 10 0

-- file 7, length 20
abbrev twenty : List ℕ → List ℕ → Reception
twenty map buffer = record { number = 7; length = 20; map = map; buffer = buffer }

-- the reception of that record ..
abbrev clean : Reception
clean = twenty (0x0F ∷ 0x03 ∷ 0x00 ∷ []) (0x41 ∷ 0x42 ∷ 0x43 ∷ 0x44 ∷ 0 ∷ 0 ∷ 0 ∷ 0 ∷ 0x45 ∷ 0x46 ∷ replicate 10 0)

-- .. and with spare bits and unheld bytes that are not zero, and lent space beyond
abbrev kept : Reception
kept = twenty (0x0F ∷ 0x03 ∷ 0xF0 ∷ 0xFF ∷ []) (0x41 ∷ 0x42 ∷ 0x43 ∷ 0x44 ∷ 9 ∷ 9 ∷ 9 ∷ 9 ∷ 0x45 ∷ 0x46 ∷ replicate 12 9)

-- a reception of another length
abbrev sized : ℕ → List ℕ → List ℕ → Reception
sized l map buffer = record { number = 0x12345678; length = l; map = map; buffer = buffer }

-- rubbish
abbrev rubbish : ℕ → List ℕ
rubbish n = replicate n 9

-- what loading answers, and leaves
abbrev says : ℕ → ℕ → Answer File
says number l = accepted (record { number = number; length = l })

abbrev left_map : List ℕ → List ℕ → List ℕ → List ℕ
left_map s map buffer = leaving (λ x. loaded_map s map) map (loading s map buffer)

abbrev left_buffer : List ℕ → List ℕ → List ℕ → List ℕ
left_buffer s map buffer = leaving (λ x. loaded_buffer s buffer) buffer (loading s map buffer)

-- the record of a file of one byte, held
abbrev smallest : List ℕ
smallest =
    0x01 ∷ 0x04 ∷ 0x00 ∷ 0x78 ∷ 0x56 ∷ 0x34 ∷ 0x12 ∷ 0x02 ∷ 0x04 ∷ 0x00 ∷ 0x01 ∷ 0x00 ∷ 0x00 ∷ 0x00 ∷ 0x03 ∷ 0x01 ∷ 0x00 ∷ 0x01 ∷ 0x04 ∷ 0x01 ∷ 0x00 ∷ 0x41 ∷ []

-- fields in their order with a length of 0
abbrev of_nothing : List ℕ
of_nothing = 0x01 ∷ 0x04 ∷ 0x00 ∷ 0x07 ∷ 0x00 ∷ 0x00 ∷ 0x00 ∷ 0x02 ∷ 0x04 ∷ 0x00 ∷ 0x00 ∷ 0x00 ∷ 0x00 ∷ 0x00 ∷ 0x03 ∷ 0x00 ∷ 0x00 ∷ 0x04 ∷ 0x00 ∷ 0x00 ∷ []

-- the fields of the number and of the length exchanged
abbrev exchanged : List ℕ
exchanged = take 7 (drop 7 sample) ++ take 7 sample ++ drop 14 sample

-- The cases, each by computation.
pub record Cases : Type 0 where
  -- the record of 01's example: from a clean reception, and from one with spare bits, unheld bytes and space beyond
  pub saved_example : record_of clean ≡ sample
  pub saved_from_kept : record_of kept ≡ sample
  pub saved_smallest : record_of (sized 1 (0xFF ∷ []) (0x41 ∷ 0x42 ∷ [])) ≡ smallest
  -- the map that is saved, around a whole byte
  pub map_of_1 : saved_map 1 (0xFF ∷ []) ≡ 0x01 ∷ []
  pub map_of_7 : saved_map 7 (0xFF ∷ []) ≡ 0x7F ∷ []
  pub map_of_8 : saved_map 8 (0xFF ∷ 0xFF ∷ []) ≡ 0xFF ∷ []
  pub map_of_9 : saved_map 9 (0xFF ∷ 0xFF ∷ []) ≡ 0xFF ∷ 0x01 ∷ []
  pub bytes_of_3 : saved_buffer 3 (0xFD ∷ []) (1 ∷ 2 ∷ 3 ∷ 4 ∷ []) ≡ 1 ∷ 0 ∷ 3 ∷ []
  -- a field of more than 255 bytes, and how long records are
  pub length_of_300 : take 7 (drop 7 (record_of (sized 300 [] []))) ≡ 0x02 ∷ 0x04 ∷ 0x00 ∷ 0x2C ∷ 0x01 ∷ 0x00 ∷ 0x00 ∷ []
  pub record_of_300 : read_record (record_of (sized 300 (replicate 38 0xFF) (rubbish 300))) ≡ says 0x12345678 300
  pub field_of_300 : take 3 (field 4 (replicate 300 5)) ≡ 0x04 ∷ 0x2C ∷ 0x01 ∷ []
  pub long_1 : record_length 1 ≡ 22
  pub long_8 : record_length 8 ≡ 29
  pub long_9 : record_length 9 ≡ 31
  pub long_20 : record_length 20 ≡ 43
  pub long_32768 : record_length 32768 ≡ 36884
  -- saving: 7, 12, on both sides and where two hold, and what is left in the target
  pub saves : saving kept (rubbish 43) ≡ accepted 43
  pub saves_in_longer : leaving (λ n. put_in (rubbish 45) 0 (record_of kept)) (rubbish 45) (saving kept (rubbish 45)) ≡ sample ++ 9 ∷ 9 ∷ []
  pub save_promise : Saves kept (rubbish 45) (Ok 43) (sample ++ 9 ∷ 9 ∷ [])
  pub save_promise_refused : Saves kept (rubbish 42) (Err Space) (rubbish 42)
  pub save_refused_leaves : leaving (λ n. put_in (rubbish 42) 0 (record_of kept)) (rubbish 42) (saving kept (rubbish 42)) ≡ rubbish 42
  pub save_length_0 : saving (sized 0 (1 ∷ []) (1 ∷ [])) (rubbish 43) ≡ refused 7
  pub save_length_1 : saving (sized 1 (1 ∷ []) (1 ∷ [])) (rubbish 22) ≡ accepted 22
  pub save_length_32769 : saving (sized 32769 [] []) [] ≡ refused 7
  pub save_length_65556 : saving (sized 65556 (0x0F ∷ 0x03 ∷ 0x00 ∷ []) (rubbish 20)) (rubbish 43) ≡ refused 7
  pub save_short_map : saving (twenty (0x0F ∷ 0x03 ∷ []) (rubbish 20)) (rubbish 43) ≡ refused 12
  pub save_short_buffer : saving (twenty (0x0F ∷ 0x03 ∷ 0x00 ∷ []) (rubbish 19)) (rubbish 43) ≡ refused 12
  pub save_exact : saving (twenty (0x0F ∷ 0x03 ∷ 0x00 ∷ []) (rubbish 20)) (rubbish 43) ≡ accepted 43
  pub save_short_target : saving clean (rubbish 42) ≡ refused 12
  pub save_no_target : saving clean [] ≡ refused 12
  pub save_seven_before_twelve : saving (sized 0 [] []) [] ≡ refused 7
  -- reading 01's example: what it says, its map and its buffer
  pub is_one : is_record sample ≡ true
  pub is_read : read_record sample ≡ says 7 20
  pub its_map : map_in sample ≡ 0x0F ∷ 0x03 ∷ 0x00 ∷ []
  pub its_bytes : buffer_in sample ≡ 0x41 ∷ 0x42 ∷ 0x43 ∷ 0x44 ∷ 0 ∷ 0 ∷ 0 ∷ 0 ∷ 0x45 ∷ 0x46 ∷ replicate 10 0
  pub smallest_is_read : read_record smallest ≡ says 0x12345678 1
  pub number_0 : read_record (set sample 3 0) ≡ says 0 20
  pub number_4294967295 : read_record (set (set (set (set sample 3 0xFF) 4 0xFF) 5 0xFF) 6 0xFF) ≡ says 4294967295 20
  -- 13: nothing follows, nothing is missing
  pub empty : read_record [] ≡ refused 13
  pub one_more : read_record (sample ++ 0 ∷ []) ≡ refused 13
  pub one_less : read_record (take 42 sample) ≡ refused 13
  pub cut_in_map : read_record (take 18 sample) ≡ refused 13
  pub cut_in_number : read_record (take 5 sample) ≡ refused 13
  -- 13: each tag and both bytes of each length, and the order of the fields
  pub tag_1 : read_record (set sample 0 0x02) ≡ refused 13
  pub tag_2 : read_record (set sample 7 0x01) ≡ refused 13
  pub tag_3 : read_record (set sample 14 0x04) ≡ refused 13
  pub tag_4 : read_record (set sample 20 0x03) ≡ refused 13
  pub length_of_1 : read_record (set sample 1 0x05) ≡ refused 13
  pub length_of_1_high : read_record (set sample 2 0x01) ≡ refused 13
  pub length_of_2 : read_record (set sample 8 0x03) ≡ refused 13
  pub length_of_2_high : read_record (set sample 9 0x01) ≡ refused 13
  pub length_of_3 : read_record (set sample 15 0x02) ≡ refused 13
  pub length_of_3_high : read_record (set sample 16 0x01) ≡ refused 13
  pub length_of_4 : read_record (set sample 21 0x13) ≡ refused 13
  pub length_of_4_high : read_record (set sample 22 0x01) ≡ refused 13
  pub exchanged_fields : read_record exchanged ≡ refused 13
  -- 13: the length out of range, another than the fields have, and with a high byte
  pub length_0 : read_record of_nothing ≡ refused 13
  pub length_32769 : read_record (record_of (sized 32769 [] [])) ≡ refused 13
  pub length_21 : read_record (set sample 10 21) ≡ refused 13
  pub length_19 : read_record (set sample 10 19) ≡ refused 13
  pub length_276 : read_record (set sample 11 1) ≡ refused 13
  pub length_65556 : read_record (set sample 12 1) ≡ refused 13
  pub length_16777236 : read_record (set sample 13 1) ≡ refused 13
  -- 13: spare bits and unheld bytes; a position more, and any held byte, is another record
  pub spare_bit_of_seven : read_record (set smallest 17 0x81) ≡ refused 13
  pub unheld_byte_0 : read_record (set sample 17 0x0E) ≡ refused 13
  pub spare_bit_20 : read_record (set sample 19 0x10) ≡ refused 13
  pub spare_bit_23 : read_record (set sample 19 0x80) ≡ refused 13
  pub last_position : read_record (set sample 19 0x08) ≡ says 7 20
  pub unheld_byte_4 : read_record (set sample 27 1) ≡ refused 13
  pub unheld_byte_19 : read_record (set sample 42 0xFF) ≡ refused 13
  pub held_byte_0 : read_record (set sample 23 0) ≡ says 7 20
  pub held_byte_9 : read_record (set sample 32 0xFF) ≡ says 7 20
  pub held_no_more : read_record (set sample 17 0x07) ≡ refused 13
  pub map_complemented : read_record (set (set (set sample 17 0xF0) 18 0xFC) 19 0x0F) ≡ refused 13
  -- loading: 13, 12, on both sides and where two hold
  pub loads : loading sample (rubbish 3) (rubbish 20) ≡ says 7 20
  pub load_short_map : loading sample (rubbish 2) (rubbish 20) ≡ refused 12
  pub load_short_buffer : loading sample (rubbish 3) (rubbish 19) ≡ refused 12
  pub load_no_space : loading sample [] [] ≡ refused 12
  pub load_malformed : loading (take 42 sample) (rubbish 3) (rubbish 20) ≡ refused 13
  pub load_length_0 : loading of_nothing (rubbish 3) (rubbish 20) ≡ refused 13
  pub load_thirteen_before_twelve : loading (take 42 sample) [] [] ≡ refused 13
  -- what loading leaves: spare bits cleared, what lies beyond as it was, and all of it where it refuses
  pub loaded_map_case : left_map sample (rubbish 5) (rubbish 22) ≡ 0x0F ∷ 0x03 ∷ 0x00 ∷ 9 ∷ 9 ∷ []
  pub loaded_buffer_case : left_buffer sample (rubbish 5) (rubbish 22) ≡ 0x41 ∷ 0x42 ∷ 0x43 ∷ 0x44 ∷ 0 ∷ 0 ∷ 0 ∷ 0 ∷ 0x45 ∷ 0x46 ∷ replicate 10 0 ++ 9 ∷ 9 ∷ []
  pub load_promise : Loads sample (rubbish 5) (rubbish 22) (Ok (record { number = 7; length = 20 })) (0x0F ∷ 0x03 ∷ 0x00 ∷ 9 ∷ 9 ∷ []) (0x41 ∷ 0x42 ∷ 0x43 ∷ 0x44 ∷ 0 ∷ 0 ∷ 0 ∷ 0 ∷ 0x45 ∷ 0x46 ∷ replicate 10 0 ++ 9 ∷ 9 ∷ [])
  pub load_promise_refused : Loads sample (rubbish 2) (rubbish 20) (Err Space) (rubbish 2) (rubbish 20)
  pub refused_12_map : left_map sample (rubbish 5) (rubbish 19) ≡ rubbish 5
  pub refused_12_buffer : left_buffer sample (rubbish 2) (rubbish 22) ≡ rubbish 22
  pub refused_13_map : left_map (take 42 sample) (rubbish 5) (rubbish 22) ≡ rubbish 5
  pub refused_13_buffer : left_buffer (take 42 sample) (rubbish 5) (rubbish 22) ≡ rubbish 22
  pub loaded_number : (loaded sample (rubbish 3) (rubbish 20)).number ≡ 7
  pub loaded_length : (loaded sample (rubbish 3) (rubbish 20)).length ≡ 20
  pub smallest_saved_again : record_of (loaded smallest (rubbish 1) (rubbish 1)) ≡ smallest
  pub saved_again : record_of (loaded sample (rubbish 5) (rubbish 22)) ≡ sample
  -- the map of a record, by the answer that is handed in
  pub map_handed_out : map_read (read_record sample) sample ≡ 0x0F ∷ 0x03 ∷ 0x00 ∷ []
  pub map_of_refused : map_read (refused 13) sample ≡ []
  pub map_by_other : map_read (says 7 9) sample ≡ 0x0F ∷ 0x03 ∷ []
  pub map_just_fits : map_read (says 7 208) sample ≡ drop 17 sample
  pub map_does_not_fit : map_read (says 7 209) sample ≡ []
  -- what an answer of each case means
  pub saved_accepted : answer_of {A = ℕ} (Ok 43) ≡ accepted 43
  pub saved_refused : answer_of {A = ℕ} (Err Size) ≡ refused 7
  pub record_accepted : answer_of (Ok (record { number = 7; length = 20 })) ≡ says 7 20
  pub record_refused : answer_of {A = File} (Err Space) ≡ refused 12

pub cases : Cases
unfolding first_of put_in every bit held bits_from map_of record_of saving is_record read_record loading
cases = record {
  saved_example = refl;
  saved_from_kept = refl;
  saved_smallest = refl;
  map_of_1 = refl;
  map_of_7 = refl;
  map_of_8 = refl;
  map_of_9 = refl;
  bytes_of_3 = refl;
  length_of_300 = refl;
  record_of_300 = refl;
  field_of_300 = refl;
  long_1 = refl;
  long_8 = refl;
  long_9 = refl;
  long_20 = refl;
  long_32768 = refl;
  saves = refl;
  saves_in_longer = refl;
  save_promise = record { answers = refl; bytes = refl };
  save_promise_refused = record { answers = refl; bytes = refl };
  save_refused_leaves = refl;
  save_length_0 = refl;
  save_length_1 = refl;
  save_length_32769 = refl;
  save_length_65556 = refl;
  save_short_map = refl;
  save_short_buffer = refl;
  save_exact = refl;
  save_short_target = refl;
  save_no_target = refl;
  save_seven_before_twelve = refl;
  is_one = refl;
  is_read = refl;
  its_map = refl;
  its_bytes = refl;
  smallest_is_read = refl;
  number_0 = refl;
  number_4294967295 = refl;
  empty = refl;
  one_more = refl;
  one_less = refl;
  cut_in_map = refl;
  cut_in_number = refl;
  tag_1 = refl;
  tag_2 = refl;
  tag_3 = refl;
  tag_4 = refl;
  length_of_1 = refl;
  length_of_1_high = refl;
  length_of_2 = refl;
  length_of_2_high = refl;
  length_of_3 = refl;
  length_of_3_high = refl;
  length_of_4 = refl;
  length_of_4_high = refl;
  exchanged_fields = refl;
  length_0 = refl;
  length_32769 = refl;
  length_21 = refl;
  length_19 = refl;
  length_276 = refl;
  length_65556 = refl;
  length_16777236 = refl;
  spare_bit_of_seven = refl;
  unheld_byte_0 = refl;
  spare_bit_20 = refl;
  spare_bit_23 = refl;
  last_position = refl;
  unheld_byte_4 = refl;
  unheld_byte_19 = refl;
  held_byte_0 = refl;
  held_byte_9 = refl;
  held_no_more = refl;
  map_complemented = refl;
  loads = refl;
  load_short_map = refl;
  load_short_buffer = refl;
  load_no_space = refl;
  load_malformed = refl;
  load_length_0 = refl;
  load_thirteen_before_twelve = refl;
  loaded_map_case = refl;
  loaded_buffer_case = refl;
  load_promise = record { answers = refl; leaves_map = refl; leaves_buffer = refl };
  load_promise_refused = record { answers = refl; leaves_map = refl; leaves_buffer = refl };
  refused_12_map = refl;
  refused_12_buffer = refl;
  refused_13_map = refl;
  refused_13_buffer = refl;
  loaded_number = refl;
  loaded_length = refl;
  smallest_saved_again = refl;
  saved_again = refl;
  map_handed_out = refl;
  map_of_refused = refl;
  map_by_other = refl;
  map_just_fits = refl;
  map_does_not_fit = refl;
  saved_accepted = refl;
  saved_refused = refl;
  record_accepted = refl;
  record_refused = refl;
}
