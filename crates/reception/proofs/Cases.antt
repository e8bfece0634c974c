-- The cases of 01 that a reception decides, and both sides of its limits, by computation.
-- Assumes nothing.
use mathlib.Core.Path.{◌≡◌, refl}
use mathlib.Core.Bool.{true, false}
use mathlib.Core.List.{List, [], ◌∷◌, ◌++◌}
use Prim.Native.Nat.{ℕ}
use lib.ListN.{replicate}
use Rattle.std.specs.Prelude.{Ok, Err}
use Rattle.reason.specs.declared.Reason.TheVariants.{Differs}
use Rattle.reason.specs.Answer.{accepted, refused, answer_of}
use Rattle.reason.specs.Order.{first_of}
use Rattle.positions.specs.Spans.{every, count}
use Rattle.positions.specs.Map.{bit, held, bits_from, map_of}
use Rattle.reception.specs.Reception.{Reception, PieceData}
use Rattle.reception.specs.Opening.{opening, opened}
use Rattle.reception.specs.Taking.{taking, taken}
use Rattle.reception.specs.Joining.{joining, joined}
use Rattle.reception.specs.Held.{held_of, held_count}

-- a piece of file 7
abbrev piece : ℕ → List ℕ → PieceData
piece offset bytes = record { number = 7; offset = offset; bytes = bytes }

-- a reception of file 7, length 20
abbrev twenty : List ℕ → List ℕ → Reception
twenty map buffer = record { number = 7; length = 20; map = map; buffer = buffer }

-- positions 0 to 3 and 8 to 9 held: 01's example
abbrev first_piece : PieceData
first_piece = piece 0 (0x41 ∷ 0x42 ∷ 0x43 ∷ 0x44 ∷ [])

abbrev second_piece : PieceData
second_piece = piece 8 (0x45 ∷ 0x46 ∷ [])

abbrev buffer20 : List ℕ
buffer20 = 0x41 ∷ 0x42 ∷ 0x43 ∷ 0x44 ∷ 0 ∷ 0 ∷ 0 ∷ 0 ∷ 0x45 ∷ 0x46 ∷ replicate 10 0

abbrev example : Reception
example = twenty (0x0F ∷ 0x03 ∷ 0x00 ∷ []) buffer20

-- positions 0 to 3 held, and 2 to 9
abbrev front : Reception
front = twenty (0x0F ∷ 0x00 ∷ 0x00 ∷ []) (0x41 ∷ 0x42 ∷ 0x43 ∷ 0x44 ∷ replicate 16 0)

abbrev middle : Reception
middle = twenty (0xFC ∷ 0x03 ∷ 0x00 ∷ []) (0 ∷ 0 ∷ 0x43 ∷ 0x44 ∷ 0x45 ∷ 0x46 ∷ 0x47 ∷ 0x48 ∷ 0x49 ∷ 0x4A ∷ replicate 10 0)

-- the longest file, of which nothing is held
abbrev longest_file : Reception
longest_file = record { number = 7; length = 32768; map = replicate 4096 0; buffer = replicate 32768 0 }

-- lent space that is longer than needed, with other bytes in it and the spare bits set
abbrev lent_map : List ℕ
lent_map = 0x0F ∷ 0x03 ∷ 0xF0 ∷ 0xA5 ∷ []

abbrev lent_buffer : List ℕ
lent_buffer = 0x41 ∷ 0x42 ∷ 0x43 ∷ 0x44 ∷ 0x91 ∷ 0x92 ∷ 0x93 ∷ 0x94 ∷ 0x45 ∷ 0x46 ∷ replicate 10 0x95 ++ 0x96 ∷ 0x97 ∷ []

-- one opened in longer space that takes in a late piece first, an early one, the late one again, one of another file and one too far
abbrev after_five : Reception
after_five =
    taken (taken (taken (taken (taken (opened 7 20 lent_map lent_buffer) second_piece) first_piece) second_piece)
    (record { number = 8; offset = 0; bytes = 0x99 ∷ [] })) (piece 19 (0x99 ∷ 0x99 ∷ []))

-- two pieces taken in, one after the other
abbrev after_two : PieceData → PieceData → Reception
after_two x y = taken (taken (opened 7 20 (replicate 3 0xFF) (replicate 20 0xFF)) x) y

pub record Cases : Type 0 where
  -- opening
  pub length_0 : opening 0 [] [] ≡ refused 7
  pub length_1 : opening 1 (0xFF ∷ []) (0xFF ∷ []) ≡ accepted tt
  pub length_32768 : opening 32768 (replicate 4096 0xFF) (replicate 32768 0xFF) ≡ accepted tt
  pub length_32769 : opening 32769 (replicate 4097 0xFF) (replicate 32769 0xFF) ≡ refused 7
  pub length_65556 : opening 65556 (replicate 4096 0) (replicate 32768 0) ≡ refused 7
  pub nothing_lent : opening 1 [] [] ≡ refused 12
  pub map_short : opening 9 (0 ∷ []) (replicate 9 0) ≡ refused 12
  pub map_exact : opening 9 (0 ∷ 0 ∷ []) (replicate 9 0) ≡ accepted tt
  pub map_of_eight : opening 8 (0 ∷ []) (replicate 8 0) ≡ accepted tt
  pub buffer_short : opening 9 (0 ∷ 0 ∷ []) (replicate 8 0) ≡ refused 12
  pub open_longer : opening 20 lent_map lent_buffer ≡ accepted tt
  pub opened_map : (opened 7 20 lent_map lent_buffer).map ≡ 0 ∷ 0 ∷ 0 ∷ 0xA5 ∷ []
  pub opened_buffer : (opened 7 20 lent_map lent_buffer).buffer ≡ replicate 20 0 ++ 0x96 ∷ 0x97 ∷ []
  -- taking pieces in
  pub first_taken : taking (opened 7 20 (replicate 3 0xFF) (replicate 20 0xFF)) first_piece ≡ accepted 4
  pub two_pieces_map : (after_two first_piece second_piece).map ≡ 0x0F ∷ 0x03 ∷ 0x00 ∷ []
  pub two_pieces_buffer : (after_two first_piece second_piece).buffer ≡ buffer20
  pub two_pieces_swapped : after_two second_piece first_piece ≡ example
  pub last_byte : taking longest_file (piece 32767 (0x41 ∷ [])) ≡ accepted 1
  pub past_the_end : taking longest_file (piece 32768 (0x41 ∷ [])) ≡ refused 10
  pub offset_65536 : taking longest_file (piece 65536 (0x41 ∷ [])) ≡ refused 10
  pub offset_131072 : taking example (piece 131072 (0x41 ∷ [])) ≡ refused 10
  pub offset_largest : taking example (piece 4294967295 (0x51 ∷ [])) ≡ refused 10
  pub repeat_counts_0 : taking example first_piece ≡ accepted 0
  pub repeat_leaves : taken example first_piece ≡ example
  pub overlap_counts_new : taking example (piece 2 (0x43 ∷ 0x44 ∷ 0x51 ∷ 0x52 ∷ 0x53 ∷ [])) ≡ accepted 3
  pub overlap_map : (taken example (piece 2 (0x43 ∷ 0x44 ∷ 0x51 ∷ 0x52 ∷ 0x53 ∷ []))).map ≡ 0x7F ∷ 0x03 ∷ 0x00 ∷ []
  pub differs : taking example (piece 3 (0x45 ∷ [])) ≡ refused 11
  pub last_byte_differs : taking example (piece 6 (0x51 ∷ 0x52 ∷ 0x45 ∷ 0x47 ∷ [])) ≡ refused 11
  pub refused_leaves : taken example (piece 6 (0x51 ∷ 0x52 ∷ 0x45 ∷ 0x47 ∷ [])) ≡ example
  pub other_number : taking example (record { number = 8; offset = 0; bytes = 0x41 ∷ [] }) ≡ refused 9
  pub number_0 : taking example (record { number = 0; offset = 0; bytes = 0x41 ∷ [] }) ≡ refused 9
  pub number_65543 : taking example (record { number = 65543; offset = 0; bytes = 0x41 ∷ [] }) ≡ refused 9
  pub to_the_end : taking example (piece 19 (0x51 ∷ [])) ≡ accepted 1
  pub one_too_far : taking example (piece 19 (0x51 ∷ 0x52 ∷ [])) ≡ refused 10
  pub empty_piece : taking example (piece 20 []) ≡ accepted 0
  pub empty_piece_too_far : taking example (piece 21 []) ≡ refused 10
  pub twelve_before_nine : taking (twenty (0x0F ∷ 0x03 ∷ []) buffer20) (record { number = 8; offset = 0; bytes = 0x41 ∷ [] }) ≡ refused 12
  pub seven_before_twelve : taking (record { number = 7; length = 32769; map = []; buffer = [] }) first_piece ≡ refused 7
  pub take_buffer_short : taking (twenty (0x0F ∷ 0x03 ∷ 0x00 ∷ []) (replicate 19 0x41)) (piece 10 (0x51 ∷ [])) ≡ refused 12
  pub nine_before_ten : taking example (record { number = 8; offset = 20; bytes = 0x41 ∷ [] }) ≡ refused 9
  pub ten_before_eleven : taking example (piece 9 (replicate 12 0x99)) ≡ refused 10
  pub longer_space : taking (twenty lent_map lent_buffer) (piece 3 (0x44 ∷ 0x51 ∷ [])) ≡ accepted 1
  pub longer_space_too_far : taking (twenty lent_map lent_buffer) (piece 19 (0x51 ∷ 0x52 ∷ [])) ≡ refused 10
  pub longer_space_map : (taken (twenty lent_map lent_buffer) (piece 3 (0x44 ∷ 0x51 ∷ []))).map ≡ 0x1F ∷ 0x03 ∷ 0xF0 ∷ 0xA5 ∷ []
  pub longer_space_buffer : (taken (twenty lent_map lent_buffer) (piece 17 (0x51 ∷ 0x52 ∷ 0x53 ∷ []))).buffer
      ≡ 0x41 ∷ 0x42 ∷ 0x43 ∷ 0x44 ∷ 0x91 ∷ 0x92 ∷ 0x93 ∷ 0x94 ∷ 0x45 ∷ 0x46 ∷ replicate 7 0x95 ++ 0x51 ∷ 0x52 ∷ 0x53 ∷ 0x96 ∷ 0x97 ∷ []
  -- joining
  pub join_counts_6 : joining front middle ≡ accepted 6
  pub join_map : (joined front middle).map ≡ 0xFF ∷ 0x03 ∷ 0x00 ∷ []
  pub join_buffer : (joined front middle).buffer ≡ 0x41 ∷ 0x42 ∷ 0x43 ∷ 0x44 ∷ 0x45 ∷ 0x46 ∷ 0x47 ∷ 0x48 ∷ 0x49 ∷ 0x4A ∷ replicate 10 0
  pub join_again : joining (joined front middle) middle ≡ accepted 0
  pub join_other_way : joining middle front ≡ accepted 2
  pub join_swapped : joined middle front ≡ joined front middle
  pub join_differs : joining example middle ≡ refused 11
  pub join_refused_leaves : joined example middle ≡ example
  pub join_first_length : joining (record { number = 7; length = 0; map = []; buffer = [] }) front ≡ refused 7
  pub join_second_length : joining front (record { number = 7; length = 0; map = []; buffer = [] }) ≡ refused 7
  pub join_seven_before_twelve_first : joining (record { number = 7; length = 32769; map = []; buffer = [] }) front ≡ refused 7
  pub join_seven_before_twelve : joining front (record { number = 7; length = 32769; map = []; buffer = [] }) ≡ refused 7
  pub join_first_short : joining (twenty (0 ∷ 0 ∷ []) buffer20) front ≡ refused 12
  pub join_second_short : joining front (twenty (0 ∷ 0 ∷ 0 ∷ []) (replicate 19 0)) ≡ refused 12
  pub join_first_buffer_short : joining (twenty (0 ∷ 0 ∷ 0 ∷ []) (replicate 19 0)) front ≡ refused 12
  pub join_short_by_its_own_length : joining (twenty (0 ∷ 0 ∷ 0 ∷ []) (replicate 19 0)) (record { number = 7; length = 19; map = 0 ∷ 0 ∷ 0 ∷ []; buffer = replicate 19 0 }) ≡ refused 12
  pub join_twelve_before_nine : joining front (record { number = 8; length = 20; map = 0 ∷ 0 ∷ []; buffer = replicate 20 0 }) ≡ refused 12
  pub join_other_number : joining front (record { number = 8; length = 20; map = 0x01 ∷ 0 ∷ 0 ∷ []; buffer = replicate 20 0x99 }) ≡ refused 9
  pub join_number_0 : joining front (record { number = 0; length = 20; map = 0 ∷ 0 ∷ 0 ∷ []; buffer = replicate 20 0 }) ≡ refused 9
  pub join_number_65543 : joining front (record { number = 65543; length = 20; map = 0 ∷ 0 ∷ 0 ∷ []; buffer = replicate 20 0 }) ≡ refused 9
  pub join_other_length : joining front (record { number = 7; length = 19; map = 0x01 ∷ 0 ∷ 0 ∷ []; buffer = replicate 19 0x99 }) ≡ refused 9
  pub join_longer_length : joining front (record { number = 7; length = 21; map = 0 ∷ 0 ∷ 0 ∷ []; buffer = replicate 21 0 }) ≡ refused 9
  pub join_keeps_spare_bits : (joined (twenty lent_map lent_buffer) (twenty (0x00 ∷ 0x00 ∷ 0x0F ∷ []) (replicate 20 0x99))).map ≡ 0x0F ∷ 0x03 ∷ 0xFF ∷ 0xA5 ∷ []
  pub join_copies_no_spare_bits : (joined front (twenty (0x00 ∷ 0x00 ∷ 0xF8 ∷ []) (replicate 20 0x99))).map ≡ 0x0F ∷ 0x00 ∷ 0x08 ∷ []
  pub join_keeps_unheld : (joined (twenty lent_map lent_buffer) (twenty (0x10 ∷ 0x00 ∷ 0x00 ∷ []) (replicate 20 0x99))).buffer
      ≡ 0x41 ∷ 0x42 ∷ 0x43 ∷ 0x44 ∷ 0x99 ∷ 0x92 ∷ 0x93 ∷ 0x94 ∷ 0x45 ∷ 0x46 ∷ replicate 10 0x95 ++ 0x96 ∷ 0x97 ∷ []
  pub join_second_longer : joining front (twenty (0x10 ∷ 0x00 ∷ 0xF0 ∷ 0xFF ∷ []) (replicate 32 0x99)) ≡ accepted 1
  pub join_second_longer_map : (joined front (twenty (0x10 ∷ 0x00 ∷ 0xF0 ∷ 0xFF ∷ []) (replicate 32 0x99))).map ≡ 0x1F ∷ 0x00 ∷ 0x00 ∷ []
  -- what a host asks
  pub held_3 : held_of 20 lent_map 3 ≡ true
  pub not_held_4 : held_of 20 lent_map 4 ≡ false
  pub spare_is_not_held : held_of 20 lent_map 20 ≡ false
  pub beyond_the_map : held_of 4294967295 lent_map 32 ≡ false
  pub position_65536 : held_of 4294967295 lent_map 65536 ≡ false
  pub held_in_all : held_count 20 lent_map ≡ 6
  pub held_in_exact_map : held_count 20 (0x0F ∷ 0x03 ∷ 0x00 ∷ []) ≡ 6
  pub held_beyond_map : held_count 40 lent_map ≡ 14
  pub held_65536 : held_count 65536 lent_map ≡ 14
  pub held_in_longer_map : held_count 24 lent_map ≡ 10
  -- the paper's number and values of each answer
  pub added_accepted : answer_of {A = ℕ} (Ok 6) ≡ accepted 6
  pub added_refused : answer_of {A = ℕ} (Err Differs) ≡ refused 11
  -- longer lent space: a repeat, any order, a piece of another file, a piece beyond the end
  pub five_pieces_map : after_five.map ≡ 0x0F ∷ 0x03 ∷ 0x00 ∷ 0xA5 ∷ []
  pub five_pieces_buffer : after_five.buffer ≡ buffer20 ++ 0x96 ∷ 0x97 ∷ []

pub cases : Cases
unfolding first_of every count bit held bits_from map_of opening taking joining
cases = record {
  length_0 = refl;
  length_1 = refl;
  length_32768 = refl;
  length_32769 = refl;
  length_65556 = refl;
  nothing_lent = refl;
  map_short = refl;
  map_exact = refl;
  map_of_eight = refl;
  buffer_short = refl;
  open_longer = refl;
  opened_map = refl;
  opened_buffer = refl;
  first_taken = refl;
  two_pieces_map = refl;
  two_pieces_buffer = refl;
  two_pieces_swapped = refl;
  last_byte = refl;
  past_the_end = refl;
  offset_65536 = refl;
  offset_131072 = refl;
  offset_largest = refl;
  repeat_counts_0 = refl;
  repeat_leaves = refl;
  overlap_counts_new = refl;
  overlap_map = refl;
  differs = refl;
  last_byte_differs = refl;
  refused_leaves = refl;
  other_number = refl;
  number_0 = refl;
  number_65543 = refl;
  to_the_end = refl;
  one_too_far = refl;
  empty_piece = refl;
  empty_piece_too_far = refl;
  twelve_before_nine = refl;
  seven_before_twelve = refl;
  take_buffer_short = refl;
  nine_before_ten = refl;
  ten_before_eleven = refl;
  longer_space = refl;
  longer_space_too_far = refl;
  longer_space_map = refl;
  longer_space_buffer = refl;
  join_counts_6 = refl;
  join_map = refl;
  join_buffer = refl;
  join_again = refl;
  join_other_way = refl;
  join_swapped = refl;
  join_differs = refl;
  join_refused_leaves = refl;
  join_first_length = refl;
  join_second_length = refl;
  join_seven_before_twelve_first = refl;
  join_seven_before_twelve = refl;
  join_first_short = refl;
  join_second_short = refl;
  join_first_buffer_short = refl;
  join_short_by_its_own_length = refl;
  join_twelve_before_nine = refl;
  join_other_number = refl;
  join_number_0 = refl;
  join_number_65543 = refl;
  join_other_length = refl;
  join_longer_length = refl;
  join_keeps_spare_bits = refl;
  join_copies_no_spare_bits = refl;
  join_keeps_unheld = refl;
  join_second_longer = refl;
  join_second_longer_map = refl;
  held_3 = refl;
  not_held_4 = refl;
  spare_is_not_held = refl;
  beyond_the_map = refl;
  position_65536 = refl;
  held_in_all = refl;
  held_in_exact_map = refl;
  held_beyond_map = refl;
  held_65536 = refl;
  held_in_longer_map = refl;
  added_accepted = refl;
  added_refused = refl;
  five_pieces_map = refl;
  five_pieces_buffer = refl;
}
