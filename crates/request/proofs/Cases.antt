-- The cases of 01 that requests decide, and both sides of their limits, by computation.
-- Assumes nothing.
use mathlib.Core.Path.{◌≡◌, refl}
use mathlib.Core.Bool.{true, false}
use mathlib.Core.List.{List, [], ◌∷◌, ◌++◌}
use Prim.Native.Nat.{ℕ, ◌*◌}
use lib.ListN.{length, take, set, replicate}
use Rattle.reason.specs.Answer.{Answer, accepted, refused, leaving, answer_of}
use Rattle.reason.specs.Order.{first_of}
use Rattle.octets.specs.Runs.{put_in}
use Rattle.octets.specs.Values.{values_from}
use Rattle.positions.specs.Spans.{first}
use Rattle.positions.specs.Map.{bit, held}
use Rattle.ax25.specs.declared.Head.{Head}
use Rattle.ax25.specs.Address.{is_name, is_writable, address_at, well_formed}
use Rattle.ax25.specs.Head.{head_checks, head_of, head_bytes}
use Rattle.ax25.specs.Information.{information_of}
use Rattle.ax25.specs.Examples.{va3sfl, uosat5, uosat5_bytes, spaces}
use Rattle.holes.specs.declared.Hole.{Hole}
use Rattle.holes.specs.Listing.{listing}
use Rattle.request.specs.declared.Asks.{Asks}
use Rattle.request.specs.declared.Asks.TheVariants.{Start, Holes}
use Rattle.request.specs.declared.Request.{Request}
use Rattle.std.specs.Prelude.{Ok, Err}
use Rattle.request.specs.declared.Written.{Written}
use Rattle.reason.specs.declared.Reason.TheVariants.{NoHole, Beyond, Space}
use Rattle.request.specs.Request.{holes_of_kind, request_before, hole_bytes, holes_bytes, request_frame, holes_right}
use Rattle.request.specs.Reading.{count_right, hole_spelled, hole_in, request_checks, request_fields, read_request, hole_read, hole_at, holes_read, holes_of}
use Rattle.request.specs.Writing.{Wanted, holes_from, filling, fill_frame, Fills, starting}
use Rattle.request.specs.Run.{sent_from, place_after, together, naming}

-- from VA3SFL-0 to UOSAT5-11
abbrev to_uosat5 : Head
to_uosat5 = record { destination = uosat5 11; source = va3sfl }

abbrev framed : ℕ → List ℕ → List ℕ
framed protocol s = uosat5_bytes 0x76 ++ 0xAC ∷ 0x82 ∷ 0x66 ∷ 0xA6 ∷ 0x8C ∷ 0x98 ∷ 0x61 ∷ [] ++ 0x03 ∷ protocol ∷ [] ++ s

abbrev hole : ℕ → ℕ → Hole
hole start length = record { start = start; length = length }

-- what the station wants: file 7
abbrev wanted : ℕ → List ℕ → Wanted
wanted l map = record { head = to_uosat5; number = 7; length = l; map = map }

-- 01's example: length 20, held 0 to 3 and 8 to 9
abbrev twenty : Wanted
twenty = wanted 20 (0x0F ∷ 0x03 ∷ 0x00 ∷ [])

abbrev example : List ℕ
example = 0x11 ∷ 0x07 ∷ 0x00 ∷ 0x00 ∷ 0x00 ∷ 0xF4 ∷ 0x00 ∷ 0x04 ∷ 0x00 ∷ 0x00 ∷ 0x04 ∷ 0x00 ∷ 0x0A ∷ 0x00 ∷ 0x00 ∷ 0x0A ∷ 0x00 ∷ []

-- the same of which all is held
abbrev complete : Wanted
complete = wanted 20 (0xFF ∷ 0xFF ∷ 0x0F ∷ [])

-- to a station without a name, and from one
abbrev no_destination : ℕ → List ℕ → Wanted
no_destination l map = record { head = record { destination = spaces; source = va3sfl }; number = 7; length = l; map = map }

abbrev no_source : Head
no_source = record { destination = uosat5 11; source = spaces }

-- every second position held: 49 holes of a file of 98 bytes, 50 of one of 100
abbrev alternate : ℕ → Wanted
alternate l = wanted l (replicate 12 0xAA ++ 0x0A ∷ [])

-- a target of rubbish
abbrev rubbish : ℕ → List ℕ
rubbish n = replicate n 9

-- what `write_fill` tells
abbrev lists : ℕ → ℕ → Answer Written
lists count end = accepted (record { count = count; end = end })

-- the answer to a frame with an information; with the seven bytes of a hole list of file 7, and what follows
abbrev answer : List ℕ → Answer Request
answer s = read_request (framed 0xBB s)

abbrev listing_holes : List ℕ → Answer Request
listing_holes s = answer (0x11 ∷ 0x07 ∷ 0x00 ∷ 0x00 ∷ 0x00 ∷ 0xF4 ∷ 0x00 ∷ [] ++ s)

-- .. with holes
abbrev with_holes : List Hole → Answer Request
with_holes holes = listing_holes (holes_bytes holes)

abbrev says : Asks → ℕ → ℕ → Answer Request
says asks number count = accepted (record { head = to_uosat5; asks = asks; number = number; count = count })

-- n holes of one position, every second one
abbrev apart : ℕ → List Hole
apart n = values_from (λ i. hole (2 * i) 1) 0 n

-- a frame whose information has n zeros
abbrev zeros : ℕ → List ℕ
zeros n = framed 0xBB (replicate n 0)

-- The cases, each by computation.
pub record Cases : Type 0 where
  -- 01's example: the request information, byte for byte, and the frame
  pub request_information : information_of (fill_frame twenty 0) ≡ example
  pub request_frame_case : fill_frame twenty 0 ≡ framed 0xBB example
  pub request_holes : holes_from twenty 0 ≡ hole 4 4 ∷ hole 10 10 ∷ []
  pub request_answer_case : filling twenty 0 (rubbish 33) ≡ lists 2 20
  pub request_in_longer_target : leaving (λ x. put_in (rubbish 35) 0 (fill_frame twenty 0)) (rubbish 35) (filling twenty 0 (rubbish 35)) ≡ framed 0xBB example ++ 9 ∷ 9 ∷ []
  pub promise_from_5 : Fills twenty 5 (rubbish 30) (Ok (record { count = 1; end = 20 })) (framed 0xBB (0x11 ∷ 0x07 ∷ 0x00 ∷ 0x00 ∷ 0x00 ∷ 0xF4 ∷ 0x00 ∷ 0x0A ∷ 0x00 ∷ 0x00 ∷ 0x0A ∷ 0x00 ∷ 9 ∷ 9 ∷ []))
  pub promise_refused : Fills twenty 5 (rubbish 27) (Err Space) (rubbish 27)
  pub request_refused_leaves : leaving (λ x. put_in (rubbish 32) 0 (fill_frame twenty 0)) (rubbish 32) (filling twenty 0 (rubbish 32)) ≡ rubbish 32
  -- places: at a hole, inside one, at its end, at the last end and beyond, and none is narrowed
  pub from_4 : filling twenty 4 (rubbish 33) ≡ lists 2 20
  pub from_5 : filling twenty 5 (rubbish 28) ≡ lists 1 20
  pub from_5_information : information_of (fill_frame twenty 5) ≡ 0x11 ∷ 0x07 ∷ 0x00 ∷ 0x00 ∷ 0x00 ∷ 0xF4 ∷ 0x00 ∷ 0x0A ∷ 0x00 ∷ 0x00 ∷ 0x0A ∷ 0x00 ∷ []
  pub from_8 : filling twenty 8 (rubbish 28) ≡ lists 1 20
  pub from_20 : filling twenty 20 (rubbish 33) ≡ refused 15
  pub from_65536 : filling twenty 65536 (rubbish 33) ≡ refused 15
  -- spare bits and longer maps change nothing
  pub spare_bits_set : fill_frame (wanted 20 (0x0F ∷ 0x03 ∷ 0xF0 ∷ [])) 0 ≡ framed 0xBB example
  pub longer_map : fill_frame (wanted 20 (0x0F ∷ 0x03 ∷ 0x00 ∷ 0xFF ∷ [])) 0 ≡ framed 0xBB example
  -- each reason of writing, on both sides, and in the order 2, 7, 12 (map), 15, 12 (target) where two hold
  pub length_0 : filling (wanted 0 (0 ∷ [])) 0 (rubbish 33) ≡ refused 7
  pub length_1 : filling (wanted 1 (0 ∷ [])) 0 (rubbish 28) ≡ lists 1 1
  pub length_32769 : filling (wanted 32769 (replicate 4097 0)) 0 (rubbish 33) ≡ refused 7
  pub length_65556 : filling (wanted 65556 (0x0F ∷ 0x03 ∷ 0x00 ∷ [])) 0 (rubbish 33) ≡ refused 7
  pub short_map : filling (wanted 20 (0x0F ∷ 0x03 ∷ [])) 0 (rubbish 33) ≡ refused 12
  pub nothing_missing : filling complete 0 (rubbish 33) ≡ refused 15
  pub short_target : filling twenty 0 (rubbish 32) ≡ refused 12
  pub no_target : filling twenty 0 [] ≡ refused 12
  pub destination_without_name : filling (no_destination 20 (0x0F ∷ 0x03 ∷ 0x00 ∷ [])) 0 (rubbish 33) ≡ refused 2
  pub source_without_name : filling (record { head = no_source; number = 7; length = 20; map = 0x0F ∷ 0x03 ∷ 0x00 ∷ [] }) 0 (rubbish 33) ≡ refused 2
  pub number_16 : filling (record { head = record { destination = uosat5 16; source = va3sfl }; number = 7; length = 20; map = 0x0F ∷ 0x03 ∷ 0x00 ∷ [] }) 0 (rubbish 33) ≡ refused 2
  pub two_before_seven : filling (no_destination 0 (0 ∷ [])) 0 (rubbish 33) ≡ refused 2
  pub seven_before_twelve : filling (wanted 32769 []) 0 (rubbish 33) ≡ refused 7
  pub twelve_before_fifteen : filling (wanted 20 (0xFF ∷ 0xFF ∷ [])) 20 (rubbish 33) ≡ refused 12
  pub fifteen_before_twelve : filling complete 0 [] ≡ refused 15
  -- both bytes of a length, all three of an offset, all four of a number
  pub longest_hole : hole_bytes (hole 0 32768) ≡ 0x00 ∷ 0x00 ∷ 0x00 ∷ 0x00 ∷ 0x80 ∷ []
  pub high_offset : hole_bytes (hole 65541 258) ≡ 0x05 ∷ 0x00 ∷ 0x01 ∷ 0x02 ∷ 0x01 ∷ []
  pub number_in_frame : information_of (fill_frame (record { head = to_uosat5; number = 0x12345678; length = 1; map = 0 ∷ [] }) 0) ≡ 0x11 ∷ 0x78 ∷ 0x56 ∷ 0x34 ∷ 0x12 ∷ 0xF4 ∷ 0x00 ∷ 0x00 ∷ 0x00 ∷ 0x00 ∷ 0x01 ∷ 0x00 ∷ []
  pub number_bytes : request_before Holes 0x12345678 ≡ 0x11 ∷ 0x78 ∷ 0x56 ∷ 0x34 ∷ 0x12 ∷ 0xF4 ∷ 0x00 ∷ []
  -- 49 and 50 holes need one and two frames
  pub forty_nine_holes : filling (alternate 98) 0 (rubbish 268) ≡ lists 49 97
  pub forty_nine_and_no_more : filling (alternate 98) 97 (rubbish 268) ≡ refused 15
  pub fifty_holes : filling (alternate 100) 0 (rubbish 268) ≡ lists 49 97
  pub the_fiftieth : filling (alternate 100) 97 (rubbish 28) ≡ lists 1 99
  pub fifty_and_no_more : filling (alternate 100) 99 (rubbish 268) ≡ refused 15
  pub one_frame : length (sent_from 3 (alternate 98) (rubbish 268) 0) ≡ 1
  pub two_frames : length (sent_from 3 (alternate 100) (rubbish 268) 0) ≡ 2
  pub two_frames_together : together (sent_from 3 (alternate 100) (rubbish 268) 0) ≡ apart 50
  pub two_frames_place : place_after 3 (alternate 100) (rubbish 268) 0 ≡ 99
  pub place_after_one : place_after 1 (alternate 100) (rubbish 268) 0 ≡ 97
  pub most_holes_short : filling (alternate 98) 0 (rubbish 267) ≡ refused 12
  -- a run of requests: the frames, the place after them, and how many name each position
  pub run_frames : sent_from 20 twenty (rubbish 268) 0 ≡ framed 0xBB example ∷ []
  pub run_place : place_after 20 twenty (rubbish 268) 0 ≡ 20
  pub place_of_none : place_after 0 twenty (rubbish 268) 5 ≡ 5
  pub no_request : sent_from 0 twenty (rubbish 268) 0 ≡ []
  pub run_names : values_from (naming (sent_from 20 twenty (rubbish 268) 0)) 0 22 ≡ replicate 4 0 ++ replicate 4 1 ++ 0 ∷ 0 ∷ [] ++ replicate 10 1 ++ 0 ∷ 0 ∷ []
  pub run_together : together (framed 0xBB example ∷ framed 0xBB example ∷ []) ≡ hole 4 4 ∷ hole 10 10 ∷ hole 4 4 ∷ hole 10 10 ∷ []
  pub named_twice : naming (framed 0xBB example ∷ framed 0xBB example ∷ []) 4 ≡ 2
  -- a request for the start: 2, 12
  pub start_frame : request_frame to_uosat5 Start 7 [] ≡ framed 0xBB (0x10 ∷ 0x07 ∷ 0x00 ∷ 0x00 ∷ 0x00 ∷ 0xF4 ∷ 0x00 ∷ [])
  pub start_written : starting to_uosat5 7 (rubbish 25) ≡ accepted (framed 0xBB (0x10 ∷ 0x07 ∷ 0x00 ∷ 0x00 ∷ 0x00 ∷ 0xF4 ∷ 0x00 ∷ 9 ∷ 9 ∷ []))
  pub start_number : starting to_uosat5 0x12345678 (rubbish 23) ≡ accepted (framed 0xBB (0x10 ∷ 0x78 ∷ 0x56 ∷ 0x34 ∷ 0x12 ∷ 0xF4 ∷ 0x00 ∷ []))
  pub start_exact : starting to_uosat5 7 (rubbish 23) ≡ accepted (framed 0xBB (0x10 ∷ 0x07 ∷ 0x00 ∷ 0x00 ∷ 0x00 ∷ 0xF4 ∷ 0x00 ∷ []))
  pub start_short : starting to_uosat5 7 (rubbish 22) ≡ refused 12
  pub start_without_name : starting no_source 7 (rubbish 23) ≡ refused 2
  pub start_two_before_twelve : starting no_source 7 [] ≡ refused 2
  -- reading 01's example, and its holes by their index
  pub reads_example : answer example ≡ says Holes 7 2
  pub reads_holes : holes_of (framed 0xBB example) ≡ hole 4 4 ∷ hole 10 10 ∷ []
  pub hole_0 : hole_at (framed 0xBB example) 0 ≡ hole 4 4
  pub hole_1 : hole_at (framed 0xBB example) 1 ≡ hole 10 10
  pub hole_2 : hole_at (framed 0xBB example) 2 ≡ hole 0 0
  pub hole_4294967295 : hole_at (framed 0xBB example) 4294967295 ≡ hole 0 0
  pub hole_of_refused : hole_at (framed 0xBD example) 0 ≡ hole 0 0
  pub hole_of_refused_answer : hole_read (refused 4) (framed 0xBB example) 0 ≡ hole 0 0
  pub hole_by_answer : hole_read (says Holes 7 1) (framed 0xBB example) 0 ≡ hole 4 4
  pub hole_beyond_answer : hole_read (says Holes 7 1) (framed 0xBB example) 1 ≡ hole 0 0
  pub holes_by_answer : holes_read (says Holes 7 1) (framed 0xBB example) ≡ hole 4 4 ∷ []
  pub holes_of_refused : holes_of (framed 0xBD example) ≡ []
  pub reads_start : answer (0x10 ∷ 0x07 ∷ 0x00 ∷ 0x00 ∷ 0x00 ∷ 0xF4 ∷ 0x00 ∷ []) ≡ says Start 7 0
  pub hole_of_start : hole_at (framed 0xBB (0x10 ∷ 0x07 ∷ 0x00 ∷ 0x00 ∷ 0x00 ∷ 0xF4 ∷ 0x00 ∷ [])) 0 ≡ hole 0 0
  pub reads_number : answer (0x10 ∷ 0x78 ∷ 0x56 ∷ 0x34 ∷ 0x12 ∷ 0xF4 ∷ 0x00 ∷ []) ≡ says Start 0x12345678 0
  pub reads_high_offset : hole_in (replicate 7 0 ++ 0x05 ∷ 0x00 ∷ 0x01 ∷ 0x02 ∷ 0x01 ∷ []) 0 ≡ hole 65541 258
  -- the head: 1, 2, 3, 4, 7
  pub fifteen_bytes : read_request (take 15 (framed 0xBB example)) ≡ refused 1
  pub bad_destination : read_request (set (framed 0xBB example) 6 0x77) ≡ refused 2
  pub bad_source : read_request (set (framed 0xBB example) 13 0x60) ≡ refused 2
  pub bad_control : read_request (set (framed 0xBB example) 14 0x13) ≡ refused 3
  pub directory_protocol : read_request (framed 0xBD example) ≡ refused 4
  pub information_255 : read_request (zeros 255) ≡ refused 5
  pub information_256 : read_request (zeros 256) ≡ refused 7
  -- the information: 1, and 5 for each bit of the flags
  pub no_information : answer [] ≡ refused 1
  pub six_bytes : answer (take 6 example) ≡ refused 1
  pub six_bytes_of_start : answer (0x10 ∷ 0x07 ∷ 0x00 ∷ 0x00 ∷ 0x00 ∷ 0xF4 ∷ []) ≡ refused 1
  pub flags_00 : answer (set example 0 0x00) ≡ refused 5
  pub flags_01 : answer (set example 0 0x01) ≡ refused 5
  pub flags_02 : answer (set example 0 0x02) ≡ refused 5
  pub flags_12 : answer (set example 0 0x12) ≡ refused 5
  pub flags_13 : answer (set example 0 0x13) ≡ refused 5
  pub flags_15 : answer (set example 0 0x15) ≡ refused 5
  pub flags_19 : answer (set example 0 0x19) ≡ refused 5
  pub flags_31 : answer (set example 0 0x31) ≡ refused 5
  pub flags_51 : answer (set example 0 0x51) ≡ refused 5
  pub flags_91 : answer (set example 0 0x91) ≡ refused 5
  -- 7: block size, count, odd bytes
  pub block_243 : answer (set example 5 0xF3) ≡ refused 7
  pub block_245 : answer (set example 5 0xF5) ≡ refused 7
  pub block_500 : answer (set example 6 0x01) ≡ refused 7
  pub block_high_byte_first : answer (set (set example 5 0x00) 6 0xF4) ≡ refused 7
  pub start_block_243 : answer (0x10 ∷ 0x07 ∷ 0x00 ∷ 0x00 ∷ 0x00 ∷ 0xF3 ∷ 0x00 ∷ []) ≡ refused 7
  pub start_with_a_byte : answer (0x10 ∷ 0x07 ∷ 0x00 ∷ 0x00 ∷ 0x00 ∷ 0xF4 ∷ 0x00 ∷ 0x00 ∷ []) ≡ refused 7
  pub start_with_a_hole : answer (set example 0 0x10) ≡ refused 7
  pub list_of_none : answer (take 7 example) ≡ refused 7
  pub odd_1 : answer (take 8 example) ≡ refused 7
  pub odd_4 : answer (take 11 example) ≡ refused 7
  pub one_hole : answer (take 12 example) ≡ says Holes 7 1
  pub odd_behind_a_hole : answer (take 13 example) ≡ refused 7
  pub odd_behind_two : answer (example ++ 0 ∷ []) ≡ refused 7
  pub most_holes : with_holes (apart 49) ≡ says Holes 7 49
  pub odd_behind_most : listing_holes (holes_bytes (apart 49) ++ 0 ∷ []) ≡ refused 7
  pub three_odd_behind_most : listing_holes (holes_bytes (apart 49) ++ 0 ∷ 0 ∷ 0 ∷ []) ≡ refused 7
  pub fifty_counted : count_right (0x11 ∷ replicate 256 0) ≡ false
  pub fifty_in_a_frame : with_holes (apart 50) ≡ refused 7
  -- 10: each hole of at least 1 byte, ascending, one position between neighbours, none beyond 32,768
  pub empty_hole : with_holes (hole 4 0 ∷ []) ≡ refused 10
  pub one_byte_hole : with_holes (hole 0 1 ∷ []) ≡ says Holes 7 1
  pub touching : with_holes (hole 4 4 ∷ hole 8 2 ∷ []) ≡ refused 10
  pub one_between : with_holes (hole 4 4 ∷ hole 9 2 ∷ []) ≡ says Holes 7 2
  pub overlapping : with_holes (hole 4 4 ∷ hole 7 2 ∷ []) ≡ refused 10
  pub descending : with_holes (hole 10 10 ∷ hole 4 4 ∷ []) ≡ refused 10
  pub repeated : with_holes (hole 4 4 ∷ hole 4 4 ∷ []) ≡ refused 10
  pub end_32768 : with_holes (hole 32767 1 ∷ []) ≡ says Holes 7 1
  pub whole_32768 : with_holes (hole 0 32768 ∷ []) ≡ says Holes 7 1
  pub end_32769 : with_holes (hole 32767 2 ∷ []) ≡ refused 10
  pub start_32768 : with_holes (hole 32768 1 ∷ []) ≡ refused 10
  pub length_32768_from_1 : with_holes (hole 1 32768 ∷ []) ≡ refused 10
  pub offset_65536 : with_holes (hole 65536 1 ∷ []) ≡ refused 10
  pub length_65535 : with_holes (hole 0 65535 ∷ []) ≡ refused 10
  pub second_empty : with_holes (hole 4 4 ∷ hole 10 0 ∷ []) ≡ refused 10
  pub first_empty : with_holes (hole 4 0 ∷ hole 10 10 ∷ []) ≡ refused 10
  pub third_touches : with_holes (hole 0 1 ∷ hole 4 4 ∷ hole 8 1 ∷ []) ≡ refused 10
  pub forty_ninth_touches : with_holes (apart 48 ++ hole 95 1 ∷ []) ≡ refused 10
  pub second_ends_beyond : with_holes (hole 4 4 ∷ hole 32767 2 ∷ []) ≡ refused 10
  -- in the order 1, 2, 3, 4, 7, 1, 5, 7, 10 where two hold
  pub one_before_two : read_request (take 15 (set (framed 0xBB example) 6 0x77)) ≡ refused 1
  pub two_before_three : read_request (set (set (framed 0xBB example) 6 0x77) 14 0x13) ≡ refused 2
  pub three_before_four : read_request (set (framed 0xBD example) 14 0x13) ≡ refused 3
  pub four_before_seven : read_request (framed 0xBD (replicate 256 0)) ≡ refused 4
  pub four_before_one : read_request (framed 0xBD []) ≡ refused 4
  pub seven_before_five : read_request (zeros 256) ≡ refused 7
  pub one_before_five : answer (replicate 6 0) ≡ refused 1
  pub five_before_seven : answer (set (set example 0 0x12) 5 0xF3) ≡ refused 5
  pub seven_before_ten : answer (set (set example 5 0xF3) 10 0x00) ≡ refused 7
  pub odd_before_ten : answer (set example 10 0x00 ++ 0 ∷ []) ≡ refused 7
  -- how many holes a request of each kind can have, and what an answer of each case means
  pub start_of_0 : holes_of_kind Start 0 ≡ true
  pub start_of_1 : holes_of_kind Start 1 ≡ false
  pub list_of_0 : holes_of_kind Holes 0 ≡ false
  pub list_of_1 : holes_of_kind Holes 1 ≡ true
  pub list_of_49 : holes_of_kind Holes 49 ≡ true
  pub list_of_50 : holes_of_kind Holes 50 ≡ false
  pub filled_accepted : answer_of (Ok (record { count = 2; end = 20 })) ≡ lists 2 20
  pub filled_refused : answer_of {A = Written} (Err NoHole) ≡ refused 15
  pub request_accepted : answer_of (Ok (record { head = to_uosat5; asks = Holes; number = 7; count = 2 })) ≡ says Holes 7 2
  pub request_refused : answer_of {A = Request} (Err Beyond) ≡ refused 10

pub cases : Cases
unfolding first_of put_in first bit held is_name is_writable address_at well_formed head_checks head_of head_bytes listing request_frame holes_right hole_spelled request_checks request_fields read_request filling starting
cases = record {
  request_information = refl;
  request_frame_case = refl;
  request_holes = refl;
  request_answer_case = refl;
  request_in_longer_target = refl;
  promise_from_5 = record { answers = refl; bytes = refl };
  promise_refused = record { answers = refl; bytes = refl };
  request_refused_leaves = refl;
  from_4 = refl;
  from_5 = refl;
  from_5_information = refl;
  from_8 = refl;
  from_20 = refl;
  from_65536 = refl;
  spare_bits_set = refl;
  longer_map = refl;
  length_0 = refl;
  length_1 = refl;
  length_32769 = refl;
  length_65556 = refl;
  short_map = refl;
  nothing_missing = refl;
  short_target = refl;
  no_target = refl;
  destination_without_name = refl;
  source_without_name = refl;
  number_16 = refl;
  two_before_seven = refl;
  seven_before_twelve = refl;
  twelve_before_fifteen = refl;
  fifteen_before_twelve = refl;
  longest_hole = refl;
  high_offset = refl;
  number_in_frame = refl;
  number_bytes = refl;
  forty_nine_holes = refl;
  forty_nine_and_no_more = refl;
  fifty_holes = refl;
  the_fiftieth = refl;
  fifty_and_no_more = refl;
  one_frame = refl;
  two_frames = refl;
  two_frames_together = refl;
  two_frames_place = refl;
  place_after_one = refl;
  most_holes_short = refl;
  run_frames = refl;
  run_place = refl;
  place_of_none = refl;
  no_request = refl;
  run_names = refl;
  run_together = refl;
  named_twice = refl;
  start_frame = refl;
  start_written = refl;
  start_number = refl;
  start_exact = refl;
  start_short = refl;
  start_without_name = refl;
  start_two_before_twelve = refl;
  reads_example = refl;
  reads_holes = refl;
  hole_0 = refl;
  hole_1 = refl;
  hole_2 = refl;
  hole_4294967295 = refl;
  hole_of_refused = refl;
  hole_of_refused_answer = refl;
  hole_by_answer = refl;
  hole_beyond_answer = refl;
  holes_by_answer = refl;
  holes_of_refused = refl;
  reads_start = refl;
  hole_of_start = refl;
  reads_number = refl;
  reads_high_offset = refl;
  fifteen_bytes = refl;
  bad_destination = refl;
  bad_source = refl;
  bad_control = refl;
  directory_protocol = refl;
  information_255 = refl;
  information_256 = refl;
  no_information = refl;
  six_bytes = refl;
  six_bytes_of_start = refl;
  flags_00 = refl;
  flags_01 = refl;
  flags_02 = refl;
  flags_12 = refl;
  flags_13 = refl;
  flags_15 = refl;
  flags_19 = refl;
  flags_31 = refl;
  flags_51 = refl;
  flags_91 = refl;
  block_243 = refl;
  block_245 = refl;
  block_500 = refl;
  block_high_byte_first = refl;
  start_block_243 = refl;
  start_with_a_byte = refl;
  start_with_a_hole = refl;
  list_of_none = refl;
  odd_1 = refl;
  odd_4 = refl;
  one_hole = refl;
  odd_behind_a_hole = refl;
  odd_behind_two = refl;
  most_holes = refl;
  odd_behind_most = refl;
  three_odd_behind_most = refl;
  fifty_counted = refl;
  fifty_in_a_frame = refl;
  empty_hole = refl;
  one_byte_hole = refl;
  touching = refl;
  one_between = refl;
  overlapping = refl;
  descending = refl;
  repeated = refl;
  end_32768 = refl;
  whole_32768 = refl;
  end_32769 = refl;
  start_32768 = refl;
  length_32768_from_1 = refl;
  offset_65536 = refl;
  length_65535 = refl;
  second_empty = refl;
  first_empty = refl;
  third_touches = refl;
  forty_ninth_touches = refl;
  second_ends_beyond = refl;
  one_before_two = refl;
  two_before_three = refl;
  three_before_four = refl;
  four_before_seven = refl;
  four_before_one = refl;
  seven_before_five = refl;
  one_before_five = refl;
  five_before_seven = refl;
  seven_before_ten = refl;
  odd_before_ten = refl;
  start_of_0 = refl;
  start_of_1 = refl;
  list_of_0 = refl;
  list_of_1 = refl;
  list_of_49 = refl;
  list_of_50 = refl;
  filled_accepted = refl;
  filled_refused = refl;
  request_accepted = refl;
  request_refused = refl;
}
