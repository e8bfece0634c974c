-- The further cases hold, most of them by computation.
-- Assumes nothing.
use mathlib.Core.Path.{◌≡◌, refl}
use mathlib.Core.Bool.{true, false, false≢true}
use mathlib.Core.List.{List, [], ◌∷◌, ◌++◌}
use mathlib.Core.Logic.{inl, inr}
use Prim.Native.Nat.{ℕ, zero, suc}
use native.Mathlib.Omega.{arith}
use lib.ListN.{replicate}
use Rattle.reason.specs.Answer.{accepted}
use Rattle.octets.specs.Lists.{OneOf}
use Rattle.octets.specs.Numbers.{AllBytes}
use Rattle.reason.specs.Order.{first_of}
use Rattle.octets.specs.Runs.{put_in}
use Rattle.remainder.specs.Remainder.{with_bit, with_bits, message_bits, remainder_of}
use Rattle.remainder.specs.Check.{check_right}
use Rattle.remainder.specs.Figure.{figure32}
use Rattle.positions.specs.Spans.{every, count, first}
use Rattle.positions.specs.Map.{bit, held, bits_from, map_of}
use Rattle.ax25.specs.Address.{is_name, is_writable, address_at, well_formed}
use Rattle.ax25.specs.Head.{head_checks, head_of, head_bytes}
use Rattle.frame.specs.Piece.{piece_checks, piece_fields, read_piece}
use Rattle.reception.specs.Opening.{opening}
use Rattle.reception.specs.Joining.{joining}
use Rattle.holes.specs.Listing.{listing}
use Rattle.record.specs.Record.{record_of}
use Rattle.reception.specs.Fitting.{AgreesWith}
use Rattle.taking.specs.Taking.{piece_data_in, taking_frame}
use Rattle.taking.specs.Examples.{front}
use Rattle.station.specs.Sequences.{AllAgree}
use Rattle.station.specs.Stations.{Station, Made, by_opening, by_taking, by_joining, by_loading}
use Rattle.station.specs.Cases.{twenty}
use Rattle.station.specs.MoreCases.{file, heard, ten, eighteen, handed_on, MoreCases}

bytes_of_three : AllBytes (replicate 3 0xFF)
bytes_of_three zero = omega arith
bytes_of_three (suc zero) = omega arith
bytes_of_three (suc (suc zero)) = omega arith
bytes_of_three (suc (suc (suc i))) = omega arith

bytes_of_four : AllBytes (replicate 4 0xFF)
bytes_of_four zero = omega arith
bytes_of_four (suc i) = bytes_of_three i

-- what `front` says is the file's; the other frames do not fit
front_agrees : AgreesWith file (piece_data_in front)
unfolding with_bit with_bits message_bits remainder_of head_bytes piece_fields
front_agrees zero h = refl
front_agrees (suc zero) h = refl
front_agrees (suc (suc zero)) h = refl
front_agrees (suc (suc (suc zero))) h = refl
front_agrees (suc (suc (suc (suc i)))) h = absurd (omega (arith, h))

unfit : {A : Type 0} → false ≡ true → A
unfit e = absurd (false≢true e)

heard_agree : AllAgree 7 20 file heard
unfolding first_of put_in with_bit with_bits message_bits remainder_of check_right figure32 is_name is_writable address_at well_formed head_checks head_of head_bytes piece_checks piece_fields read_piece
heard_agree =
    (λ _. front_agrees, (unfit, (unfit, (unfit, (unfit, (unfit, (λ _. front_agrees, tt)))))))

-- the two other pieces
ten_agrees : AgreesWith file (piece_data_in ten)
unfolding with_bit with_bits message_bits remainder_of head_bytes piece_fields
ten_agrees zero h = refl
ten_agrees (suc zero) h = refl
ten_agrees (suc (suc i)) h = absurd (omega (arith, h))

eighteen_agrees : AgreesWith file (piece_data_in eighteen)
unfolding with_bit with_bits message_bits remainder_of head_bytes piece_fields
eighteen_agrees zero h = refl
eighteen_agrees (suc zero) h = refl
eighteen_agrees (suc (suc i)) h = absurd (omega (arith, h))

opens_twenty : opening 20 (replicate 3 0xFF) (replicate 20 0xFF) ≡ accepted tt
unfolding first_of opening
opens_twenty = refl

-- the station
abbrev example : Station 7 20 file
example = record { map = replicate 3 0xFF; buffer = replicate 20 0xFF; bytes = bytes_of_three; opens = opens_twenty; frames = heard; agree = heard_agree }

-- a reception with one piece, opened in space that held something else
one_piece : (frame : List ℕ) → AgreesWith file (piece_data_in frame) → Made 7 20 file (twenty (frame ∷ []))
one_piece frame agree = by_taking _ frame (by_opening (replicate 3 0xFF) (replicate 20 0xFF) bytes_of_three opens_twenty) (λ _. agree)

handed_on_lem : Made 7 20 file handed_on
handed_on_lem =
    by_taking _ eighteen
    (by_loading _ (replicate 4 0xFF) (replicate 21 0xFF)
    (by_joining _ _ (one_piece front front_agrees) (one_piece ten ten_agrees)) (omega arith) bytes_of_four refl) (λ _. eighteen_agrees)

among_any : (frame : List ℕ) (before behind : List (List ℕ)) → OneOf frame (before ++ frame ∷ behind)
among_any frame [] behind = inl refl
among_any frame (f ∷ before) behind = inr (among_any frame before behind)

pub more_cases : MoreCases
unfolding first_of put_in with_bit with_bits message_bits remainder_of check_right figure32 is_name is_writable address_at well_formed head_checks head_of head_bytes piece_checks piece_fields read_piece every count first bit held bits_from map_of opening joining listing record_of taking_frame
more_cases = record {
  a_station = (example, (refl, refl));
  a_reception_handed_on = handed_on_lem;
  handed_on_map = refl;
  among_any = among_any;
  differing_leaves = refl;
  refused_covers_nothing = refl;
  in_their_order = refl;
  hole_of_16 = refl;
}
