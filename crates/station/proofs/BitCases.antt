-- The worked cases of bit 7 hold, by computation.
-- Assumes nothing.
use mathlib.Core.Path.{refl}
use Rattle.reason.specs.Order.{first_of}
use Rattle.octets.specs.Runs.{put_in}
use Rattle.remainder.specs.Remainder.{with_bit, with_bits, message_bits, remainder_of}
use Rattle.remainder.specs.Check.{check_right}
use Rattle.positions.specs.Spans.{every, count, first}
use Rattle.positions.specs.Map.{bit, held, bits_from, map_of}
use Rattle.ax25.specs.Address.{is_name, is_writable, address_at, well_formed}
use Rattle.ax25.specs.Head.{head_checks, head_of, head_bytes}
use Rattle.frame.specs.Piece.{piece_checks, piece_fields, read_piece}
use Rattle.holes.specs.Listing.{listing}
use Rattle.request.specs.Request.{request_frame, holes_right}
use Rattle.request.specs.Reading.{hole_spelled, request_checks, request_fields, read_request}
use Rattle.request.specs.Writing.{filling, starting}
use Rattle.taking.specs.Taking.{taking_frame}
use Rattle.station.specs.AddressNumber.{address_of}
use Rattle.station.specs.BitCases.{BitCases}

pub bit_cases : BitCases
unfolding first_of put_in with_bit with_bits message_bits remainder_of check_right is_name is_writable address_at well_formed head_checks head_of head_bytes piece_checks piece_fields read_piece every count first bit held bits_from map_of listing request_frame holes_right hole_spelled request_checks request_fields read_request filling starting taking_frame address_of
bit_cases = record {
  piece_destination = record { returns = refl; leaves = refl };
  piece_source = record { returns = refl; leaves = refl };
  piece_both = record { returns = refl; leaves = refl };
  piece_6c = record { returns = refl; leaves = refl };
  piece_ec = record { returns = refl; leaves = refl };
  piece_bit_6_clear = record { returns = refl; leaves = refl };
  piece_bit_5_clear = record { returns = refl; leaves = refl };
  direwolf_read = record { returns = refl; leaves = refl };
  direwolf_taken = record { returns = refl; leaves = refl };
  taken_destination = record { returns = refl; leaves = refl };
  taken_source = record { returns = refl; leaves = refl };
  taken_both = record { returns = refl; leaves = refl };
  start_destination = record { returns = refl; leaves = refl };
  start_source = record { returns = refl; leaves = refl };
  start_both = record { returns = refl; leaves = refl };
  fill_destination = (record { returns = refl; leaves = refl }, record { returns = refl; leaves = refl });
  fill_source = (record { returns = refl; leaves = refl }, record { returns = refl; leaves = refl });
  fill_both = (record { returns = refl; leaves = refl }, record { returns = refl; leaves = refl });
  start_of_2 = record { returns = refl; leaves = refl };
}
