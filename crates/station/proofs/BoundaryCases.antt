-- The worked cases of the boundary hold, by computation.
-- Assumes nothing.
use mathlib.Core.Path.{refl}
use Rattle.reason.specs.Order.{first_of}
use Rattle.octets.specs.Runs.{put_in}
use Rattle.remainder.specs.Remainder.{with_bit, with_bits, message_bits, remainder_of}
use Rattle.remainder.specs.Check.{check_right}
use Rattle.remainder.specs.Figure.{figure32}
use Rattle.positions.specs.Spans.{every, count, first}
use Rattle.positions.specs.Map.{bit, held, bits_from, map_of}
use Rattle.ax25.specs.Address.{is_name, is_writable, address_at, well_formed, read_address, write_address}
use Rattle.ax25.specs.Head.{head_checks, head_of, head_bytes}
use Rattle.header.specs.Items.{mandatory_items, known_items, decision_of, step_with, step_at, items_from}
use Rattle.header.specs.Header.{header_sum, header_of, keeps_rules, read_header}
use Rattle.frame.specs.Piece.{piece_checks, piece_fields, read_piece}
use Rattle.frame.specs.Entry.{entry_checks, entry_fields, read_entry}
use Rattle.reception.specs.Opening.{opening}
use Rattle.reception.specs.Joining.{joining}
use Rattle.holes.specs.Listing.{listing}
use Rattle.request.specs.Request.{request_frame, holes_right}
use Rattle.request.specs.Reading.{hole_spelled, request_checks, request_fields, read_request}
use Rattle.request.specs.Writing.{filling, starting}
use Rattle.record.specs.Record.{record_of}
use Rattle.record.specs.Saving.{saving}
use Rattle.record.specs.Reading.{is_record}
use Rattle.record.specs.Loading.{loading}
use Rattle.taking.specs.Taking.{taking_frame}
use Rattle.station.specs.AddressNumber.{address_of}
use Rattle.station.specs.BoundaryCases.{BoundaryCases}

pub boundary_cases : BoundaryCases
unfolding first_of put_in with_bit with_bits message_bits remainder_of check_right figure32 is_name is_writable address_at well_formed read_address write_address head_checks head_of head_bytes mandatory_items known_items decision_of step_with step_at items_from header_sum header_of keeps_rules read_header piece_checks piece_fields read_piece entry_checks entry_fields read_entry every count first bit held bits_from map_of opening joining listing request_frame holes_right hole_spelled request_checks request_fields read_request filling starting record_of saving is_record loading taking_frame address_of
boundary_cases = record {
  va3sfl_as_number = (refl, refl);
  uosat5_as_number = (refl, refl);
  bit_as_number = (refl, refl);
  bit_above_1 = refl;
  open_out = record { returns = refl; leaves = refl };
  take_out = record { returns = refl; leaves = refl };
  take_refused = record { returns = refl; leaves = refl };
  join_out = record { returns = refl; leaves = refl };
  list_out = record { returns = refl; leaves = refl };
  save_out = record { returns = refl; leaves = refl };
  load_out = record { returns = refl; leaves = refl };
  piece_out = record { returns = refl; leaves = refl };
  piece_refused = record { returns = refl; leaves = refl };
  entry_out = record { returns = refl; leaves = refl };
  header_out = record { returns = refl; leaves = refl };
  header_of_another = record { returns = refl; leaves = refl };
  header_broken = record { returns = refl; leaves = refl };
  extension_out = refl;
  no_upload = (refl, refl);
  write_request_out = record { returns = refl; leaves = refl };
  write_request_refused = record { returns = refl; leaves = refl };
  write_start_out = record { returns = refl; leaves = refl };
  read_request_out = record { returns = refl; leaves = refl };
  hole_out = record { returns = refl; leaves = refl };
  hole_beyond = record { returns = refl; leaves = refl };
}
