-- The worked cases of 01 hold, by computation.
-- Assumes nothing.
use mathlib.Core.Path.{refl}
use Rattle.reason.specs.Order.{first_of}
use Rattle.octets.specs.Runs.{put_in}
use Rattle.remainder.specs.Remainder.{with_bit, with_bits, message_bits, remainder_of}
use Rattle.remainder.specs.Check.{check_right}
use Rattle.remainder.specs.Figure.{figure32}
use Rattle.positions.specs.Spans.{every, count, first}
use Rattle.positions.specs.Map.{bit, held, bits_from, map_of}
use Rattle.ax25.specs.Address.{is_name, is_writable, address_at, well_formed, read_address, write_address}
use Rattle.ax25.specs.Head.{head_checks, head_of, head_bytes}
use Rattle.header.specs.Figure.{figure31}
use Rattle.header.specs.Items.{mandatory_items, known_items, decision_of, step_with, step_at, items_from}
use Rattle.header.specs.Header.{header_sum}
use Rattle.frame.specs.Piece.{piece_checks, piece_fields, read_piece}
use Rattle.reception.specs.Opening.{opening}
use Rattle.reception.specs.Joining.{joining}
use Rattle.holes.specs.Listing.{listing}
use Rattle.request.specs.Request.{request_frame}
use Rattle.request.specs.Writing.{filling}
use Rattle.taking.specs.Taking.{taking_frame}
use Rattle.station.specs.Cases.{Cases}

pub cases : Cases
unfolding first_of put_in with_bit with_bits message_bits remainder_of check_right figure32 figure31 is_name is_writable address_at well_formed read_address write_address head_checks head_of head_bytes mandatory_items known_items decision_of step_with step_at items_from header_sum piece_checks piece_fields read_piece every count first bit held bits_from map_of opening joining listing request_frame filling taking_frame
cases = record {
  length_0 = λ map buffer. refl;
  length_1 = refl;
  length_32768 = refl;
  length_32769 = λ map buffer. refl;
  at_32767 = refl;
  at_32768 = refl;
  va3sfl_written = refl;
  va3sfl_read = refl;
  uosat5_written = refl;
  uosat5_read = refl;
  ssid_6c = refl;
  sum_of_figure_3_1 = (refl, refl);
  sum_of_figure_3_2 = (refl, refl);
  remainder_of_figure_3_2 = (refl, refl);
  without_data = (refl, refl);
  held_0_3_and_8_9 = refl;
  holes_4_and_10 = refl;
  request_information = refl;
  request_written = refl;
  six_new = refl;
  joined_map = refl;
  repeat_returns_0 = refl;
  differing = refl;
}
