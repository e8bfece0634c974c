-- The orders are those of 01, by computation.
-- Assumes nothing.
use mathlib.Core.Path.{refl}
use Rattle.ax25.specs.Head.{head_checks}
use Rattle.frame.specs.Piece.{piece_checks}
use Rattle.frame.specs.Entry.{entry_checks}
use Rattle.request.specs.Reading.{request_checks}
use Rattle.station.specs.Orders.{Orders}

pub orders : Orders
unfolding head_checks piece_checks entry_checks request_checks
orders = record {
  in_a_piece = λ frame. refl;
  in_an_entry = λ frame. refl;
  in_a_request = λ frame. refl;
  in_taking = λ s frame. refl;
  in_opening = λ l map buffer. refl;
  in_joining = λ s t. refl;
  in_listing = λ l map place. refl;
  in_writing = λ w place target. refl;
  in_starting = λ head target. refl;
  in_saving = λ s target. refl;
  in_loading = λ saved map buffer. refl;
}
