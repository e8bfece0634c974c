-- The second demand, proved: its statements are theorems of the crates where the definitions stand.
-- Assumes nothing.
use mathlib.Core.Path.{◌≡◌, sym, ap, ◌∙◌}
use mathlib.Core.List.{List, ◌++◌}
use Prim.Native.Nat.{ℕ}
use native.Mathlib.Omega.{arith}
use native.Mathlib.Nat.{zero-add}
use lib.ListN.{length, drop}
use Rattle.reason.specs.Answer.{accepted}
use Rattle.octets.specs.Runs.{put_in}
use Rattle.frame.specs.declared.Piece.{Piece}
use Rattle.frame.specs.declared.Entry.{Entry}
use Rattle.frame.specs.Piece.{read_piece}
use Rattle.frame.specs.Entry.{read_entry}
use Rattle.frame.proofs.Says.{piece_says, entry_says, entry_is_read, accepted_entry_keeps, eight_says, not_piece_and_entry}
use Rattle.frame.proofs.RoundTrip as piece
use Rattle.holes.proofs.HoleLaws.{hole_is, hole_first, none_only_if}
use Rattle.request.specs.declared.Asks.{Asks}
use Rattle.request.specs.declared.Asks.TheVariants.{Start, Holes}
use Rattle.request.specs.declared.Request.{Request}
use Rattle.request.specs.Request.{flags_of}
use Rattle.request.specs.Reading.{read_request}
use Rattle.request.proofs.Says.{request_says}
use Rattle.request.proofs.RoundTrip as request
use Rattle.request.proofs.SentLaws.{written_fill_is_read, written_holes_are_read, written_start_is_read}
use Rattle.request.proofs.WholeRun.{whole_run}
use Rattle.request.proofs.Naming.{names_only_unheld, unheld_is_named_once, held_is_never_named}
use Rattle.request.proofs.WrittenAgain.{accepted_start_is_written, accepted_list_is_made, accepted_list_is_written}
use Rattle.ax25.proofs.RoundTrip.{written_address_is_read, read_address_is_written}
use Rattle.record.proofs.Says.{record_says}
use Rattle.record.proofs.RoundTrip as saved
use Rattle.station.specs.Demand2.{Demand2}
use Rattle.station.proofs.Bits.{only_the_bits}

-- a piece's flags are 02, a request's 10 or 11
flags_differ : (asks : Asks) → flags_of asks ≡ 2 → ⊥
flags_differ Start e = omega (arith, e)
flags_differ Holes e = omega (arith, e)

not_piece_and_request : (frame : List ℕ) (p : Piece) (r : Request) → read_piece frame ≡ accepted p → read_request frame ≡ accepted r → ⊥
not_piece_and_request frame p r x y = flags_differ r.asks (sym (request_says frame r y).flags ∙ (piece_says frame p x).flags)

-- a request's protocol is that of files
not_entry_and_request : (frame : List ℕ) (e : Entry) (r : Request) → read_entry frame ≡ accepted e → read_request frame ≡ accepted r → ⊥
not_entry_and_request frame e r x y = omega (arith, (entry_says frame e x).head.of_protocol, (request_says frame r y).head.of_protocol)

-- a run at the front of a target, and the target behind it
fills_the_first_bytes : (target run : List ℕ) → put_in target 0 run ≡ run ++ drop (length run) target
unfolding put_in
fills_the_first_bytes target run = ap (λ (n : ℕ). run ++ drop n target) (zero-add (length run))

pub demand_2 : Demand2
demand_2 = record {
  address_is_read = written_address_is_read;
  address_is_written = read_address_is_written;
  piece_says = piece_says;
  piece_is_read = λ p bytes m. (piece.made_piece_is_read p bytes m, piece.made_piece_is_handed_out p bytes m);
  piece_is_made = λ frame p bytes read. (piece.accepted_piece_is_made frame p bytes read, piece.accepted_piece_can_be_made frame p bytes read);
  entry_says = entry_says;
  entry_is_read = entry_is_read;
  entry_keeps = accepted_entry_keeps;
  eight_says = eight_says;
  not_piece_and_entry = not_piece_and_entry;
  not_piece_and_request = not_piece_and_request;
  not_entry_and_request = not_entry_and_request;
  only_the_bits = only_the_bits;
  hole_says = λ l map place hole e. (let first = hole_first l map place hole e in (hole_is l map place hole e, first.0, first.1));
  fifteen_says = none_only_if;
  request_says = request_says;
  request_is_read = λ head asks number holes m.
      (request.made_request_is_read head asks number holes m, request.made_hole_is_read head asks number holes m);
  request_is_made = λ frame r bytes read.
      (request.accepted_request_is_made frame bytes r read, request.accepted_request_can_be_made frame bytes r read);
  fill_is_read = λ w place t x written number.
      (written_fill_is_read w place t x written number, written_holes_are_read w place t x written number);
  start_is_read = written_start_is_read;
  fill_is_written = λ frame r bytes read asks. (
    accepted_list_is_made frame bytes r read asks,
    λ t room. accepted_list_is_written frame bytes r read asks t room,
  );
  start_is_written = λ frame r bytes read asks t room. accepted_start_is_written frame bytes r read t asks room;
  fills_the_first_bytes = fills_the_first_bytes;
  whole_run = λ w t can. whole_run w t can.addresses can.numbered can.room can.right can.mapped;
  missing_is_named_once = λ w t can. unheld_is_named_once w t can.addresses can.numbered can.room can.right can.mapped;
  held_is_never_named = λ w t can. held_is_never_named w t can.addresses can.numbered can.room can.right can.mapped;
  only_missing_is_named = names_only_unheld;
  record_says = record_says;
  record_is_loaded = saved.load_after_save;
  record_is_saved = λ r map buffer all x e. (saved.save_after_load r map buffer all x e, saved.saves_after_load r map buffer all x e);
  one_record = saved.one_record;
}
