-- Bit 7 decides nothing, proved: every reader is the head's layer and that of the information, of which `but_for_bits` speaks.
-- Assumes nothing.
use mathlib.Core.Path.{◌≡◌, refl, sym, ap, ap₂, ◌∙◌}
use mathlib.Core.Bool.{true, ◌&&◌}
use mathlib.Core.List.{List}
use Prim.Native.Nat.{ℕ}
use Rattle.reason.specs.Answer.{Answer, accepted, refused, telling}
use Rattle.ax25.specs.declared.Head.{Head}
use Rattle.ax25.specs.Address.{is_writable}
use Rattle.ax25.specs.Information.{file_protocol, directory_protocol, information_of}
use Rattle.ax25.specs.Bits.{head_with, frame_with}
use Rattle.ax25.proofs.BitLaws.{information_stays, but_for_bits, written_with}
use Rattle.frame.specs.declared.Piece.{Piece}
use Rattle.frame.specs.declared.Entry.{Entry}
use Rattle.frame.specs.Piece.{piece_checks, piece_fields, read_piece, data_part, piece_bytes_read, piece_bytes}
use Rattle.frame.specs.Entry.{entry_checks, entry_fields, read_entry, header_part, header_bytes_read, header_bytes}
use Rattle.holes.specs.declared.Hole.{Hole}
use Rattle.reception.specs.Reception.{Reception, PieceData}
use Rattle.reception.specs.Adding.{of_piece, after}
use Rattle.reception.specs.Taking.{taking}
use Rattle.request.specs.declared.Asks.{Asks}
use Rattle.request.specs.declared.Request.{Request}
use Rattle.request.specs.Request.{information, request_frame}
use Rattle.request.specs.Reading.{request_checks, request_fields, read_request, holes_read, holes_of}
use Rattle.taking.specs.Taking.{piece_data_in, taking_frame, taken_frame}
use Rattle.taking.proofs.TakingLaws.{frame_refused, frame_accepted}
use Rattle.station.specs.Bits.{piece_with, entry_with, request_with, OnlyTheBits}

module _ (to from : ℕ) (frame : List ℕ) where
  abbrev chosen : List ℕ
  chosen = frame_with to from frame

  same : information_of chosen ≡ information_of frame
  same = information_stays to from frame

  -- the three readers
  piece_carries : (head : Head) (s : List ℕ) → piece_fields (head_with to from head) s ≡ piece_with to from (piece_fields head s)
  unfolding piece_fields
  piece_carries head s = refl

  pieces : read_piece chosen ≡ telling (piece_with to from) (read_piece frame)
  unfolding read_piece
  pieces = but_for_bits to from frame file_protocol piece_checks piece_fields (piece_with to from) piece_carries

  entry_carries : (head : Head) (s : List ℕ) → entry_fields (head_with to from head) s ≡ entry_with to from (entry_fields head s)
  unfolding entry_fields
  entry_carries head s = refl

  entries : read_entry chosen ≡ telling (entry_with to from) (read_entry frame)
  unfolding read_entry
  entries = but_for_bits to from frame directory_protocol entry_checks entry_fields (entry_with to from) entry_carries

  request_carries : (head : Head) (s : List ℕ) → request_fields (head_with to from head) s ≡ request_with to from (request_fields head s)
  unfolding request_fields
  request_carries head s = refl

  requests : read_request chosen ≡ telling (request_with to from) (read_request frame)
  unfolding read_request
  requests = but_for_bits to from frame file_protocol request_checks request_fields (request_with to from) request_carries

  -- what is handed out with them: it is the information's alone
  bytes_by : (x : Answer Piece) → piece_bytes_read (telling (piece_with to from) x) chosen ≡ piece_bytes_read x frame
  bytes_by (accepted p) = ap data_part same
  bytes_by (refused n) = refl

  bytes : piece_bytes chosen ≡ piece_bytes frame
  bytes = ap (λ (x : Answer Piece). piece_bytes_read x chosen) pieces ∙ bytes_by (read_piece frame)

  headers_by : (x : Answer Entry) → header_bytes_read (telling (entry_with to from) x) chosen ≡ header_bytes_read x frame
  headers_by (accepted e) = ap header_part same
  headers_by (refused n) = refl

  headers : header_bytes chosen ≡ header_bytes frame
  headers = ap (λ (x : Answer Entry). header_bytes_read x chosen) entries ∙ headers_by (read_entry frame)

  holes_by : (x : Answer Request) → holes_read (telling (request_with to from) x) chosen ≡ holes_read x frame
  holes_by (accepted r) = rw same
  holes_by (refused n) = refl

  holes : holes_of chosen ≡ holes_of frame
  holes = ap (λ (x : Answer Request). holes_read x chosen) requests ∙ holes_by (read_request frame)

  -- taking in: the frame's reasons are the piece's, and its data the information's
  data_stays : piece_data_in chosen ≡ piece_data_in frame
  unfolding piece_fields
  data_stays = rw same

  module _ (s : Reception) where
    taking_by : (x : Answer Piece) → read_piece frame ≡ x → taking_frame s chosen ≡ taking_frame s frame
    taking_by (accepted p) e =
        frame_accepted s chosen (piece_with to from p) (pieces ∙ ap (telling (piece_with to from)) e)
        ∙ ap (taking s) data_stays
        ∙ sym (frame_accepted s frame p e)
    taking_by (refused n) e =
        frame_refused s chosen n (pieces ∙ ap (telling (piece_with to from)) e) ∙ sym (frame_refused s frame n e)

    taking_stays : taking_frame s chosen ≡ taking_frame s frame
    taking_stays = taking_by (read_piece frame) refl

    taken_stays : taken_frame s chosen ≡ taken_frame s frame
    taken_stays = ap₂ (λ (d : PieceData) (x : Answer ℕ). after s (of_piece d) x) data_stays taking_stays

-- a request's frame is its head and what is behind it
written : (to from : ℕ) (head : Head) (asks : Asks) (number : ℕ) (holes : List Hole)
    → (is_writable head.destination && is_writable head.source) ≡ true
    → request_frame (head_with to from head) asks number holes ≡ frame_with to from (request_frame head asks number holes)
unfolding request_frame
written to from head asks number holes w = written_with to from head.destination head.source file_protocol (information asks number holes) w

pub only_the_bits : OnlyTheBits
only_the_bits = record {
  pieces = pieces;
  bytes = bytes;
  entries = entries;
  headers = headers;
  requests = requests;
  holes = holes;
  taking = λ to from s frame. taking_stays to from frame s;
  taken = λ to from s frame. taken_stays to from frame s;
  written = written;
}
