-- Bit 7 of a frame's two SSID bytes (02, C-12) is told and written, and decides nothing else: whatever the two are, an operation gives the same
-- answer but for the bits. With 0 and 0 both are cleared.
-- Assumes nothing.
use Rattle.std.specs.Prelude.{◌≡◌, true, ◌&&◌, List, ℕ}
use Rattle.reason.specs.Answer.{telling}
use Rattle.ax25.specs.declared.Head.{Head}
use Rattle.ax25.specs.Address.{is_writable}
use Rattle.ax25.specs.Bits.{head_with, frame_with}
use Rattle.frame.specs.declared.Piece.{Piece}
use Rattle.frame.specs.declared.Entry.{Entry}
use Rattle.frame.specs.Piece.{read_piece, piece_bytes}
use Rattle.frame.specs.Entry.{read_entry, header_bytes}
use Rattle.holes.specs.declared.Hole.{Hole}
use Rattle.reception.specs.Reception.{Reception}
use Rattle.request.specs.declared.Asks.{Asks}
use Rattle.request.specs.declared.Request.{Request}
use Rattle.request.specs.Request.{request_frame}
use Rattle.request.specs.Reading.{read_request, holes_of}
use Rattle.taking.specs.Taking.{taking_frame, taken_frame}

-- what is read, with other bits
abbrev pub piece_with : ℕ → ℕ → Piece → Piece
piece_with to from p = record { head = head_with to from p.head; number = p.number; kind = p.kind; offset = p.offset }

abbrev pub entry_with : ℕ → ℕ → Entry → Entry
entry_with to from e = record {
  head = head_with to from e.head;
  flags = e.flags;
  number = e.number;
  offset = e.offset;
  old = e.old;
  new = e.new;
  header = e.header;
}

abbrev pub request_with : ℕ → ℕ → Request → Request
request_with to from r = record { head = head_with to from r.head; asks = r.asks; number = r.number; count = r.count }

pub record OnlyTheBits : Type 0 where
  -- a piece and its bytes, an entry and its file header, a request and its holes
  pub pieces : (to from : ℕ) (frame : List ℕ) → read_piece (frame_with to from frame) ≡ telling (piece_with to from) (read_piece frame)
  pub bytes : (to from : ℕ) (frame : List ℕ) → piece_bytes (frame_with to from frame) ≡ piece_bytes frame
  pub entries : (to from : ℕ) (frame : List ℕ) → read_entry (frame_with to from frame) ≡ telling (entry_with to from) (read_entry frame)
  pub headers : (to from : ℕ) (frame : List ℕ) → header_bytes (frame_with to from frame) ≡ header_bytes frame
  pub requests : (to from : ℕ) (frame : List ℕ) → read_request (frame_with to from frame) ≡ telling (request_with to from) (read_request frame)
  pub holes : (to from : ℕ) (frame : List ℕ) → holes_of (frame_with to from frame) ≡ holes_of frame
  -- what is taken in, and the reception afterwards, are the same
  pub taking : (to from : ℕ) (s : Reception) (frame : List ℕ) → taking_frame s (frame_with to from frame) ≡ taking_frame s frame
  pub taken : (to from : ℕ) (s : Reception) (frame : List ℕ) → taken_frame s (frame_with to from frame) ≡ taken_frame s frame
  -- a request for addresses with other bits is the same frame with these bits
  pub written : (to from : ℕ) (head : Head) (asks : Asks) (number : ℕ) (holes : List Hole)
      → (is_writable head.destination && is_writable head.source) ≡ true
      → request_frame (head_with to from head) asks number holes ≡ frame_with to from (request_frame head asks number holes)
