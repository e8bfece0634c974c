-- The customer's second demand, in its words: "What is read and written is what AX.25, the PACSAT broadcast protocol and file
-- header papers and our rules define: every frame and record to its fields, and the fields of a request or record to its bytes, so
-- that reading gives back what was written. Each accepted piece, hole, request and record has the one meaning stated there."
-- Assumes nothing.
use Rattle.std.specs.Prelude.{◌≡◌, true, false, ◌&&◌, List, ◌++◌, ℕ, ◌^◌, ◌≤◌, ◌<◌, length, get_or, take, drop}
use Rattle.reason.specs.Answer.{accepted, refused}
use Rattle.octets.specs.Numbers.{number_at, AllBytes}
use Rattle.octets.specs.Runs.{put_in}
use Rattle.positions.specs.Map.{held, map_size}
use Rattle.ax25.specs.declared.Address.{Address}
use Rattle.ax25.specs.declared.Role.{Role}
use Rattle.ax25.specs.declared.Head.{Head}
use Rattle.ax25.specs.Address.{is_writable, address_bytes, read_address, write_address}
use Rattle.ax25.specs.Information.{information_of}
use Rattle.header.specs.Header.{header_length}
use Rattle.header.specs.Rules.{Rules}
use Rattle.frame.specs.declared.Piece.{Piece}
use Rattle.frame.specs.declared.Entry.{Entry}
use Rattle.frame.specs.Piece.{read_piece, piece_bytes}
use Rattle.frame.specs.Entry.{header_part, entry_of, read_entry}
use Rattle.frame.specs.Making.{piece_frame, MakeablePiece}
use Rattle.frame.specs.Says.{PieceSays, EntrySays, EntryRules}
use Rattle.holes.specs.declared.Hole.{Hole}
use Rattle.reception.specs.declared.File.{File}
use Rattle.reception.specs.Reception.{Reception, longest, wrong_length, short_space}
use Rattle.holes.specs.Holes.{IsHole}
use Rattle.holes.specs.Listing.{listing}
use Rattle.holes.specs.EveryHole.{last_end}
use Rattle.request.specs.declared.Asks.{Asks}
use Rattle.request.specs.declared.Asks.TheVariants.{Start, Holes}
use Rattle.request.specs.declared.Request.{Request}
use Rattle.request.specs.declared.Written.{Written}
use Rattle.request.specs.Request.{frame_length, request_frame}
use Rattle.request.specs.Reading.{read_request, no_hole, hole_at, holes_of}
use Rattle.request.specs.Writing.{Wanted, holes_from, filling, fill_frame, starting}
use Rattle.request.specs.Making.{MakeableRequest}
use Rattle.request.specs.Run.{sent, sent_from, place_after, Whole, names, all_but, naming}
use Rattle.request.specs.Says.{RequestSays}
use Rattle.record.specs.Record.{record_of, record_length}
use Rattle.record.specs.Saving.{saving}
use Rattle.record.specs.Reading.{number_in, length_in, map_in, buffer_in, is_record, read_record}
use Rattle.record.specs.Says.{RecordSays}
use Rattle.record.specs.Loading.{loading, loaded}
use Rattle.record.specs.GivenBack.{GivesBack}
use Rattle.station.specs.Bits.{OnlyTheBits}

-- a station that can send requests: both addresses can be written, the file's number has four bytes, the target has room for the frame of
-- each request that is written (of a run the first is the longest), the length is in range and the map long enough
pub record CanSend (w : Wanted) (target : List ℕ) : Type 0 where
  pub addresses : (is_writable w.head.destination && is_writable w.head.source) ≡ true
  pub numbered : w.number < 256 ^ 4
  pub room : (place : ℕ) (hole : Hole) → listing w.length w.map place ≡ accepted hole
      → frame_length (length (holes_from w place)) ≤ length target
  pub right : wrong_length w.length ≡ false
  pub mapped : map_size w.length ≤ length w.map

pub record Demand2 : Type 0 where
  -- ---- Addresses: what is written is read, and what is read is what writing gives.
  pub address_is_read : (role : Role) (out : List ℕ) (at : ℕ) (a : Address) (left : List ℕ) → write_address role out at a ≡ accepted left
      → read_address role left at ≡ accepted a
  pub address_is_written : (role : Role) (s : List ℕ) (at : ℕ) (a : Address) → AllBytes s → read_address role s at ≡ accepted a
      → (take 7 (drop at s) ≡ address_bytes role a) × (write_address role s at a ≡ accepted s)
  -- ---- Pieces: an accepted frame says its bytes at their places; a piece as a satellite makes it is read as that piece, and the bytes
  -- handed out are its own; and every accepted frame is the one that its fields and bytes make, so that it has one meaning, and these can
  -- be made: the accepted frames are exactly those that a satellite makes.
  pub piece_says : (frame : List ℕ) (p : Piece) → read_piece frame ≡ accepted p → PieceSays frame p
  pub piece_is_read : (p : Piece) (bytes : List ℕ) → MakeablePiece p bytes
      → (read_piece (piece_frame p bytes) ≡ accepted p) × (piece_bytes (piece_frame p bytes) ≡ bytes)
  pub piece_is_made : (frame : List ℕ) (p : Piece) → AllBytes frame → read_piece frame ≡ accepted p
      → (piece_frame p (piece_bytes frame) ≡ frame) × MakeablePiece p (piece_bytes frame)
  -- ---- Directory entries: both addresses, all fields, and the value of each mandatory item and of item 12.
  -- An entry is accepted exactly if it keeps every rule; reason 8 says that the header breaks one, or that something follows it.
  pub entry_says : (frame : List ℕ) (e : Entry) → read_entry frame ≡ accepted e → EntrySays frame e
  pub entry_is_read : (frame : List ℕ) → EntryRules frame → read_entry frame ≡ accepted (entry_of frame)
  pub entry_keeps : (frame : List ℕ) (e : Entry) → read_entry frame ≡ accepted e → EntryRules frame
  pub eight_says : (frame : List ℕ) → read_entry frame ≡ refused 8
      → Rules (header_part (information_of frame)) (number_at 4 (information_of frame) 1)
      → header_length (header_part (information_of frame)) ≡ length (header_part (information_of frame)) → ⊥
  -- ---- No frame has two meanings, whichever operation reads it.
  pub not_piece_and_entry : (frame : List ℕ) (p : Piece) (e : Entry) → read_piece frame ≡ accepted p → read_entry frame ≡ accepted e → ⊥
  pub not_piece_and_request : (frame : List ℕ) (p : Piece) (r : Request) → read_piece frame ≡ accepted p → read_request frame ≡ accepted r → ⊥
  pub not_entry_and_request : (frame : List ℕ) (e : Entry) (r : Request) → read_entry frame ≡ accepted e → read_request frame ≡ accepted r → ⊥
  -- ---- Bit 7 of the two SSID bytes is told and written, and decides nothing (02, C-12).
  pub only_the_bits : OnlyTheBits
  -- ---- Holes: what is listed is a longest run of unheld positions below L, the first that starts at the place or later; 15 means that
  -- there is none.
  pub hole_says : (l : ℕ) (map : List ℕ) (place : ℕ) (hole : Hole) → listing l map place ≡ accepted hole
      → IsHole l map hole × (place ≤ hole.start) × ((other : Hole) → IsHole l map other → place ≤ other.start → hole.start ≤ other.start)
  pub fifteen_says : (l : ℕ) (map : List ℕ) (place : ℕ) → listing l map place ≡ refused 15
      → (hole : Hole) → IsHole l map hole → place ≤ hole.start → ⊥
  -- ---- Requests: an accepted frame says its bytes at their places; what is written is read, field by field and hole by hole; and every
  -- accepted frame is the one that its fields and holes make, and what the writers write for them.
  pub request_says : (frame : List ℕ) (r : Request) → read_request frame ≡ accepted r → RequestSays frame r
  pub request_is_read : (head : Head) (asks : Asks) (number : ℕ) (holes : List Hole) → MakeableRequest head asks number holes
      → (read_request (request_frame head asks number holes) ≡ accepted (record { head = head; asks = asks; number = number; count = length holes }))
      × ((index : ℕ) → hole_at (request_frame head asks number holes) index ≡ get_or holes index no_hole)
  pub request_is_made : (frame : List ℕ) (r : Request) → AllBytes frame → read_request frame ≡ accepted r
      → (request_frame r.head r.asks r.number (holes_of frame) ≡ frame) × MakeableRequest r.head r.asks r.number (holes_of frame)
  pub fill_is_read : (w : Wanted) (place : ℕ) (target : List ℕ) (x : Written) → filling w place target ≡ accepted x → w.number < 256 ^ 4
      → (read_request (sent w place target x) ≡ accepted (record { head = w.head; asks = Holes; number = w.number; count = x.count }))
      × (holes_of (sent w place target x) ≡ holes_from w place)
  pub start_is_read : (head : Head) (number : ℕ) (target left : List ℕ) → starting head number target ≡ accepted left → number < 256 ^ 4
      → read_request (take (frame_length 0) left) ≡ accepted (record { head = head; asks = Start; number = number; count = 0 })
  pub fill_is_written : (frame : List ℕ) (r : Request) → AllBytes frame → read_request frame ≡ accepted r → r.asks ≡ Holes
      → let w : Wanted = record { head = r.head; number = r.number; length = longest; map = all_but (holes_of frame) } in
      (fill_frame w 0 ≡ frame) × ((target : List ℕ) → frame_length (length (holes_of frame)) ≤ length target
      → filling w 0 target ≡ accepted (record { count = length (holes_of frame); end = last_end 0 (holes_of frame) }))
  pub start_is_written : (frame : List ℕ) (r : Request) → AllBytes frame → read_request frame ≡ accepted r → r.asks ≡ Start
      → (target : List ℕ) → frame_length 0 ≤ length target → starting r.head r.number target ≡ accepted (put_in target 0 frame)
  -- "A written request or record fills the first bytes of the target; the bytes after it stay": what the promises call `put_in target 0`.
  pub fills_the_first_bytes : (target run : List ℕ) → put_in target 0 run ≡ run ++ drop (length run) target
  -- Repeated from 0, each time from the end returned, until 15, requests list every hole exactly once, 1 to 49 in each. They name every
  -- position that is missing exactly once, and none that is held: a set bit means held.
  pub whole_run : (w : Wanted) (target : List ℕ) → CanSend w target
      → Whole w target (sent_from w.length w target 0) (place_after w.length w target 0)
  pub missing_is_named_once : (w : Wanted) (target : List ℕ) → CanSend w target → (p : ℕ) → p < w.length → held w.map p ≡ false
      → naming (sent_from w.length w target 0) p ≡ 1
  pub held_is_never_named : (w : Wanted) (target : List ℕ) → CanSend w target → (p : ℕ) → held w.map p ≡ true
      → naming (sent_from w.length w target 0) p ≡ 0
  pub only_missing_is_named : (w : Wanted) (place : ℕ) (target : List ℕ) (x : Written) → filling w place target ≡ accepted x → w.number < 256 ^ 4
      → (p : ℕ) → names (holes_of (sent w place target x)) p ≡ true → (p < w.length) × (held w.map p ≡ false)
  -- ---- Records: an accepted record says its bytes at their places; what is saved is loaded, in number, length, held positions and their
  -- bytes; an accepted record is what saving gives for what it says, and so the only one of its content.
  pub record_says : (saved : List ℕ) (x : File) → read_record saved ≡ accepted x → RecordSays saved x
  pub record_is_loaded : (s : Reception) (target : List ℕ) (n : ℕ) → s.number < 256 ^ 4 → saving s target ≡ accepted n
      → (take n (put_in target 0 (record_of s)) ≡ record_of s)
      × ((map buffer : List ℕ) → short_space s.length map buffer ≡ false
      → (loading (record_of s) map buffer ≡ accepted (record { number = s.number; length = s.length }))
      × GivesBack s (loaded (record_of s) map buffer))
  pub record_is_saved : (saved map buffer : List ℕ) → AllBytes saved → (x : File) → loading saved map buffer ≡ accepted x
      → (record_of (loaded saved map buffer) ≡ saved)
      × ((target : List ℕ) → record_length (length_in saved) ≤ length target → saving (loaded saved map buffer) target ≡ accepted (length saved))
  pub one_record : (r q : List ℕ) → AllBytes r → AllBytes q → is_record r ≡ true → is_record q ≡ true → number_in r ≡ number_in q
      → length_in r ≡ length_in q → map_in r ≡ map_in q → buffer_in r ≡ buffer_in q → r ≡ q
