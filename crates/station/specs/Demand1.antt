-- The customer's first demand, in its words: "Every input gets an answer: frames, requests, records and lent buffers of all
-- lengths and contents. Each refusal is one of our numbered reasons, given exactly when that reason holds first in our order, and
-- changes no lent byte."
-- Assumes nothing.
use Rattle.std.specs.Prelude.{◌≡◌, ◌⊎◌, not, List, [], ◌∷◌, ℕ, ◌≤◌, length, Result}
use Rattle.reason.specs.declared.Reason.{Reason}
use Rattle.reason.specs.Answer.{accepted, refused, answer_of, Writes}
use Rattle.reason.specs.Order.{Check, check, First, NoneHolds}
use Rattle.ax25.specs.declared.Address.{Address}
use Rattle.ax25.specs.declared.Role.{Role}
use Rattle.ax25.specs.declared.Head.{Head}
use Rattle.ax25.specs.Address.{address_at, address_read_checks, read_address, address_write_checks, write_address}
use Rattle.ax25.specs.Head.{head_checks, head_of, read_head, head_write_checks, write_head}
use Rattle.header.specs.Header.{header_checks, header_of, read_header}
use Rattle.frame.specs.Piece.{piece_order, piece_of, read_piece}
use Rattle.frame.specs.Entry.{entry_order, entry_of, read_entry}
use Rattle.reception.specs.Reception.{Reception, PieceData}
use Rattle.reception.specs.Opening.{opening_checks, Opens}
use Rattle.reception.specs.Taking.{taking_checks, taken_new, Takes}
use Rattle.reception.specs.Joining.{joining_checks, joined_new, Joins}
use Rattle.holes.specs.Holes.{hole_from}
use Rattle.holes.specs.Listing.{listing_checks, listing}
use Rattle.holes.specs.EveryHole.{last_end}
use Rattle.request.specs.Reading.{flags_allowed, asks_by, AsksBy, request_order, request_of, read_request}
use Rattle.request.specs.Writing.{Wanted, holes_from, fill_checks, Fills, start_checks, starting}
use Rattle.record.specs.Record.{record_length}
use Rattle.record.specs.Saving.{saving_checks, Saves}
use Rattle.record.specs.Reading.{is_record, recorded_in, read_record}
use Rattle.record.specs.Loading.{loading_checks, Loads}
use Rattle.taking.specs.Taking.{piece_data_in, taking_order, TakesFrame}
use Rattle.station.specs.Lent.{Lent, reception_in}

-- the numbered reasons are 1 to 15
abbrev pub last_reason : ℕ
last_reason = 15

-- Demand 1 of one operation, for one input. `checks` are its reasons in their order, and `value` what it answers if none holds.
-- `promise r left` is the promise of its function, r being what it answers and `left` what it leaves of what it was lent; `answer_of`
-- gives the paper's number and values for each answer.
pub record Answers {A L : Type 0} (checks : List Check) (value : A) (lent : L) (promise : Result A Reason → L → Type 0) : Type 0 where
  -- every input gets an answer: there is one that meets the promise, and either a reason holds first, or none holds
  pub met : (r : Result A Reason) × ((left : L) × promise r left)
  pub answered : ((n : ℕ) × First n checks) ⊎ NoneHolds checks
  -- what holds is one of the numbered reasons
  pub numbered : (n : ℕ) → First n checks → (1 ≤ n) × (n ≤ last_reason)
  -- a reason is given exactly when it holds first
  pub refuses_if : (r : Result A Reason) (left : L) → promise r left → (n : ℕ) → First n checks → answer_of r ≡ refused n
  pub refuses_only_if : (r : Result A Reason) (left : L) → promise r left → (n : ℕ) → answer_of r ≡ refused n → First n checks
  -- and the values exactly when none holds
  pub accepts_if : (r : Result A Reason) (left : L) → promise r left → NoneHolds checks → answer_of r ≡ accepted value
  pub accepts_only_if : (r : Result A Reason) (left : L) → promise r left → (a : A) → answer_of r ≡ accepted a → NoneHolds checks × (a ≡ value)
  -- a refusal changes no lent byte
  pub leaves : (r : Result A Reason) (left : L) → promise r left → (n : ℕ) → answer_of r ≡ refused n → left ≡ lent

-- what a function that only reads was lent to write to
abbrev pub nothing : Unit {0}
nothing = tt {0}

-- Every operation of "Numbered reasons", with 01's words for its order, and the operations that they are made of.
pub record Demand1 : Type 0 where
  -- "Order in a frame: 1 (below 16), 2, 3, 4, 7 (over 255), 1 (information), 6, 5, 14, 7 (no data), 8": a piece, and an entry
  pub reads_piece : (frame : List ℕ) → Answers (piece_order frame) (piece_of frame) nothing (λ r left. answer_of r ≡ read_piece frame)
  pub reads_entry : (frame : List ℕ) → Answers (entry_order frame) (entry_of frame) nothing (λ r left. answer_of r ≡ read_entry frame)
  -- "A request frame: 1, 2, 3, 4, 7, 1, 5, 7, 10"
  pub reads_request : (frame : List ℕ)
      → Answers (request_order frame) (request_of frame) nothing (λ r left. answer_of r ≡ read_request frame)
  -- .. and its flags alone: 5
  pub reads_flags : (flags : ℕ) → Answers (check (not (flags_allowed flags)) 5 ∷ []) (asks_by flags) nothing (λ r left. AsksBy flags r)
  -- "Taking in a piece: the frame's reasons, then 7 (L), 12, 9, 10, 11"
  pub takes : (number l : ℕ) (lent : Lent) (frame : List ℕ) → let s = reception_in number l lent in
      Answers (taking_order s frame) (taken_new s (piece_data_in frame)) lent
      (λ r left. TakesFrame s frame r left.map left.buffer)
  -- .. and of a piece that was read before: 7 (L), 12, 9, 10, 11
  pub takes_piece : (number l : ℕ) (lent : Lent) (x : PieceData) → let s = reception_in number l lent in
      Answers (taking_checks s x) (taken_new s x) lent (λ r left. Takes s x r left.map left.buffer)
  -- "Opening: 7, 12"
  pub opens : (l : ℕ) (lent : Lent)
      → Answers (opening_checks l lent.map lent.buffer) tt lent
      (λ r left. Opens l lent.map lent.buffer r left.map left.buffer)
  -- "Joining: 7 and 12 (each for either reception), 9, 11"
  pub joins : (number l : ℕ) (lent : Lent) (t : Reception) → let s = reception_in number l lent in
      Answers (joining_checks s t) (joined_new s t) lent (λ r left. Joins s t r left.map left.buffer)
  -- "Listing: 7, 12, 15"
  pub lists : (l : ℕ) (map : List ℕ) (place : ℕ)
      → Answers (listing_checks l map place) (hole_from l map place) nothing (λ r left. answer_of r ≡ listing l map place)
  -- "Writing a request: 2, 7, 12 (map), 15, 12 (target)"
  pub fills : (w : Wanted) (place : ℕ) (target : List ℕ)
      → Answers (fill_checks w place target) (record { count = length (holes_from w place); end = last_end place (holes_from w place) })
      target (Fills w place target)
  -- "A start request: 2, 12"
  pub starts : (head : Head) (number : ℕ) (target : List ℕ)
      → Answers (start_checks head target) tt target (Writes target (starting head number target))
  -- "Saving: 7, 12"
  pub saves : (s : Reception) (target : List ℕ)
      → Answers (saving_checks s target) (record_length s.length) target (Saves s target)
  -- "Loading: 13, 12"; reading a record alone has the first of them
  pub reads_record : (saved : List ℕ)
      → Answers (check (not (is_record saved)) 13 ∷ []) (recorded_in saved) nothing (λ r left. answer_of r ≡ read_record saved)
  pub loads : (saved : List ℕ) (lent : Lent)
      → Answers (loading_checks saved lent.map lent.buffer) (recorded_in saved) lent
      (λ r left. Loads saved lent.map lent.buffer r left.map left.buffer)
  -- An address alone: 2 where it is read, 2 and 12 where it is written. A head alone: the first five of "Order in a frame" where it is
  -- read, 2 (either address) and 12 where it is written. A file header alone: 8.
  pub reads_address : (role : Role) (s : List ℕ) (at : ℕ)
      → Answers (address_read_checks role s at) (address_at s at) nothing (λ r left. answer_of r ≡ read_address role s at)
  pub writes_address : (role : Role) (out : List ℕ) (at : ℕ) (a : Address)
      → Answers (address_write_checks role out at a) tt out (Writes out (write_address role out at a))
  pub reads_head : (protocol : ℕ) (frame : List ℕ)
      → Answers (head_checks protocol frame) (head_of frame) nothing (λ r left. answer_of r ≡ read_head protocol frame)
  pub writes_head : (out : List ℕ) (destination source : Address) (protocol : ℕ)
      → Answers (head_write_checks out destination source) tt out (Writes out (write_head out destination source protocol))
  pub reads_header : (s : List ℕ) (number : ℕ)
      → Answers (header_checks s number) (header_of s) nothing (λ r left. answer_of r ≡ read_header s number)
