-- Demand 1 at the boundary to a host program: a function returns 0 exactly if no reason holds, and else the number of the reason that
-- holds first; then every number and every byte that it was lent is as it was.
-- Assumes nothing.
use Rattle.std.specs.Prelude.{◌≡◌, true, false, List, ℕ, suc, ◌*◌, ◌^◌, ◌≤◌, get_or, take, drop}
use Rattle.reason.specs.Order.{Check, First, NoneHolds}
use Rattle.ax25.specs.declared.Address.{Address}
use Rattle.ax25.specs.declared.Head.{Head}
use Rattle.ax25.specs.Address.{is_writable}
use Rattle.header.specs.Header.{header_checks}
use Rattle.frame.specs.Piece.{piece_order, piece_bytes}
use Rattle.frame.specs.Entry.{entry_order, header_bytes}
use Rattle.holes.specs.declared.Hole.{Hole}
use Rattle.reception.specs.Reception.{Reception}
use Rattle.reception.specs.Opening.{opening_checks, opened}
use Rattle.reception.specs.Joining.{joining_checks, joined}
use Rattle.holes.specs.Listing.{listing_checks}
use Rattle.request.specs.Reading.{request_order}
use Rattle.request.specs.Writing.{Wanted, fill_checks, start_checks}
use Rattle.record.specs.Record.{record_of}
use Rattle.record.specs.Saving.{saving_checks}
use Rattle.record.specs.Loading.{loading_checks, loaded}
use Rattle.taking.specs.Taking.{taking_order, taken_frame}
use Rattle.station.specs.AddressNumber.{address_number, address_of}
use Rattle.station.specs.Lent.{Lent, reception_in}
use Rattle.station.specs.Demand1.{last_reason}
use Rattle.station.specs.Exports as out
use Rattle.station.specs.FrameExports.{PieceOut, EntryTold, EntryOut, HeaderTold, HeaderOut}
use Rattle.station.specs.RequestExports.{WrittenRequest, FillsOut, StartsOut, RequestOut, HoleOut}

-- One function, for one input: `checks` are the reasons of its operation in their order, and `promise r left` is its promise, r being
-- what it returns and `left` what it leaves of what it was lent.
pub record Returns {L : Type 0} (checks : List Check) (lent : L) (promise : ℕ → L → Type 0) : Type 0 where
  -- every input gets an answer: there is one that meets the promise
  pub met : (r : ℕ) × ((left : L) × promise r left)
  pub zero_if : (r : ℕ) (left : L) → promise r left → NoneHolds checks → r ≡ 0
  pub zero_only_if : (r : ℕ) (left : L) → promise r left → r ≡ 0 → NoneHolds checks
  pub reason_if : (r : ℕ) (left : L) → promise r left → (n : ℕ) → First n checks → r ≡ n
  pub reason_only_if : (r : ℕ) (left : L) → promise r left → (n : ℕ) → r ≡ suc n → First (suc n) checks
  -- what is returned is 0 or one of the numbered reasons
  pub numbered : (r : ℕ) (left : L) → promise r left → r ≤ last_reason
  pub leaves : (r : ℕ) (left : L) → promise r left → (n : ℕ) → r ≡ suc n → left ≡ lent

-- Every function of the boundary that can refuse; and what else is known there.
pub record AtBoundary : Type 0 where
  pub station_open : (l : ℕ) (lent : Lent) → Returns (opening_checks l lent.map lent.buffer) lent (out.OpensOut l lent)
  pub station_take : (number l : ℕ) (frame : List ℕ) (lent : out.Counted)
      → Returns (taking_order (out.lent_to number l lent) frame) lent (out.TakesOut number l frame lent)
  pub station_join : (number l : ℕ) (t : Reception) (lent : out.Counted)
      → Returns (joining_checks (out.lent_to number l lent) t) lent (out.JoinsOut number l t lent)
  pub station_list : (l : ℕ) (map : List ℕ) (place : ℕ) (lent : Hole) → Returns (listing_checks l map place) lent (out.ListsOut l map place lent)
  pub station_save : (s : Reception) (lent : out.Sized) → Returns (saving_checks s lent.target) lent (out.SavesOut s lent)
  pub station_load : (saved : List ℕ) (lent : Reception) → Returns (loading_checks saved lent.map lent.buffer) lent (out.LoadsOut saved lent)
  pub station_piece : (frame lent : List ℕ) → Returns (piece_order frame) lent (PieceOut frame lent)
  pub station_entry : (frame : List ℕ) (lent : EntryTold) → Returns (entry_order frame) lent (EntryOut frame lent)
  pub station_header : (bytes : List ℕ) (number : ℕ) (lent : HeaderTold) → Returns (header_checks bytes number) lent (HeaderOut bytes number lent)
  pub station_write_fill : (w : Wanted) (place : ℕ) (lent : WrittenRequest)
      → Returns (fill_checks w place lent.target) lent (FillsOut w place lent)
  pub station_write_start : (head : Head) (number : ℕ) (lent : List ℕ) → Returns (start_checks head lent) lent (StartsOut head number lent)
  pub station_read_request : (frame lent : List ℕ) → Returns (request_order frame) lent (RequestOut frame lent)
  pub station_hole : (frame : List ℕ) (index : ℕ) (lent : Hole) → Returns (request_order frame) lent (HoleOut frame index lent)
  -- Demand 3 is about what these leave: `station_open` and `station_load` where they return 0, `station_take` and `station_join` whatever they
  -- return; and the first bytes of the target of `station_save`, as many as it tells, are the record
  pub opens_it : (number l : ℕ) (lent left : Lent) (r : ℕ) → out.OpensOut l lent r left → r ≡ 0
      → reception_in number l left ≡ opened number l lent.map lent.buffer
  pub takes_in : (number l : ℕ) (frame : List ℕ) (lent left : out.Counted) (r : ℕ) → out.TakesOut number l frame lent r left
      → out.lent_to number l left ≡ taken_frame (out.lent_to number l lent) frame
  pub joins_in : (number l : ℕ) (t : Reception) (lent left : out.Counted) (r : ℕ) → out.JoinsOut number l t lent r left
      → out.lent_to number l left ≡ joined (out.lent_to number l lent) t
  pub saves_it : (s : Reception) (lent left : out.Sized) (r : ℕ) → out.SavesOut s lent r left → r ≡ 0 → take left.size left.target ≡ record_of s
  pub loads_it : (saved : List ℕ) (lent left : Reception) (r : ℕ) → out.LoadsOut saved lent r left → r ≡ 0
      → left ≡ loaded saved lent.map lent.buffer
  -- where the bytes of a piece and the header of an entry are told to stand, there they stand: what `piece_bytes` and `header_bytes` hand out
  pub piece_stands_there : (frame lent left : List ℕ) (r : ℕ) → PieceOut frame lent r left → r ≡ 0
      → take (get_or left 6 0) (drop (get_or left 5 0) frame) ≡ piece_bytes frame
  pub header_stands_there : (frame : List ℕ) (lent left : EntryTold) (r : ℕ) → EntryOut frame lent r left → r ≡ 0
      → take (get_or left.told 8 0) (drop (get_or left.told 7 0) frame) ≡ header_bytes frame
  -- an address that can be written is told back by its number; a number whose eighth byte, the bit, is above 1 tells none that can be written
  pub address_told_back : (a : Address) → is_writable a ≡ true → address_of (address_number a) ≡ a
  pub too_large_a_number : (n : ℕ) → 2 * 256 ^ 7 ≤ n → is_writable (address_of n) ≡ false
