-- Demand 1 at the boundary, proved: one law for all functions, and for each the theorem of its operation's order.
-- Assumes nothing.
use mathlib.Core.Path.{◌≡◌, refl, sym, ap, ◌∙◌}
use mathlib.Core.Bool.{true, false, and-false}
use mathlib.Core.Logic.{◌⊎◌, inl, inr}
use mathlib.Core.List.{List, [], ◌∷◌}
use Prim.Native.Nat.{ℕ, zero, suc, ◌+◌, ◌-◌, ◌*◌, ◌/◌, ◌^◌, ◌≤◌}
use native.Mathlib.Omega.{arith}
use lib.ListN.{length, get_or, take, drop}
use lib.Seq.{drop-drop}
use borrow.Author.Tests.{le-ltb}
use Rattle.reason.specs.Answer.{Answer, accepted, refused, leaving}
use Rattle.reason.specs.Order.{Check, First, NoneHolds, Exactly}
use Rattle.ax25.specs.Address.{is_writable}
use Rattle.ax25.specs.Head.{head_checks}
use Rattle.ax25.specs.Information.{information_of}
use Rattle.header.specs.Header.{header_checks}
use Rattle.header.proofs.InOrder.{read_header_in_order}
use Rattle.frame.specs.declared.Piece.{Piece}
use Rattle.frame.specs.declared.Entry.{Entry}
use Rattle.frame.specs.Piece.{piece_checks, piece_order, piece_bytes_read}
use Rattle.frame.specs.Entry.{entry_checks, entry_order, header_bytes_read}
use Rattle.frame.proofs.InOrder.{read_piece_in_order, read_entry_in_order}
use Rattle.reception.specs.Adding.{Offer, of_piece, of_reception, after}
use Rattle.reception.specs.Opening.{opening_checks}
use Rattle.reception.specs.Joining.{joining_checks, joining}
use Rattle.holes.specs.Listing.{listing_checks}
use Rattle.reception.proofs.InOrder.{open_in_order, join_in_order}
use Rattle.holes.proofs.InOrder.{list_in_order}
use Rattle.request.specs.Reading.{request_checks, request_order}
use Rattle.request.specs.Writing.{fill_checks, start_checks}
use Rattle.request.proofs.InOrder.{read_request_in_order, write_fill_in_order, write_start_in_order}
use Rattle.record.specs.Saving.{saving_checks}
use Rattle.record.specs.Loading.{loading_checks}
use Rattle.record.proofs.GivenAnswers.{room_to_save}
use Rattle.record.proofs.RoundTrip.{record_stands}
use Rattle.record.proofs.InOrder.{save_in_order, load_in_order}
use Rattle.taking.specs.Taking.{piece_data_in, taking_order, taking_frame}
use Rattle.station.specs.Lent.{reception_in}
use Rattle.station.specs.AddressNumber.{address_of}
use Rattle.station.specs.Boundary.{code, Exported}
use Rattle.station.specs.Demand1.{last_reason}
use Rattle.station.specs.Exports as out
use Rattle.station.specs.FrameExports.{EntryTold}
use Rattle.station.specs.AtBoundary.{Returns, AtBoundary}
use Rattle.station.proofs.AddressLaws.{address_back}
use Rattle.station.proofs.Demand1.{some_or_none, in_table, in_table_lem, take_in_order}

module _ {A L : Type 0} (checks : List Check) (value : A) (answer : Answer A) (made : A → L) (lent : L) (table : in_table checks ≡ true)
    (order : Exactly checks value answer) where
  -- what is returned where a reason holds first, and where none does
  reason : (n : ℕ) → First n checks → code answer ≡ n
  reason n first = ap code (order.refuses_if n first)

  none : NoneHolds checks → code answer ≡ 0
  none holds = ap code (order.accepts_if holds)

  none_held : code answer ≡ 0 → NoneHolds checks
  none_held e = by (some_or_none checks)
    where
      by : ((n : ℕ) × First n checks) ⊎ NoneHolds checks → NoneHolds checks
      by (inl first) = absurd (omega (arith, reason first.0 first.1, e, (in_table_lem checks table first.0 first.1).0))
      by (inr holds) = holds

  refuses : (n : ℕ) → code answer ≡ suc n → answer ≡ refused (suc n)
  refuses n = by answer
    where
      by : (x : Answer A) → code x ≡ suc n → x ≡ refused (suc n)
      by (accepted a) e = absurd (omega (arith, e))
      by (refused m) e = ap refused e

  most : code answer ≤ last_reason
  most = by (some_or_none checks)
    where
      by : ((n : ℕ) × First n checks) ⊎ NoneHolds checks → code answer ≤ last_reason
      by (inl first) = omega (arith, reason first.0 first.1, (in_table_lem checks table first.0 first.1).1)
      by (inr holds) = omega (arith, none holds)

  returns : Returns checks lent (Exported answer made lent)
  returns = record {
    met = (code answer, (leaving made lent answer, record { returns = refl; leaves = refl }));
    zero_if = λ r left p holds. p.returns ∙ none holds;
    zero_only_if = λ r left p e. none_held (sym p.returns ∙ e);
    reason_if = λ r left p n first. p.returns ∙ reason n first;
    reason_only_if = λ r left p n e. order.refuses_only_if (suc n) (refuses n (sym p.returns ∙ e));
    numbered = λ r left p. omega (arith, p.returns, most);
    leaves = λ r left p n e. p.leaves ∙ ap (leaving made lent) (refuses n (sym p.returns ∙ e));
  }

  -- where 0 is returned, what is left is what the accepted values make
  told : (r : ℕ) (left : L) → Exported answer made lent r left → r ≡ 0 → (answer ≡ accepted value) × (left ≡ made value)
  told r left p e = let a = order.accepts_if (none_held (sym p.returns ∙ e)) in (a, p.leaves ∙ ap (leaving made lent) a)

-- as many bytes as a front has are that front
front_again : (n : ℕ) (s : List ℕ) → take (length (take n s)) s ≡ take n s
front_again zero s = refl
front_again (suc n) [] = refl
front_again (suc n) (b ∷ s) = ap (λ (r : List ℕ). b ∷ r) (front_again n s)

-- a part of the information, between the bytes before it and the check, stands in the frame where it is told to
stands_there : (before : ℕ) (frame : List ℕ) → let i = information_of frame in let part = take (length i - 2 - before) (drop before i) in
    take (length part) (drop (16 + before) frame) ≡ part
stands_there before frame =
    let i = information_of frame in
    let part = take (length i - 2 - before) (drop before i) in
    ap (take (length part)) (sym (drop-drop before 16 frame)) ∙ front_again (length i - 2 - before) (drop before i)

-- what is left after an answer, as a reception
counted_after : (number l : ℕ) (lent left : out.Counted) (o : Offer) (x : Answer ℕ) → left ≡ leaving (out.counted_with (out.lent_to number l lent) o) lent x
    → out.lent_to number l left ≡ after (out.lent_to number l lent) o x
counted_after number l lent left o (accepted n) e = ap (out.lent_to number l) e
counted_after number l lent left o (refused n) e = ap (out.lent_to number l) e

-- its eighth byte is bit 7, and then above 1
too_large : (n : ℕ) → 2 * 256 ^ 7 ≤ n → is_writable (address_of n) ≡ false
unfolding is_writable address_of
too_large n h = let top : 2 ≤ n / 256 ^ 7 = omega arith in simp (le-ltb (n / 256 ^ 7) 2 top, and-false)

pub at_boundary : AtBoundary
unfolding head_checks piece_checks entry_checks request_checks
at_boundary = record {
  station_open = λ l lent. returns (opening_checks l lent.map lent.buffer) _ _ _ lent refl (open_in_order l lent.map lent.buffer);
  station_take = λ number l frame lent. let s = out.lent_to number l lent in returns (taking_order s frame) _ _ _ lent refl (take_in_order s frame);
  station_join = λ number l t lent. let s = out.lent_to number l lent in returns (joining_checks s t) _ _ _ lent refl (join_in_order s t);
  station_list = λ l map place lent. returns (listing_checks l map place) _ _ _ lent refl (list_in_order l map place);
  station_save = λ s lent. returns (saving_checks s lent.target) _ _ _ lent refl (save_in_order s lent.target);
  station_load = λ saved lent. returns (loading_checks saved lent.map lent.buffer) _ _ _ lent refl
      (load_in_order saved lent.map lent.buffer);
  station_piece = λ frame lent. returns (piece_order frame) _ _ _ lent refl (read_piece_in_order frame);
  station_entry = λ frame lent. returns (entry_order frame) _ _ _ lent refl (read_entry_in_order frame);
  station_header = λ bytes number lent. returns (header_checks bytes number) _ _ _ lent refl (read_header_in_order bytes number);
  station_write_fill = λ w place lent. returns (fill_checks w place lent.target) _ _ _ lent refl (write_fill_in_order w place lent.target);
  station_write_start = λ head number lent. returns (start_checks head lent) _ _ _ lent refl (write_start_in_order head number lent);
  station_read_request = λ frame lent. returns (request_order frame) _ _ _ lent refl (read_request_in_order frame);
  station_hole = λ frame index lent. returns (request_order frame) _ _ _ lent refl (read_request_in_order frame);
  opens_it = λ number l lent left r p e.
      ap (reception_in number l) (told (opening_checks l lent.map lent.buffer) _ _ _ lent refl (open_in_order l lent.map lent.buffer) r left p e).1;
  takes_in = λ number l frame lent left r p.
      counted_after number l lent left (of_piece (piece_data_in frame)) (taking_frame (out.lent_to number l lent) frame) p.leaves;
  joins_in = λ number l t lent left r p.
      counted_after number l lent left (of_reception t) (joining (out.lent_to number l lent) t) p.leaves;
  saves_it = λ s lent left r p e.
      let is = told (saving_checks s lent.target) _ _ _ lent refl (save_in_order s lent.target) r left p e in
      ap (λ (x : out.Sized). take x.size x.target) is.1
      ∙ record_stands s lent.target (room_to_save s.length s.map s.buffer lent.target ((save_in_order s lent.target).accepts_only_if _ is.0).0.1.0).2;
  loads_it = λ saved lent left r p e.
      (told (loading_checks saved lent.map lent.buffer) _ _ _ lent refl (load_in_order saved lent.map lent.buffer) r left p e).1;
  piece_stands_there = λ frame lent left r p e.
      let is = told (piece_order frame) _ _ _ lent refl (read_piece_in_order frame) r left p e in
      ap (λ (x : List ℕ). take (get_or x 6 0) (drop (get_or x 5 0) frame)) is.1
      ∙ stands_there 9 frame
      ∙ sym (ap (λ (x : Answer Piece). piece_bytes_read x frame) is.0);
  header_stands_there = λ frame lent left r p e.
      let is = told (entry_order frame) _ _ _ lent refl (read_entry_in_order frame) r left p e in
      ap (λ (x : EntryTold). take (get_or x.told 8 0) (drop (get_or x.told 7 0) frame)) is.1
      ∙ stands_there 17 frame
      ∙ sym (ap (λ (x : Answer Entry). header_bytes_read x frame) is.0);
  address_told_back = address_back;
  too_large_a_number = too_large;
}
