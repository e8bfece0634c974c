-- The first demand, proved: one law for all operations, and for each the theorem of its order in its own crate.
-- Assumes nothing.
use mathlib.Core.Path.{◌≡◌, refl, sym, ap, ap₂, ◌∙◌}
use mathlib.Core.Bool.{Bool, true, not, ◌&&◌}
use mathlib.Core.Logic.{◌⊎◌, inl, inr}
use mathlib.Core.List.{List, [], ◌∷◌}
use Prim.Native.Nat.{ℕ, ◌≤◌}
use native.Mathlib.Omega.{arith}
use lib.Dec.{leb}
use borrow.Author.Tests.{leb-true}
use Rattle.std.specs.Prelude.{Result}
use Rattle.reason.specs.declared.Reason.{Reason}
use Rattle.reason.specs.Answer.{Answer, accepted, refused, telling, leaving, answer_of, Writes, WritesAndTells}
use Rattle.reason.specs.Order.{Check, check, first_of, First, NoneHolds, Exactly}
use Rattle.reason.proofs.Bools.{and_left, and_right}
use Rattle.reason.proofs.OrderLaws.{not_both, exactly, answered, accepted_only_if}
use Rattle.reason.proofs.Reasons.{answer_met}
use Rattle.ax25.specs.Address.{read_address, write_address}
use Rattle.ax25.specs.Head.{head_checks, read_head, write_head}
use Rattle.ax25.proofs.InOrder.{read_address_in_order, write_address_in_order, read_head_in_order, write_head_in_order}
use Rattle.header.specs.Header.{read_header}
use Rattle.header.proofs.InOrder.{read_header_in_order}
use Rattle.frame.specs.Piece.{piece_checks, read_piece}
use Rattle.frame.specs.Entry.{entry_checks, read_entry}
use Rattle.frame.proofs.InOrder.{read_piece_in_order, read_entry_in_order}
use Rattle.reception.specs.Reception.{Reception}
use Rattle.reception.specs.Adding.{Offer, of_piece, new_in, map_with, buffer_with, after, Adds}
use Rattle.reception.specs.Opening.{opening, opened_map, opened_buffer}
use Rattle.reception.specs.Taking.{taking}
use Rattle.reception.specs.Joining.{joining}
use Rattle.holes.specs.Listing.{listing}
use Rattle.reception.proofs.InOrder as piece
use Rattle.reception.proofs.InOrder.{open_in_order, join_in_order}
use Rattle.holes.proofs.InOrder.{list_in_order}
use Rattle.request.specs.Reading.{flags_allowed, asks_by, request_checks, read_request}
use Rattle.request.specs.Writing.{filling, starting}
use Rattle.request.proofs.InOrder.{read_request_in_order, read_flags_in_order, write_fill_in_order, write_start_in_order}
use Rattle.record.specs.Saving.{saving}
use Rattle.record.specs.Reading.{read_record}
use Rattle.record.specs.Loading.{loading, loaded_map, loaded_buffer}
use Rattle.record.proofs.InOrder.{save_in_order, load_in_order, read_record_in_order}
use Rattle.taking.specs.Taking.{piece_data_in, taking_order, taking_frame}
use Rattle.station.specs.Boundary.{code}
use Rattle.station.specs.Demand1.{last_reason, Answers, nothing, Demand1}
use Rattle.station.specs.Lent.{Lent, reception_in}

-- the order of taking a frame in
pub take_in_order : (s : Reception) (frame : List ℕ) → Exactly (taking_order s frame) (new_in s (of_piece (piece_data_in frame))) (taking_frame s frame)
unfolding taking_frame
take_in_order s frame = exactly (taking_order s frame) (new_in s (of_piece (piece_data_in frame)))

-- a reason holds first, or none holds
pub some_or_none : (checks : List Check) → ((n : ℕ) × First n checks) ⊎ NoneHolds checks
some_or_none checks = by (answered checks (tt {0}))
  where
    by : (first_of checks (tt {0}) ≡ accepted (tt {0})) ⊎ ((n : ℕ) × First n checks) → ((n : ℕ) × First n checks) ⊎ NoneHolds checks
    by (inl e) = inr (accepted_only_if checks (tt {0}) (tt {0}) e).0
    by (inr first) = inl first

-- each number of an order is one of the numbered reasons
abbrev pub in_table : List Check → Bool
in_table [] = true
in_table (check holds n ∷ checks) = (leb 1 n && leb n last_reason) && in_table checks

pub in_table_lem : (checks : List Check) → in_table checks ≡ true → (n : ℕ) → First n checks → (1 ≤ n) × (n ≤ last_reason)
in_table_lem [] t n x = elim x [ ]
in_table_lem (check holds m ∷ checks) t n (inl first) =
    let both = and_left (leb 1 m && leb m last_reason) (in_table checks) t in
    let low = leb-true 1 m (and_left (leb 1 m) (leb m last_reason) both) in
    let high = leb-true m last_reason (and_right (leb 1 m) (leb m last_reason) both) in
    let is : m ≡ n = first.1 in
    (omega (arith, low, is), omega (arith, high, is))
in_table_lem (check holds m ∷ checks) t n (inr later) = in_table_lem checks (and_right (leb 1 m && leb m last_reason) (in_table checks) t) n later.1

-- the law for all operations: by the definition's answer, that the promise gives it, and that a refusal leaves what was lent. There is an
-- answer, since the numbers of an order are those of reasons: a result with the answer's meaning, which meets the promise with what is left.
module _ {A L : Type 0} (checks : List Check) (value : A) (lent : L) (promise : Result A Reason → L → Type 0) (answer : Answer A)
    (table : in_table checks ≡ true) (order : Exactly checks value answer)
    (gives : (r : Result A Reason) (left : L) → promise r left → answer_of r ≡ answer)
    (keeps : (r : Result A Reason) (left : L) → promise r left → (n : ℕ) → answer ≡ refused n → left ≡ lent)
    (left : L) (meets : (r : Result A Reason) → answer_of r ≡ answer → promise r left) where
  some_answer : (r : Result A Reason) × (answer_of r ≡ answer)
  some_answer = answer_met answer (λ n e. in_table_lem checks table n (order.refuses_only_if n e))

  by_order : Answers checks value lent promise
  by_order = record {
    met = (some_answer.0, (left, meets some_answer.0 some_answer.1));
    answered = some_or_none checks;
    numbered = in_table_lem checks table;
    refuses_if = λ r left p n first. gives r left p ∙ order.refuses_if n first;
    refuses_only_if = λ r left p n e. order.refuses_only_if n (sym (gives r left p) ∙ e);
    accepts_if = λ r left p none. gives r left p ∙ order.accepts_if none;
    accepts_only_if = λ r left p a e. order.accepts_only_if a (sym (gives r left p) ∙ e);
    leaves = λ r left p n e. keeps r left p n (sym (gives r left p) ∙ e);
  }

-- a map and a buffer that a refusal leaves
both_kept : {A : Type 0} (answer : Answer A) (f g : A → List ℕ) (lent left : Lent) (n : ℕ) → answer ≡ refused n
    → left.map ≡ leaving f lent.map answer → left.buffer ≡ leaving g lent.buffer answer → left ≡ lent
both_kept answer f g lent left n e m b =
    ap₂ (λ (x y : List ℕ). record { map = x; buffer = y }) (m ∙ ap (leaving f lent.map) e) (b ∙ ap (leaving g lent.buffer) e)

-- .. in adding an offer
adds : (number l : ℕ) (lent : Lent) (o : Offer) (checks : List Check) (value : ℕ) (answer : Answer ℕ) → in_table checks ≡ true
    → Exactly checks value answer
    → let s = reception_in number l lent in Answers checks value lent (λ r left. Adds s o answer r left.map left.buffer)
adds number l lent o checks value answer table order =
    let s = reception_in number l lent in
    by_order checks value lent (λ r left. Adds s o answer r left.map left.buffer) answer table order (λ r left p. p.answers)
    (λ r left p n e. both_kept answer (λ k. map_with s o) (λ k. buffer_with s o) lent left n e p.leaves_map p.leaves_buffer)
    (record { map = (after s o answer).map; buffer = (after s o answer).buffer })
    (λ r e. record { answers = e; leaves_map = refl; leaves_buffer = refl })

-- .. and one list, which a writer that tells values leaves
writes_and_tells : {A : Type 0} (checks : List Check) (value : A) (target : List ℕ) (answer : Answer A) (made : A → List ℕ)
    → in_table checks ≡ true → Exactly checks value answer
    → Answers checks value target (λ r left. WritesAndTells target answer made (answer_of r) left)
writes_and_tells checks value target answer made table order =
    by_order checks value target (λ r left. WritesAndTells target answer made (answer_of r) left) answer table order (λ r left p. p.answers)
    (λ r left p n e. p.bytes ∙ ap (leaving made target) e) (leaving made target answer) (λ r e. record { answers = e; bytes = refl })

-- the order of a writer that has nothing to tell
done_in_order : {A : Type 0} (checks : List Check) (value : A) (answer : Answer A) → Exactly checks value answer
    → Exactly checks (tt {0}) (telling (λ a. tt {0}) answer)
done_in_order {A} checks value answer order = record {
  refuses_if = λ n first. ap (telling (λ a. tt {0})) (order.refuses_if n first);
  refuses_only_if = λ n e. order.refuses_only_if n (refuses answer n e);
  accepts_if = λ none. ap (telling (λ a. tt {0})) (order.accepts_if none);
  accepts_only_if = λ u e. (accepts answer refl e, refl);
}
  where
    refuses : (x : Answer A) (n : ℕ) → telling (λ a. tt {0}) x ≡ refused n → x ≡ refused n
    refuses (accepted a) n e = absurd (not_both (tt {0}) n refl e)
    refuses (refused m) n e = ap refused (ap code e)

    accepts : (x : Answer A) {u : Unit {0}} → answer ≡ x → telling (λ a. tt {0}) x ≡ accepted u → NoneHolds checks
    accepts (accepted a) is e = (order.accepts_only_if a is).0
    accepts (refused m) {u} is e = absurd (not_both u m e refl)

-- .. and what it leaves
writes : (checks : List Check) (value target : List ℕ) (made : Answer (List ℕ)) → in_table checks ≡ true → Exactly checks value made
    → Answers checks (tt {0}) target (Writes target made)
writes checks value target made table order =
    by_order checks (tt {0}) target (Writes target made) (telling (λ left. tt {0}) made) table (done_in_order checks value made order)
    (λ r left p. p.answers) (λ r left p n e. p.bytes ∙ kept made n e)
    (leaving (λ left. left) target made) (λ r e. record { answers = e; bytes = refl })
  where
    kept : (x : Answer (List ℕ)) (n : ℕ) → telling (λ left. tt {0}) x ≡ refused n → leaving (λ left. left) target x ≡ target
    kept (accepted a) n e = absurd (not_both (tt {0}) n refl e)
    kept (refused m) n e = refl

-- an operation that only reads
reads : {A : Type 0} (checks : List Check) (value : A) (answer : Answer A) → in_table checks ≡ true → Exactly checks value answer
    → Answers checks value nothing (λ r left. answer_of r ≡ answer)
reads checks value answer table order =
    by_order checks value nothing (λ r left. answer_of r ≡ answer) answer table order (λ r left p. p) (λ r left p n e. refl) nothing (λ r e. e)

-- ---- each operation
pub demand_1 : Demand1
unfolding head_checks piece_checks entry_checks request_checks
demand_1 = record {
  reads_piece = λ frame. reads _ _ (read_piece frame) refl (read_piece_in_order frame);
  reads_entry = λ frame. reads _ _ (read_entry frame) refl (read_entry_in_order frame);
  reads_request = λ frame. reads _ _ (read_request frame) refl (read_request_in_order frame);
  reads_flags = λ flags. reads _ _ (first_of (check (not (flags_allowed flags)) 5 ∷ []) (asks_by flags)) refl (read_flags_in_order flags);
  takes = λ number l lent frame. let s = reception_in number l lent in adds number l lent _ _ _ (taking_frame s frame) refl (take_in_order s frame);
  takes_piece = λ number l lent x. let s = reception_in number l lent in adds number l lent _ _ _ (taking s x) refl (piece.take_in_order s x);
  opens = λ l lent. let answer = opening l lent.map lent.buffer in
      by_order _ _ lent _ answer refl (open_in_order l lent.map lent.buffer) (λ r left p. p.answers)
      (λ r left p n e. both_kept answer _ _ lent left n e p.leaves_map p.leaves_buffer)
      (record {
        map = leaving (λ u. opened_map l lent.map) lent.map answer;
        buffer = leaving (λ u. opened_buffer l lent.buffer) lent.buffer answer;
      })
      (λ r e. record { answers = e; leaves_map = refl; leaves_buffer = refl });
  joins = λ number l lent t. let s = reception_in number l lent in adds number l lent _ _ _ (joining s t) refl (join_in_order s t);
  lists = λ l map place. reads _ _ (listing l map place) refl (list_in_order l map place);
  fills = λ w place target. writes_and_tells _ _ target (filling w place target) _ refl (write_fill_in_order w place target);
  starts = λ head number target. writes _ _ target (starting head number target) refl (write_start_in_order head number target);
  saves = λ s target. writes_and_tells _ _ target (saving s target) _ refl (save_in_order s target);
  reads_record = λ saved. reads _ _ (read_record saved) refl (read_record_in_order saved);
  loads = λ saved lent. let answer = loading saved lent.map lent.buffer in
      by_order _ _ lent _ answer refl (load_in_order saved lent.map lent.buffer) (λ r left p. p.answers)
      (λ r left p n e. both_kept answer _ _ lent left n e p.leaves_map p.leaves_buffer)
      (record {
        map = leaving (λ x. loaded_map saved lent.map) lent.map answer;
        buffer = leaving (λ x. loaded_buffer saved lent.buffer) lent.buffer answer;
      })
      (λ r e. record { answers = e; leaves_map = refl; leaves_buffer = refl });
  reads_address = λ role s at. reads _ _ (read_address role s at) refl (read_address_in_order role s at);
  writes_address = λ role out at a. writes _ _ out (write_address role out at a) refl (write_address_in_order role out at a);
  reads_head = λ protocol frame. reads _ _ (read_head protocol frame) refl (read_head_in_order protocol frame);
  writes_head = λ out destination source protocol. writes _ _ out (write_head out destination source protocol) refl
      (write_head_in_order out destination source protocol);
  reads_header = λ s number. reads _ _ (read_header s number) refl (read_header_in_order s number);
}
