-- What an accepted frame says: its fields are its bytes at their places, counted from 0 in the whole frame (demand 2).
-- Assumes nothing.
use mathlib.Core.Path.{◌≡◌, sym, ap, ap₂, ◌∙◌}
use mathlib.Core.Bool.{Bool, true, false, not, ◌&&◌, ◌||◌, or-true, false≢true}
use mathlib.Core.List.{List, [], ◌∷◌}
use mathlib.Core.Logic.{inl, inr, ⊎_elim}
use Prim.Native.Nat.{ℕ, ◌+◌, ◌-◌, ◌/◌, ◌%◌, ◌≤◌, ◌<◌}
use native.Mathlib.Omega.{arith}
use lib.Dec.{eqb}
use lib.ListN.{length, drop, length-drop}
use lib.Seq.{get_or-drop, length-take-le}
use borrow.Author.Tests.{ltb-false, eqb-true, eqb-false, eq-eqb, not-false}
use Rattle.reason.specs.Answer.{Answer, accepted, refused}
use Rattle.reason.specs.Order.{Check, check, First}
use Rattle.reason.proofs.Bools.{and_left, and_right, and_both, le_or_lt}
use Rattle.reason.proofs.OrderLaws.{accepted_only_if, accepted_then, both_accept}
use Rattle.octets.specs.Numbers.{byte_at, number_at}
use Rattle.octets.proofs.NumberLaws.{number_drop}
use Rattle.remainder.specs.Check.{check_length}
use Rattle.ax25.specs.Head.{head_length, head_checks, head_of}
use Rattle.ax25.proofs.HeadLaws.{head_says}
use Rattle.header.specs.Header.{header_length, header_of, keeps_rules}
use Rattle.header.specs.Rules.{Rules}
use Rattle.header.proofs.RulesKept.{kept}
use Rattle.header.proofs.HeaderLaws.{reads_header, told_size}
use Rattle.header.proofs.Says.{header_says}
use Rattle.frame.specs.declared.Piece.{Piece}
use Rattle.frame.specs.declared.Entry.{Entry}
use Rattle.ax25.specs.Information.{file_protocol, directory_protocol, information_of}
use Rattle.frame.specs.Piece.{before_data, piece_checks, piece_fields, piece_of, read_piece, data_part, piece_bytes, piece_bytes_read}
use Rattle.frame.specs.Entry.{before_header, flags_allowed, header_whole, header_part, header_right, entry_checks, entry_fields, entry_order, entry_of, read_entry, header_bytes_read, header_bytes}
use Rattle.frame.specs.Says.{PieceSays, EntrySays, EntryRules}
use Rattle.frame.proofs.EntryLaws.{reads_entry}
use Rattle.frame.proofs.InOrder.{read_entry_in_order}

-- a byte and a number of the information, at their places in the frame
byte_in : (frame : List ℕ) (at : ℕ) → byte_at (information_of frame) at ≡ byte_at frame (head_length + at)
byte_in frame at = get_or-drop head_length frame at 0

number_in : (n : ℕ) (frame : List ℕ) (at : ℕ) → number_at n (information_of frame) at ≡ number_at n frame (head_length + at)
number_in n frame at = number_drop n head_length frame at

at_least : (n m : ℕ) → n ≡ m - 16 → 11 ≤ n → (n ≡ 11 → ⊥) → 28 ≤ m
at_least n m e l d = ⊎_elim (λ (h : 12 ≤ n). omega arith) (λ (h : n < 12). absurd (d (omega arith))) (le_or_lt 12 n)

-- an accepted piece
pub piece_says : (frame : List ℕ) (p : Piece) → read_piece frame ≡ accepted p → PieceSays frame p
unfolding read_piece piece_checks piece_fields
piece_says frame p e =
    let s = information_of frame in
    let two = both_accept (head_checks file_protocol frame) (piece_checks s) (head_of frame) (piece_of frame) p e in
    let all = accepted_only_if (piece_checks s) (piece_of frame) p two.1 in
    let none = all.0 in
    let is : p ≡ piece_of frame = all.1 in
    let head = head_says file_protocol frame (head_of frame) two.0 in
    let long : before_data + check_length ≤ length s = ltb-false (length s) (before_data + check_length) none.0 in
    let more : length s ≡ before_data + check_length → ⊥ = eqb-false (length s) (before_data + check_length) none.1.1.1.0 in
    let all_of_it : length s ≡ length frame - 16 = length-drop 16 frame in
    let bytes : piece_bytes frame ≡ data_part s = ap (λ (r : Answer Piece). piece_bytes_read r frame) e in
    let part : length (data_part s) ≡ length s - 2 - 9 = length-take-le (length s - 2 - 9) (drop 9 s) (omega (arith, length-drop 9 s)) in
    let size : length (piece_bytes frame) ≡ length s - 2 - 9 = ap length bytes ∙ part in
    let least : 28 ≤ length frame = at_least (length s) (length frame) all_of_it long more in
    record {
      is = is;
      head_read = rw is two.0;
      head = rw is head;
      flags = sym (byte_in frame 0) ∙ eqb-true _ _ (not-false _ none.1.1.0);
      number = ap (λ (q : Piece). q.number) is ∙ number_in 4 frame 1;
      kind = ap (λ (q : Piece). q.kind) is ∙ byte_in frame 5;
      offset = ap (λ (q : Piece). q.offset) is ∙ number_in 3 frame 6;
      checked = not-false _ none.1.0;
      bytes = bytes;
      size = omega arith;
      some = omega arith;
      most = omega (arith, head.short);
    }

-- an accepted directory entry
pub entry_says : (frame : List ℕ) (e : Entry) → read_entry frame ≡ accepted e → EntrySays frame e
unfolding read_entry entry_checks entry_fields
entry_says frame e r =
    let s = information_of frame in
    let two = both_accept (head_checks directory_protocol frame) (entry_checks s) (head_of frame) (entry_of frame) e r in
    let all = accepted_only_if (entry_checks s) (entry_of frame) e two.1 in
    let none = all.0 in
    let is : e ≡ entry_of frame = all.1 in
    let f = byte_at s 0 in
    let flagged : flags_allowed f ≡ true = not-false (flags_allowed f) none.1.1.0 in
    let whole : header_whole f (number_at 4 s 5) ≡ true = not-false (header_whole f (number_at 4 s 5)) none.1.1.1.0 in
    let right : header_right s ≡ true = not-false (header_right s) none.1.1.1.1.0 in
    let k = keeps_rules (header_part s) (number_at 4 s 1) in
    let a = eqb (header_length (header_part s)) (length (header_part s)) in
    let part : header_bytes frame ≡ header_part s = ap (λ (x : Answer Entry). header_bytes_read x frame) r in
    rw is (record {
      head = head_says directory_protocol frame (head_of frame) two.0;
      flags = byte_in frame 0;
      allowed = (eqb-true (f % 32) 0 (and_left (eqb (f % 32) 0) (eqb (f / 128) 0) flagged), eqb-true (f / 128) 0 (and_right (eqb (f % 32) 0) (eqb (f / 128) 0) flagged));
      whole = (eqb-true (f / 32 % 2) 1 (and_left (eqb (f / 32 % 2) 1) (eqb (number_at 4 s 5) 0) whole), eqb-true (number_at 4 s 5) 0 (and_right (eqb (f / 32 % 2) 1) (eqb (number_at 4 s 5) 0) whole));
      number = number_in 4 frame 1;
      offset = number_in 4 frame 5;
      old = number_in 4 frame 9;
      new = number_in 4 frame 13;
      checked = not-false _ none.1.0;
      bytes = part;
      header = rw part (header_says (header_part s) (number_at 4 s 1) (header_of (header_part s)) (reads_header (header_part s) (number_at 4 s 1) (and_left k a right)));
      alone = told_size (header_part s) ∙ eqb-true _ _ (and_right k a right) ∙ ap length (sym part);
    })

-- No frame is both: the protocol tells a piece and an entry apart. (A piece and a request share the protocol; there the flags do:
-- a piece's are 02.)
pub not_piece_and_entry : (frame : List ℕ) (p : Piece) (e : Entry) → read_piece frame ≡ accepted p → read_entry frame ≡ accepted e → ⊥
not_piece_and_entry frame p e x y = omega (arith, (piece_says frame p x).head.of_protocol, (entry_says frame e y).head.of_protocol)

-- one of the checks with a number holds
abbrev any_with : ℕ → List Check → Bool
any_with n [] = false
any_with n (check b m ∷ checks) = eqb m n && b || any_with n checks

first_any : (n : ℕ) (checks : List Check) → First n checks → any_with n checks ≡ true
first_any n [] f = elim f [ ]
first_any n (check b m ∷ checks) (inl f) =
    ap₂ (λ (x y : Bool). x && y || any_with n checks) (eq-eqb m n f.1) f.0
first_any n (check b m ∷ checks) (inr f) = ap (λ (x : Bool). eqb m n && b || x) (first_any n checks f.1) ∙ or-true (eqb m n && b)

eight_is : (frame : List ℕ) → read_entry frame ≡ refused 8 → (not (header_right (information_of frame)) || false) ≡ true
unfolding head_checks entry_checks
eight_is frame e = first_any 8 (entry_order frame) ((read_entry_in_order frame).refuses_only_if 8 e)

-- An entry is refused 8 only where its header breaks a rule, or something follows it.
pub eight_says : (frame : List ℕ) → read_entry frame ≡ refused 8
    → Rules (header_part (information_of frame)) (number_at 4 (information_of frame) 1)
    → header_length (header_part (information_of frame)) ≡ length (header_part (information_of frame)) → ⊥
eight_says frame e r l =
    let i = information_of frame in
    let h : header_right i ≡ true = ap₂ ◌&&◌ (kept (header_part i) (number_at 4 i 1) r) (eq-eqb (header_length (header_part i)) (length (header_part i)) l) in
    false≢true (sym (ap (λ (b : Bool). not b || false) h) ∙ eight_is frame e)

-- An entry that keeps every rule is accepted, with its fields ..
pub entry_is_read : (frame : List ℕ) → EntryRules frame → read_entry frame ≡ accepted (entry_of frame)
unfolding read_entry
entry_is_read frame k =
    let i = information_of frame in
    let flags : byte_at i 0 ≡ byte_at frame 16 = byte_in frame 0 in
    let number : number_at 4 i 1 ≡ number_at 4 frame 17 = number_in 4 frame 1 in
    let offset : number_at 4 i 5 ≡ number_at 4 frame 21 = number_in 4 frame 5 in
    accepted_then (head_checks directory_protocol frame) (entry_checks i) (head_of frame) (head_of frame) (entry_of frame) k.headed
    ∙ reads_entry i (entry_of frame) (omega (arith, length-drop 16 frame, k.long)) k.checked
    (ap flags_allowed flags ∙ and_both _ _ (eq-eqb (byte_at frame 16 % 32) 0 k.allowed.0) (eq-eqb (byte_at frame 16 / 128) 0 k.allowed.1))
    (ap₂ header_whole flags offset ∙ and_both _ _ (eq-eqb (byte_at frame 16 / 32 % 2) 1 k.whole.0) (eq-eqb (number_at 4 frame 21) 0 k.whole.1))
    (ap₂ ◌&&◌ (ap (keeps_rules (header_part i)) number ∙ kept (header_part i) (number_at 4 frame 17) k.ruled)
    (eq-eqb (header_length (header_part i)) (length (header_part i)) k.alone))

-- .. and every accepted entry keeps them.
pub accepted_entry_keeps : (frame : List ℕ) (e : Entry) → read_entry frame ≡ accepted e → EntryRules frame
unfolding read_entry entry_checks
accepted_entry_keeps frame e r =
    let s = information_of frame in
    let two = both_accept (head_checks directory_protocol frame) (entry_checks s) (head_of frame) (entry_of frame) e r in
    let none = (accepted_only_if (entry_checks s) (entry_of frame) e two.1).0 in
    let says = entry_says frame e r in
    let least : before_header + check_length ≤ length s = ltb-false (length s) (before_header + check_length) none.0 in
    record {
      headed = two.0;
      long = omega (arith, least, length-drop 16 frame, says.head.long);
      checked = says.checked;
      allowed = rw (sym says.flags) says.allowed;
      whole = (rw (sym says.flags) says.whole.0, sym says.offset ∙ says.whole.1);
      ruled = rw (sym says.bytes, sym says.number) says.header.ruled;
      alone = rw (sym says.bytes) (sym says.header.size ∙ says.alone);
    }
