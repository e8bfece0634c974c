-- `frame::entries::read` meets its contract: each return is one of the laws of an entry, in the order of its reasons.
-- Assumes nothing.
use mathlib.Core.Path.{◌≡◌, refl, sym, ap, ◌∙◌}
use Rattle.std.proofs.Common.{rules}
use mathlib.Core.Bool.{Bool, true, false, ◌&&◌, and-false}
use mathlib.Core.List.{List}
use Prim.Native.Nat.{ℕ, ◌-◌, ◌≤◌}
use native.Mathlib.Omega.{arith}
use lib.Dec.{eqb}
use lib.ListN.{length, drop, length-drop}
use lib.Seq.{length-take-le}
use borrow.Author.Tests.{eq-eqb, ne_eqb}
use Rattle.std.specs.Prelude.{Result, Ok, Err}
use Rattle.reason.specs.declared.Reason.{Reason}
use Rattle.reason.specs.Reasons.{number_of}
use Rattle.reason.specs.Answer.{accepted, refused, answer_of}
use Rattle.reason.proofs.Bools.{and_both}
use Rattle.octets.specs.Numbers.{byte_at, number_at}
use Rattle.remainder.specs.Check.{check_right}
use Rattle.ax25.specs.declared.Head.{Head}
use Rattle.header.specs.declared.Header.{Header}
use Rattle.header.specs.Header.{header_length, keeps_rules, header_of, read_header}
use Rattle.header.proofs.HeaderLaws.{header_accepted, header_refused, told_size}
use Rattle.frame.specs.declared.Entry.{Entry}
use Rattle.frame.specs.Entry.{flags_allowed, header_whole, header_part, header_right, entry_fields}
use Rattle.frame.proofs.EntryLaws.{reads_1, reads_6, reads_5, reads_14, reads_8, reads_entry}
use Rattle.frame.proofs.entries.read.Goals as goal

-- what reading the header part says: refused; of another length than the part; and all of the part
module _ (s : List ℕ) (long : 19 ≤ length s) (number : ℕ) (named : number ≡ number_at 4 s 1) (r : Result Header Reason) (read : answer_of r ≡ read_header (header_part s) number) where
  part_long : length (header_part s) ≡ length s - 2 - 17
  part_long = length-take-le (length s - 2 - 17) (drop 17 s) (omega (arith, length-drop 17 s))

  not_header : (reason : Reason) → r ≡ Err reason → header_right s ≡ false
  not_header reason told =
      let k = (header_refused (header_part s) number (number_of reason) (sym read ∙ ap answer_of told)).0 in
      ap (λ (b : Bool). b && eqb (header_length (header_part s)) (length (header_part s))) (ap (keeps_rules (header_part s)) (sym named) ∙ k)

  module _ (h : Header) (told : r ≡ Ok h) where
    is : h ≡ header_of (header_part s)
    is = (header_accepted (header_part s) number h (sym read ∙ ap answer_of told)).1

    kept : keeps_rules (header_part s) (number_at 4 s 1) ≡ true
    kept = ap (keeps_rules (header_part s)) (sym named) ∙ (header_accepted (header_part s) number h (sym read ∙ ap answer_of told)).0

    sized : h.size ≡ header_length (header_part s)
    sized = ap (λ (x : Header). x.size) is ∙ told_size (header_part s)

    followed : (h.size ≡ length s - 2 - 17 → ⊥) → header_right s ≡ false
    followed d =
        ap (λ (b : Bool). keeps_rules (header_part s) (number_at 4 s 1) && b) (ne_eqb (header_length (header_part s)) (length (header_part s)) (λ e. d (sized ∙ e ∙ part_long)))
        ∙ and-false (keeps_rules (header_part s) (number_at 4 s 1))

    alone : h.size ≡ length s - 2 - 17 → header_right s ≡ true
    alone e =
        and_both (keeps_rules (header_part s) (number_at 4 s 1)) (eqb (header_length (header_part s)) (length (header_part s))) kept
        (eq-eqb (header_length (header_part s)) (length (header_part s)) (sym sized ∙ e ∙ sym part_long))

fields : (head : Head) (s : List ℕ) (number offset old new : ℕ) (h : Header) → number ≡ number_at 4 s 1 → offset ≡ number_at 4 s 5
    → old ≡ number_at 4 s 9
    → new ≡ number_at 4 s 13 → h ≡ header_of (header_part s)
    → ◌≡◌ {A = Entry} (record { head = head; flags = byte_at s 0; number = number; offset = offset; old = old; new = new; header = h }) (entry_fields head s)
unfolding entry_fields
fields head s number offset old new h a b c d e = rw (a, b, c, d, e)

-- what the test of bit 5 and the offset answered
judged : (s : List ℕ) (offset : ℕ) (r b : Bool) → offset ≡ number_at 4 s 5 → r ≡ header_whole (byte_at s 0) offset → r ≡ b
    → header_whole (byte_at s 0) (number_at 4 s 5) ≡ b
judged s offset r b o e t = sym (e ∙ ap (header_whole (byte_at s 0)) o) ∙ t

pub returns-then-s-lt-LEAST : goal.returns-then-s-lt-LEAST
returns-then-s-lt-LEAST c = sym (reads_1 c.args.s.now _ c.if-s-lt-LEAST.true)

pub returns-then-not-check_right : goal.returns-then-not-check_right
returns-then-not-check_right c = sym (reads_6 c.args.s.now _ c.if-s-lt-LEAST.false (sym c.check_right.ensures ∙ c.if-not-check_right.true))

pub returns-then-not-flags_allowed : goal.returns-then-not-flags_allowed
returns-then-not-flags_allowed c =
    let right : check_right c.args.s.now ≡ true = sym c.check_right.ensures ∙ c.if-not-check_right.false in
    sym (reads_5 c.args.s.now _ c.if-s-lt-LEAST.false right (sym c.flags_allowed.ensures ∙ c.if-not-flags_allowed.true))

pub returns-then-not-header_whole : goal.returns-then-not-header_whole
returns-then-not-header_whole c =
    let s = c.args.s.now in
    let right : check_right s ≡ true = sym c.check_right.ensures ∙ c.if-not-check_right.false in
    let flagged : flags_allowed (byte_at s 0) ≡ true = sym c.flags_allowed.ensures ∙ c.if-not-flags_allowed.false in
    sym (reads_14 s _ c.if-s-lt-LEAST.false right flagged (judged s _ _ false c.number-offset.ensures.value c.header_whole.ensures c.if-not-header_whole.true))

pub returns-in_err-header : goal.returns-in_err-header
returns-in_err-header c =
    let s = c.args.s.now in
    let long : 19 ≤ length s = c.if-s-lt-LEAST.false in
    let right : check_right s ≡ true = sym c.check_right.ensures ∙ c.if-not-check_right.false in
    let flagged : flags_allowed (byte_at s 0) ≡ true = sym c.flags_allowed.ensures ∙ c.if-not-flags_allowed.false in
    let whole = judged s _ _ true c.number-offset.ensures.value c.header_whole.ensures c.if-not-header_whole.false in
    let n = number_of c.in_err-header.field-0.0 in
    let passed : answer_of c.from_residual.result ≡ refused n = search rules in
    let is_8 : n ≡ 8 = (header_refused (header_part s) _ n (sym c.in_err-header.ensures)).1 in
    passed ∙ ap refused is_8 ∙ sym (reads_8 s _ long right flagged whole (not_header s long _ c.number-number.ensures.value _ c.in_err-header.ensures _ refl))

pub returns-then-header-end : goal.returns-then-header-end
returns-then-header-end c =
    let s = c.args.s.now in
    let long : 19 ≤ length s = c.if-s-lt-LEAST.false in
    let right : check_right s ≡ true = sym c.check_right.ensures ∙ c.if-not-check_right.false in
    let flagged : flags_allowed (byte_at s 0) ≡ true = sym c.flags_allowed.ensures ∙ c.if-not-flags_allowed.false in
    let whole = judged s _ _ true c.number-offset.ensures.value c.header_whole.ensures c.if-not-header_whole.false in
    let wrong = followed s long _ c.number-number.ensures.value _ c.in_ok-header.ensures c.in_ok-header.header refl (λ e. omega (arith, e, c.if-header-end.true)) in
    sym (reads_8 s _ long right flagged whole wrong)

pub returns : goal.returns
returns c =
    let s = c.args.s.now in
    let long : 19 ≤ length s = c.if-s-lt-LEAST.false in
    let right : check_right s ≡ true = sym c.check_right.ensures ∙ c.if-not-check_right.false in
    let flagged : flags_allowed (byte_at s 0) ≡ true = sym c.flags_allowed.ensures ∙ c.if-not-flags_allowed.false in
    let whole = judged s _ _ true c.number-offset.ensures.value c.header_whole.ensures c.if-not-header_whole.false in
    let part = is s long _ c.number-number.ensures.value _ c.in_ok-header.ensures c.in_ok-header.header refl in
    let good = alone s long _ c.number-number.ensures.value _ c.in_ok-header.ensures c.in_ok-header.header refl c.if-header-end.false in
    ap accepted (fields c.args.head s _ _ _ _ _ c.number-number.ensures.value c.number-offset.ensures.value c.number-old.ensures.value c.number-new.ensures.value part)
    ∙ sym (reads_entry s _ long right flagged whole good)
