-- `request::reading::read` meets its contract: one test after the other, in the order of the checks.
-- Assumes nothing.
use mathlib.Core.Path.{◌≡◌, sym, ap, ◌∙◌}
use mathlib.Core.Bool.{Bool, true, false, not, ◌&&◌}
use mathlib.Core.List.{List, [], ◌∷◌}
use mathlib.Core.Logic.{⊎_elim}
use Prim.Native.Nat.{ℕ, ◌≤◌}
use native.Mathlib.Omega.{arith}
use lib.Dec.{eqb}
use borrow.Author.Tests.{not-true, not-false}
use Rattle.std.proofs.Common.{rules}
use Rattle.reason.specs.Reasons.{number_of}
use Rattle.reason.specs.Answer.{accepted, refused, answer_of}
use Rattle.reason.specs.Order.{check, first_of}
use Rattle.reason.proofs.Bools.{and_right}
use Rattle.reason.proofs.OrderLaws.{accepted_only_if, refused_only_if}
use Rattle.octets.specs.Numbers.{byte_at, number_at}
use Rattle.octets.specs.Values.{values_from}
use Rattle.ax25.specs.declared.Head.{Head}
use Rattle.request.specs.declared.Asks.{Asks}
use Rattle.request.specs.declared.Request.{Request}
use Rattle.request.specs.Request.{block_size, most_holes, holes_of_kind, holes_right}
use Rattle.request.specs.Reading.{flags_allowed, asks_by, odd_bytes, count_in, count_right, hole_in, holes_in, request_fields}
use Rattle.request.proofs.ReadingLaws.{reads_1, reads_5, reads_7, reads_10, reads_request, count_most}
use Rattle.request.proofs.reading.read.Goals as goal

-- what was answered of the flags: what they ask for, or reason 5
asked : (flags : ℕ) (asks : Asks) → accepted asks ≡ first_of (check (not (flags_allowed flags)) 5 ∷ []) (asks_by flags)
    → (flags_allowed flags ≡ true) × (asks ≡ asks_by flags)
asked flags asks e =
    let all = accepted_only_if (check (not (flags_allowed flags)) 5 ∷ []) (asks_by flags) asks (sym e) in (not-false (flags_allowed flags) all.0.0, all.1)

unasked : (flags n : ℕ) → refused n ≡ first_of (check (not (flags_allowed flags)) 5 ∷ []) (asks_by flags) → (flags_allowed flags ≡ false) × (n ≡ 5)
unasked flags n e =
    ⊎_elim (λ w. (not-true (flags_allowed flags) w.0, sym w.1)) (λ w. absurd w.1)
    (refused_only_if n (check (not (flags_allowed flags)) 5 ∷ []) (asks_by flags) (sym e))

-- what a request says
abbrev fields : Head → Asks → ℕ → ℕ → Request
fields head asks number count = record { head = head; asks = asks; number = number; count = count }

same_fields : (head : Head) (a b : Asks) (m n i j : ℕ) → a ≡ b → m ≡ n → i ≡ j → accepted (fields head a m i) ≡ accepted (fields head b n j)
same_fields head a b m n i j d e f = rw (d, e, f)

-- block size and count, by what was answered of both
sized : (s : List ℕ) (asks : Asks) (r b : Bool) → asks ≡ asks_by (byte_at s 0)
    → r ≡ (eqb (number_at 2 s 5) block_size && (eqb (odd_bytes s) 0 && holes_of_kind asks (count_in s))) → r ≡ b
    → (eqb (number_at 2 s 5) block_size && count_right s) ≡ b
sized s asks r b d e h = sym (e ∙ ap (λ (a : Asks). eqb (number_at 2 s 5) block_size && (eqb (odd_bytes s) 0 && holes_of_kind a (count_in s))) d) ∙ h

-- at most 49 holes
bounded : (s : List ℕ) (n : ℕ) → n ≡ count_in s → (eqb (number_at 2 s 5) block_size && count_right s) ≡ true → n ≤ most_holes
bounded s n e h = rw e (count_most s (and_right (eqb (number_at 2 s 5) block_size) (count_right s) h))

-- the holes
tested : (s : List ℕ) (n : ℕ) (r b : Bool) → n ≡ count_in s → r ≡ holes_right 0 (values_from (hole_in s) 0 n) → r ≡ b → holes_right 0 (holes_in s) ≡ b
tested s n r b e is h = sym (is ∙ ap (λ (m : ℕ). holes_right 0 (values_from (hole_in s) 0 m)) e) ∙ h

pub returns-then-s-lt-BEFORE_HOLES : goal.returns-then-s-lt-BEFORE_HOLES
returns-then-s-lt-BEFORE_HOLES c = sym (reads_1 c.args.s.now _ c.if-s-lt-BEFORE_HOLES.true)

pub returns-in_err-asks : goal.returns-in_err-asks
returns-in_err-asks c =
    let s = c.args.s.now in
    let n = number_of c.in_err-asks.field-0.0 in
    let passed : answer_of c.from_residual.result ≡ refused n = search rules in
    let w = unasked (byte_at s 0) n c.in_err-asks.ensures in
    passed ∙ ap refused w.1 ∙ sym (reads_5 s _ c.if-s-lt-BEFORE_HOLES.false w.0)

pub returns-then-not-size_right : goal.returns-then-not-size_right
returns-then-not-size_right c =
    let s = c.args.s.now in
    let w = asked (byte_at s 0) c.in_ok-asks.asks c.in_ok-asks.ensures in
    sym (reads_7 s _ c.if-s-lt-BEFORE_HOLES.false w.0 (sized s _ _ _ w.1 c.size_right.ensures c.if-not-size_right.true))

pub holes_right-requires : goal.holes_right-requires
holes_right-requires c =
    let s = c.args.s.now in
    let w = asked (byte_at s 0) c.in_ok-asks.asks c.in_ok-asks.ensures in
    bounded s _ c.count_in-count.ensures (sized s _ _ _ w.1 c.size_right.ensures c.if-not-size_right.false)

pub returns-then-not-holes_right : goal.returns-then-not-holes_right
returns-then-not-holes_right c =
    let s = c.args.s.now in
    let w = asked (byte_at s 0) c.in_ok-asks.asks c.in_ok-asks.ensures in
    let right = sized s _ _ true w.1 c.size_right.ensures c.if-not-size_right.false in
    sym (reads_10 s _ c.if-s-lt-BEFORE_HOLES.false w.0 right (tested s _ _ _ c.count_in-count.ensures c.holes_right.ensures c.if-not-holes_right.true))

pub overflow_cast-result : goal.overflow_cast-result
overflow_cast-result c =
    let s = c.args.s.now in
    let w = asked (byte_at s 0) c.in_ok-asks.asks c.in_ok-asks.ensures in
    let b = bounded s _ c.count_in-count.ensures (sized s _ _ _ w.1 c.size_right.ensures c.if-not-size_right.false) in
    omega (arith, b)

pub returns : goal.returns
unfolding request_fields
returns c =
    let s = c.args.s.now in
    let w = asked (byte_at s 0) c.in_ok-asks.asks c.in_ok-asks.ensures in
    let right = sized s _ _ true w.1 c.size_right.ensures c.if-not-size_right.false in
    same_fields c.args.head _ _ _ _ _ _ w.1 c.number-number.ensures.value c.count_in-count.ensures
    ∙ sym (reads_request s _ c.if-s-lt-BEFORE_HOLES.false w.0 right (tested s _ _ _ c.count_in-count.ensures c.holes_right.ensures c.if-not-holes_right.false))
