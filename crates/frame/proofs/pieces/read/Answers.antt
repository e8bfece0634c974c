-- `frame::pieces::read` meets its contract: each return is one of the laws of a piece, in the order of its reasons.
-- Assumes nothing.
use mathlib.Core.Path.{◌≡◌, sym, ap, ◌∙◌}
use mathlib.Core.Bool.{true}
use mathlib.Core.List.{List}
use Prim.Native.Nat.{ℕ}
use Rattle.reason.specs.Answer.{accepted}
use Rattle.octets.specs.Numbers.{byte_at, number_at}
use Rattle.remainder.specs.Check.{check_right}
use Rattle.ax25.specs.declared.Head.{Head}
use Rattle.frame.specs.declared.Piece.{Piece}
use Rattle.frame.specs.Piece.{piece_fields}
use Rattle.frame.proofs.PieceLaws.{reads_1, reads_6, reads_5, reads_7, reads_piece}
use Rattle.frame.proofs.pieces.read.Goals as goal

fields : (head : Head) (s : List ℕ) (number offset : ℕ) → number ≡ number_at 4 s 1 → offset ≡ number_at 3 s 6
    → ◌≡◌ {A = Piece} (record { head = head; number = number; kind = byte_at s 5; offset = offset }) (piece_fields head s)
unfolding piece_fields
fields head s number offset x y = rw (x, y)

pub returns-then-s-lt-LEAST : goal.returns-then-s-lt-LEAST
returns-then-s-lt-LEAST c = sym (reads_1 c.args.s.now _ c.if-s-lt-LEAST.true)

pub returns-then-not-check_right : goal.returns-then-not-check_right
returns-then-not-check_right c = sym (reads_6 c.args.s.now _ c.if-s-lt-LEAST.false (sym c.check_right.ensures ∙ c.if-not-check_right.true))

pub returns-then-s-ne-FLAGS : goal.returns-then-s-ne-FLAGS
returns-then-s-ne-FLAGS c =
    let right : check_right c.args.s.now ≡ true = sym c.check_right.ensures ∙ c.if-not-check_right.false in
    sym (reads_5 c.args.s.now _ c.if-s-lt-LEAST.false right c.if-s-ne-FLAGS.true)

pub returns-then-s-eq-LEAST : goal.returns-then-s-eq-LEAST
returns-then-s-eq-LEAST c =
    let right : check_right c.args.s.now ≡ true = sym c.check_right.ensures ∙ c.if-not-check_right.false in
    sym (reads_7 c.args.s.now _ c.if-s-lt-LEAST.false right c.if-s-ne-FLAGS.false c.if-s-eq-LEAST.true)

pub returns : goal.returns
returns c =
    let a = c.args in
    let right : check_right a.s.now ≡ true = sym c.check_right.ensures ∙ c.if-not-check_right.false in
    ap accepted (fields a.head a.s.now _ _ c.number-number.ensures.value c.number-offset.ensures.value)
    ∙ sym (reads_piece a.s.now _ c.if-s-lt-LEAST.false right c.if-s-ne-FLAGS.false c.if-s-eq-LEAST.false)
