-- `reception::take` meets its contract: the tests in their order, then the positions are marked and the bytes written.
-- Assumes nothing.
use mathlib.Core.Path.{◌≡◌, refl, sym, ap, ◌∙◌}
use mathlib.Core.Bool.{true, not}
use Prim.Native.Nat.{◌+◌, ◌≤◌}
use native.Mathlib.Omega.{arith}
use lib.ListN.{length}
use Rattle.std.proofs.Common.{rules}
use Rattle.std.specs.Prelude.{Err}
use Rattle.runs.specs.Offers.{inside}
use Rattle.runs.proofs.OfferLaws.{is_inside, when_inside, agrees_told, piece_stored}
use Rattle.reason.specs.declared.Reason.{Reason}
use Rattle.reason.specs.declared.Reason.TheVariants.{OtherFile, Beyond, Differs}
use Rattle.reason.specs.Reasons.{number_of}
use Rattle.reason.specs.Answer.{accepted, refused}
use Rattle.reception.specs.Reception.{Reception, PieceData, lent_for, data_in}
use Rattle.reception.specs.Adding.{of_piece, agrees, Adds}
use Rattle.reception.specs.Opening.{opening}
use Rattle.reception.specs.Taking.{taking}
use Rattle.reception.proofs.OfferLaws.{right_length, adds_refused, adds_counted}
use Rattle.reception.proofs.GivenReasons.{opens_only_if, opens_in, takes_first, takes_9, takes_10, takes_11, takes}
use Rattle.reception.proofs.take.Goals as goal

refuses_first : (s : Reception) (x : PieceData) (reason : Reason) → refused (number_of reason) ≡ opening s.length s.map s.buffer
    → Adds s (of_piece x) (taking s x) (Err reason) s.map s.buffer
refuses_first s x reason e = adds_refused _ _ _ _ _ reason (takes_first s x (number_of reason) (sym e)) refl refl

-- a piece that ends by the file's end lies inside the map and the buffer
lies : (s : Reception) (x : PieceData) → opening s.length s.map s.buffer ≡ accepted tt → x.offset + length x.bytes ≤ s.length
    → inside s.map s.buffer x.offset (length x.bytes) ≡ true
lies s x room fits =
    let l = right_length s.length (opens_only_if s.length s.map s.buffer room).0 in
    let w = opens_in s.length s.map s.buffer room in
    is_inside s.map s.buffer x.offset (length x.bytes) (omega (arith, l, fits)) (omega (arith, w, fits)) (omega (arith, w, fits))

pub returns-in_err-room : goal.returns-in_err-room
returns-in_err-room c =
    search (rules, refuses_first (lent_for c.args.file c.args.map.now c.args.buffer.now) (data_in c.args.piece) c.in_err-room.field-0.0 c.in_err-room.ensures)

pub returns-then-file-piece : goal.returns-then-file-piece
returns-then-file-piece c = adds_refused _ _ _ _ _ OtherFile (takes_9 _ _ (sym c.in_ok-room.ensures) c.if-file-piece.true) refl refl

pub returns-then-file-at : goal.returns-then-file-at
returns-then-file-at c =
    adds_refused _ _ _ _ _ Beyond (takes_10 _ _ (sym c.in_ok-room.ensures) c.if-file-piece.false (omega arith)) refl refl

pub returns-then-not-agrees : goal.returns-then-not-agrees
returns-then-not-agrees c =
    let s = lent_for c.args.file c.args.map.now c.args.buffer.now in
    let x = data_in c.args.piece in
    let room = sym c.in_ok-room.ensures in
    let told = agrees_told _ (lies s x room c.if-file-at.false) s.map s.buffer (of_piece x) _ c.piece_agrees-agrees.ensures in
    adds_refused _ _ _ _ _ Differs (takes_11 s x room c.if-file-piece.false c.if-file-at.false (ap not (told ∙ c.if-not-agrees.true))) refl refl

pub returns : goal.returns
returns c =
    let s = lent_for c.args.file c.args.map.now c.args.buffer.now in
    let x = data_in c.args.piece in
    let room = sym c.in_ok-room.ensures in
    let inside = lies s x room c.if-file-at.false in
    let agree : agrees s (of_piece x) ≡ true =
    agrees_told _ inside s.map s.buffer (of_piece x) _ c.piece_agrees-agrees.ensures ∙ c.if-not-agrees.false in
    let stored = when_inside _ s.map s.buffer (of_piece x) _ inside _ _ _ c.put_piece.ensures in
    let w = opens_in s.length s.map s.buffer room in
    adds_counted s (of_piece x) (taking s x) _ _ _ _ (takes s x room c.if-file-piece.false c.if-file-at.false (ap not agree)) stored.counts
    stored.leaves_map (stored.leaves_buffer ∙ piece_stored s.map s.buffer x.offset x.bytes agree (omega (arith, w, c.if-file-at.false)))
