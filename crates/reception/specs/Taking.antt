-- Taking a piece in (01, "Reception"). That the frame was a piece is read before, and has its own reasons.
-- Assumes nothing.
use Rattle.std.specs.Prelude.{Bool, not, List, [], ◌∷◌, ℕ, ◌+◌, ltb, eqb, length, Result}
use Rattle.reason.specs.declared.Reason.{Reason}
use Rattle.reason.specs.Answer.{Answer}
use Rattle.reason.specs.Order.{Check, check, first_of}
use Rattle.reception.specs.Reception.{Reception, PieceData, wrong_length, short_space}
use Rattle.reception.specs.Adding.{of_piece, agrees, new_in, after, Adds}

-- reason 11: the piece differs from what is held
abbrev pub disagrees : Reception → PieceData → Bool
disagrees s x = not (agrees s (of_piece x))

-- "Taking in a piece: .. 7 (L), 12, 9, 10, 11"; the frame's reasons come before
abbrev pub taking_checks : Reception → PieceData → List Check
taking_checks s x =
    check (wrong_length s.length) 7 ∷
    check (short_space s.length s.map s.buffer) 12 ∷
    check (not (eqb s.number x.number)) 9 ∷
    check (ltb s.length (x.offset + length x.bytes)) 10 ∷
    check (disagrees s x) 11 ∷ []

-- the count of newly held positions
abbrev pub taken_new : Reception → PieceData → ℕ
taken_new s x = new_in s (of_piece x)

-- the answer: that count, or the reason
unfoldable pub taking : Reception → PieceData → Answer ℕ
taking s x = first_of (taking_checks s x) (taken_new s x)

-- the reception afterwards
abbrev pub taken : Reception → PieceData → Reception
taken s x = after s (of_piece x) (taking s x)

-- The promise of `take`: what it answers, and what it leaves in the lent map and buffer.
abbrev pub Takes : Reception → PieceData → Result ℕ Reason → List ℕ → List ℕ → Type 0
Takes s x r map buffer = Adds s (of_piece x) (taking s x) r map buffer
