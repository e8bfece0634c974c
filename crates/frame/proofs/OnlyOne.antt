-- No second answer meets a promise of this crate, and no other part of the frame.
-- Assumes nothing.
use mathlib.Core.Path.{◌≡◌}
use mathlib.Core.List.{List}
use Prim.Native.Nat.{ℕ}
use Rattle.std.specs.Prelude.{Result}
use Rattle.reason.specs.declared.Reason.{Reason}
use Rattle.reason.specs.Answer.{answer_of}
use Rattle.reason.proofs.OnlyOne.{only_one, only_one_answer}
use Rattle.frame.specs.declared.Piece.{Piece}
use Rattle.frame.specs.declared.Entry.{Entry}
use Rattle.frame.specs.Piece.{read_piece, piece_bytes_read, piece_bytes}
use Rattle.frame.specs.Entry.{read_entry, header_bytes_read, header_bytes}

-- `read_piece`
pub only_one_piece : (frame : List ℕ) (r q : Result Piece Reason) → answer_of r ≡ read_piece frame → answer_of q ≡ read_piece frame → r ≡ q
only_one_piece frame r q = only_one_answer r q

-- `piece_bytes` and `piece_of`
pub only_one_piece_bytes : (frame r q : List ℕ) → r ≡ piece_bytes frame → q ≡ piece_bytes frame → r ≡ q
only_one_piece_bytes frame r q = only_one r q

pub only_one_piece_of : (frame : List ℕ) (read : Result Piece Reason) (r q : List ℕ) → r ≡ piece_bytes_read (answer_of read) frame
    → q ≡ piece_bytes_read (answer_of read) frame → r ≡ q
only_one_piece_of frame read r q = only_one r q

-- `read_entry`
pub only_one_entry : (frame : List ℕ) (r q : Result Entry Reason) → answer_of r ≡ read_entry frame → answer_of q ≡ read_entry frame → r ≡ q
only_one_entry frame r q = only_one_answer r q

-- `header_bytes` and `header_of`
pub only_one_header_bytes : (frame r q : List ℕ) → r ≡ header_bytes frame → q ≡ header_bytes frame → r ≡ q
only_one_header_bytes frame r q = only_one r q

pub only_one_header_of : (frame : List ℕ) (read : Result Entry Reason) (r q : List ℕ) → r ≡ header_bytes_read (answer_of read) frame
    → q ≡ header_bytes_read (answer_of read) frame → r ≡ q
only_one_header_of frame read r q = only_one r q
