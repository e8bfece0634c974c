-- Each operation of this crate gives each of its reasons exactly when it is the first that holds (demand 1).
-- Assumes nothing.
use mathlib.Core.List.{List}
use Prim.Native.Nat.{ℕ}
use Rattle.reason.specs.Order.{Exactly}
use Rattle.reason.proofs.OrderLaws.{exactly}
use Rattle.frame.specs.Piece.{piece_order, piece_of, read_piece}
use Rattle.frame.specs.Entry.{entry_order, entry_of, read_entry}

pub read_piece_in_order : (frame : List ℕ) → Exactly (piece_order frame) (piece_of frame) (read_piece frame)
unfolding read_piece
read_piece_in_order frame = exactly (piece_order frame) (piece_of frame)

pub read_entry_in_order : (frame : List ℕ) → Exactly (entry_order frame) (entry_of frame) (read_entry frame)
unfolding read_entry
read_entry_in_order frame = exactly (entry_order frame) (entry_of frame)
