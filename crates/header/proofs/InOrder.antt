-- `read_header` gives its reason exactly when it holds (demand 1).
-- Assumes nothing.
use mathlib.Core.List.{List}
use Prim.Native.Nat.{ℕ}
use Rattle.reason.specs.Order.{Exactly}
use Rattle.reason.proofs.OrderLaws.{exactly}
use Rattle.header.specs.Header.{header_checks, header_of, read_header}

pub read_header_in_order : (s : List ℕ) (number : ℕ) → Exactly (header_checks s number) (header_of s) (read_header s number)
unfolding read_header
read_header_in_order s number = exactly (header_checks s number) (header_of s)
