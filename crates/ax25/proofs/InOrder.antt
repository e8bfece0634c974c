-- Each operation of this crate gives each of its reasons exactly when it is the first that holds (demand 1).
-- Assumes nothing.
use mathlib.Core.List.{List}
use Prim.Native.Nat.{ℕ}
use Rattle.reason.specs.Order.{Exactly}
use Rattle.reason.proofs.OrderLaws.{exactly}
use Rattle.octets.specs.Runs.{put_in}
use Rattle.ax25.specs.declared.Address.{Address}
use Rattle.ax25.specs.declared.Role.{Role}
use Rattle.ax25.specs.Address.{address_bytes, address_at, address_read_checks, read_address, address_write_checks, write_address}
use Rattle.ax25.specs.Head.{head_checks, head_of, read_head, head_bytes, head_write_checks, write_head}

pub read_address_in_order : (role : Role) (s : List ℕ) (at : ℕ) → Exactly (address_read_checks role s at) (address_at s at) (read_address role s at)
unfolding read_address
read_address_in_order role s at = exactly (address_read_checks role s at) (address_at s at)

pub write_address_in_order : (role : Role) (out : List ℕ) (at : ℕ) (a : Address)
    → Exactly (address_write_checks role out at a) (put_in out at (address_bytes role a)) (write_address role out at a)
unfolding write_address
write_address_in_order role out at a = exactly (address_write_checks role out at a) (put_in out at (address_bytes role a))

pub read_head_in_order : (protocol : ℕ) (frame : List ℕ) → Exactly (head_checks protocol frame) (head_of frame) (read_head protocol frame)
read_head_in_order protocol frame = exactly (head_checks protocol frame) (head_of frame)

pub write_head_in_order : (out : List ℕ) (d s : Address) (protocol : ℕ)
    → Exactly (head_write_checks out d s) (put_in out 0 (head_bytes d s protocol)) (write_head out d s protocol)
unfolding write_head
write_head_in_order out d s protocol = exactly (head_write_checks out d s) (put_in out 0 (head_bytes d s protocol))
