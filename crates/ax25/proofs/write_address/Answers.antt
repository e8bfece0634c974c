-- `ax25::write_address` meets its contract: `writable` says whether it is 2, and `put` whether it is 12.
-- Assumes nothing.
use mathlib.Core.Path.{◌≡◌, refl, sym}
use mathlib.Core.Bool.{true, false}
use mathlib.Core.List.{List}
use Prim.Native.Nat.{ℕ}
use Rattle.std.specs.Prelude.{Ok, Err}
use Rattle.reason.specs.declared.Reason.TheVariants.{Address, Space}
use Rattle.reason.specs.Answer.{Writes}
use Rattle.reason.proofs.Writing.{writes_refused, writes_accepted}
use Rattle.octets.specs.Runs.{Put}
use Rattle.octets.proofs.RunLaws.{put_told}
use Rattle.ax25.specs.declared.Address as address
use Rattle.ax25.specs.declared.Role.{Role}
use Rattle.ax25.specs.Address.{is_writable, address_bytes, write_address}
use Rattle.ax25.proofs.WriteLaws.{address_2, address_12, address_written}
use Rattle.ax25.proofs.write_address.Goals as goal

module _ (role : Role) (out : List ℕ) (at : ℕ) (a : address.Address) where
  malformed : is_writable a ≡ false → Writes out (write_address role out at a) (Err Address) out
  malformed g = writes_refused out (write_address role out at a) out Address (address_2 role out at a g) refl

  module _ (left : List ℕ) (g : is_writable a ≡ true) where
    written : Put out at (address_bytes role a) true left → Writes out (write_address role out at a) (Ok tt) left
    written p =
        let k = put_told out at (address_bytes role a) true left p true refl in
        writes_accepted out (write_address role out at a) left _ (address_written role out at a g k.0) k.1

    short : Put out at (address_bytes role a) false left → Writes out (write_address role out at a) (Err Space) left
    short p =
        let k = put_told out at (address_bytes role a) false left p false refl in
        writes_refused out (write_address role out at a) left Space (address_12 role out at a g k.0) k.1

pub returns-then-not-writable : goal.returns-then-not-writable
returns-then-not-writable c = malformed _ _ _ _ (sym c.if-not-writable.ensures)

pub returns-then-put : goal.returns-then-put
returns-then-put c = written _ _ _ _ _ (sym c.if-not-writable.ensures) (rw c.bytes_of-bytes.ensures at c.if-put.ensures)

pub returns-else-put : goal.returns-else-put
returns-else-put c = short _ _ _ _ _ (sym c.if-not-writable.ensures) (rw c.bytes_of-bytes.ensures at c.if-put.ensures)
