-- `ax25::write_head` meets its contract: past its two tests every run has room, and the three are one.
-- Assumes nothing.
use mathlib.Core.Path.{◌≡◌, refl}
use mathlib.Core.Bool.{Bool, true, false, ◌&&◌}
use mathlib.Core.List.{List, [], ◌∷◌, ◌++◌}
use Prim.Native.Nat.{ℕ, ◌≤◌, ◌<◌}
use native.Mathlib.Omega.{arith}
use lib.ListN.{length}
use Rattle.std.specs.Prelude.{Ok, Err}
use Rattle.reason.specs.declared.Reason.TheVariants.{Address, Space}
use Rattle.reason.specs.Answer.{Writes}
use Rattle.reason.proofs.Writing.{writes_refused, writes_accepted}
use Rattle.octets.specs.Runs.{put_in, Put}
use Rattle.octets.proofs.RunLaws.{put_fits, put_more}
use Rattle.ax25.specs.declared.Address as address
use Rattle.ax25.specs.declared.Role.TheVariants.{Destination, Source}
use Rattle.ax25.specs.Address.{is_writable, address_bytes}
use Rattle.ax25.specs.Head.{control, head_bytes, write_head}
use Rattle.ax25.proofs.WriteLaws.{head_2, head_12, head_written}
use Rattle.ax25.proofs.write_head.Goals as goal

module _ (out : List ℕ) (d s : address.Address) (protocol : ℕ) where
  malformed : (is_writable d && is_writable s) ≡ false → Writes out (write_head out d s protocol) (Err Address) out
  malformed g = writes_refused out (write_head out d s protocol) out Address (head_2 out d s protocol g) refl

  module _ (good : (is_writable d && is_writable s) ≡ true) where
    short : length out < 16 → Writes out (write_head out d s protocol) (Err Space) out
    short l = writes_refused out (write_head out d s protocol) out Space (head_12 out d s protocol good l) refl

    written : 16 ≤ length out → (l1 l2 l3 : List ℕ) (p q r : Bool) → Put out 0 (address_bytes Destination d) p l1
        → Put l1 7 (address_bytes Source s) q l2 → Put l2 14 (control ∷ protocol ∷ []) r l3 → Writes out (write_head out d s protocol) (Ok tt) l3
    unfolding head_bytes
    written l l1 l2 l3 p q r first second third =
        let e1 : l1 ≡ put_in out 0 (address_bytes Destination d) = (put_fits out 0 _ p l1 first (omega arith)).1 in
        let e2 : l2 ≡ put_in out 0 (address_bytes Destination d ++ address_bytes Source s) = put_more out 0 _ _ l1 q l2 e1 second (omega arith) in
        let e3 : l3 ≡ put_in out 0 (head_bytes d s protocol) = put_more out 0 _ _ l2 r l3 e2 third (omega arith) in
        writes_accepted out (write_head out d s protocol) l3 _ (head_written out d s protocol good l) e3

pub returns-then-not-writable : goal.returns-then-not-writable
returns-then-not-writable c = malformed _ _ _ _ (grind arith)

pub returns-then-out-lt-HEAD_LENGTH : goal.returns-then-out-lt-HEAD_LENGTH
returns-then-out-lt-HEAD_LENGTH c = short _ _ _ _ (grind arith) c.if-out-lt-HEAD_LENGTH.true

pub returns : goal.returns
returns c =
    written _ _ _ _ (grind arith) c.if-out-lt-HEAD_LENGTH.false _ _ _ _ _ _ (rw c.bytes_of-to.ensures at c.put.ensures)
    (rw c.bytes_of-from.ensures at c.put-2.ensures) c.put-3.ensures
