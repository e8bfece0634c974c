-- No second answer meets a promise of this crate, and no other bytes.
-- Assumes nothing.
use mathlib.Core.Path.{◌≡◌}
use mathlib.Core.Bool.{Bool}
use mathlib.Core.List.{List}
use Prim.Native.Nat.{ℕ}
use Rattle.std.specs.Prelude.{Result}
use Rattle.reason.specs.declared.Reason.{Reason}
use Rattle.reason.specs.Answer.{answer_of, Writes}
use Rattle.reason.proofs.OnlyOne.{only_one, only_one_answer, only_one_written}
use Rattle.ax25.specs.declared.Address.{Address}
use Rattle.ax25.specs.declared.Role.{Role}
use Rattle.ax25.specs.declared.Head.{Head}
use Rattle.ax25.specs.Address.{is_writable, read_address, write_address}
use Rattle.ax25.specs.Head.{read_head, write_head}

-- `writable`
pub only_one_writable : (a : Address) (r q : Bool) → r ≡ is_writable a → q ≡ is_writable a → r ≡ q
only_one_writable a r q = only_one r q

-- `read_address`
pub only_one_address : (role : Role) (s : List ℕ) (at : ℕ) (r q : Result Address Reason) → answer_of r ≡ read_address role s at
    → answer_of q ≡ read_address role s at → r ≡ q
only_one_address role s at r q = only_one_answer r q

-- `write_address`
pub only_one_address_written : (role : Role) (out : List ℕ) (at : ℕ) (a : Address) (r q : Result Unit Reason) (left also : List ℕ)
    → Writes out (write_address role out at a) r left → Writes out (write_address role out at a) q also → (r ≡ q) × (left ≡ also)
only_one_address_written role out at a r q left also = only_one_written out (write_address role out at a) r q left also

-- `read_head`
pub only_one_head : (protocol : ℕ) (frame : List ℕ) (r q : Result Head Reason) → answer_of r ≡ read_head protocol frame
    → answer_of q ≡ read_head protocol frame → r ≡ q
only_one_head protocol frame r q = only_one_answer r q

-- `write_head`
pub only_one_head_written : (out : List ℕ) (d s : Address) (protocol : ℕ) (r q : Result Unit Reason) (left also : List ℕ)
    → Writes out (write_head out d s protocol) r left → Writes out (write_head out d s protocol) q also → (r ≡ q) × (left ≡ also)
only_one_head_written out d s protocol r q left also = only_one_written out (write_head out d s protocol) r q left also
