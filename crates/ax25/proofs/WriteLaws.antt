-- Laws of writing an address and a head: which of the reasons, or what is written.
-- Assumes nothing.
use mathlib.Core.Path.{◌≡◌, ap, ◌∙◌}
use mathlib.Core.Bool.{true, false, ◌&&◌}
use mathlib.Core.List.{List, [], ◌∷◌, ◌++◌}
use Prim.Native.Nat.{ℕ, ◌+◌, ◌≤◌, ◌<◌}
use native.Mathlib.Omega.{arith}
use lib.ListN.{length}
use Rattle.reason.specs.Answer.{accepted, refused}
use Rattle.reason.proofs.OrderLaws.{accepted_only_if}
use Rattle.reason.specs.Order.{first_of}
use Rattle.octets.specs.Runs.{has_room, put_in}
use Rattle.octets.proofs.RunLaws.{put_put}
use Rattle.ax25.specs.declared.Address.{Address}
use Rattle.ax25.specs.declared.Role.{Role}
use Rattle.ax25.specs.declared.Role.TheVariants.{Destination, Source}
use Rattle.ax25.specs.Address.{is_writable, address_bytes, address_write_checks, write_address}
use Rattle.ax25.specs.Head.{head_length, control, head_bytes, head_write_checks, write_head}

module _ (role : Role) (out : List ℕ) (at : ℕ) (a : Address) where
  pub address_2 : is_writable a ≡ false → write_address role out at a ≡ refused 2
  unfolding write_address first_of
  address_2 g = grind arith

  pub address_12 : is_writable a ≡ true → has_room out at (address_bytes role a) ≡ false → write_address role out at a ≡ refused 12
  unfolding write_address first_of
  address_12 g f = grind arith

  pub address_written : is_writable a ≡ true → has_room out at (address_bytes role a) ≡ true
      → write_address role out at a ≡ accepted (put_in out at (address_bytes role a))
  unfolding write_address first_of
  address_written g f = grind arith

  -- .. and what an accepted write says
  pub written_address : (left : List ℕ) → write_address role out at a ≡ accepted left
      → (is_writable a ≡ true) × (at + 7 ≤ length out) × (left ≡ put_in out at (address_bytes role a))
  unfolding write_address
  written_address left e =
      let all = accepted_only_if (address_write_checks role out at a) (put_in out at (address_bytes role a)) left e in
      (grind arith, grind arith, all.1)

module _ (out : List ℕ) (d s : Address) (protocol : ℕ) where
  pub head_2 : (is_writable d && is_writable s) ≡ false → write_head out d s protocol ≡ refused 2
  unfolding write_head first_of
  head_2 g = grind arith

  pub head_12 : (is_writable d && is_writable s) ≡ true → length out < head_length → write_head out d s protocol ≡ refused 12
  unfolding write_head first_of
  head_12 g l = grind arith

  pub head_written : (is_writable d && is_writable s) ≡ true → head_length ≤ length out
      → write_head out d s protocol ≡ accepted (put_in out 0 (head_bytes d s protocol))
  unfolding write_head first_of
  head_written g l = grind arith

  pub written_head : (left : List ℕ) → write_head out d s protocol ≡ accepted left
      → (is_writable d ≡ true) × (is_writable s ≡ true) × (head_length ≤ length out) × (left ≡ put_in out 0 (head_bytes d s protocol))
  unfolding write_head
  written_head left e =
      let all = accepted_only_if (head_write_checks out d s) (put_in out 0 (head_bytes d s protocol)) left e in
      (grind arith, grind arith, grind arith, all.1)

  -- both addresses and the two bytes after them, one after the other, are the head's 16 bytes
  pub three_runs : head_length ≤ length out
      → put_in (put_in (put_in out 0 (address_bytes Destination d)) 7 (address_bytes Source s)) 14 (control ∷ protocol ∷ []) ≡ put_in out 0 (head_bytes d s protocol)
  unfolding head_bytes
  three_runs h =
      ap (λ (l : List ℕ). put_in l 14 (control ∷ protocol ∷ [])) (put_put out 0 (address_bytes Destination d) (address_bytes Source s) (omega arith))
      ∙ put_put out 0 (address_bytes Destination d ++ address_bytes Source s) (control ∷ protocol ∷ []) (omega arith)
