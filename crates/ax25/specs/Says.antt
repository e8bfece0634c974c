-- What an accepted head of a frame says (01, "Frame"; demand 2).
-- Assumes nothing.
use Rattle.std.specs.Prelude.{◌≡◌, true, List, ℕ, ◌≤◌, length}
use Rattle.octets.specs.Numbers.{byte_at}
use Rattle.ax25.specs.declared.Role.TheVariants.{Destination, Source}
use Rattle.ax25.specs.declared.Head.{Head}
use Rattle.ax25.specs.Address.{well_formed}
use Rattle.ax25.specs.Head.{head_length, longest_frame, control, head_of}

-- It has 16 to 271 bytes, two addresses, control 03 and the protocol named, and what is told are the addresses that its bytes spell.
pub record HeadSays (protocol : ℕ) (frame : List ℕ) (head : Head) : Type 0 where
  pub long : head_length ≤ length frame
  pub short : length frame ≤ longest_frame
  pub destination : well_formed Destination frame 0 ≡ true
  pub source : well_formed Source frame 7 ≡ true
  pub controlled : byte_at frame 14 ≡ control
  pub of_protocol : byte_at frame 15 ≡ protocol
  pub is : head ≡ head_of frame
