-- The cases of 01 and of 02, C-12, that addresses and heads decide, and both sides of their limits, by computation.
-- Assumes nothing.
use mathlib.Core.Path.{◌≡◌, refl}
use mathlib.Core.List.{List, [], ◌∷◌, ◌++◌}
use Prim.Native.Nat.{ℕ}
use lib.ListN.{take, replicate}
use Rattle.reason.specs.Answer.{accepted, refused}
use Rattle.reason.specs.Order.{first_of}
use Rattle.octets.specs.Runs.{put_in}
use Rattle.ax25.specs.declared.Role.TheVariants.{Destination, Source}
use Rattle.ax25.specs.Address.{is_name, is_writable, address_at, well_formed, read_address, write_address}
use Rattle.ax25.specs.Head.{head_checks, head_of, read_head, head_bytes, write_head}
use Rattle.ax25.specs.Bits.{address_with, frame_with}
use Rattle.ax25.specs.Examples.{va3sfl, va3sfl_bytes, uosat5, uosat5_bytes, qst, qst_bytes, ssids, lower_bytes, spaces, spaces_bytes}

-- a head from UOSAT5-11 to VA3SFL-0
abbrev pub frame : ℕ → ℕ → List ℕ
frame control protocol = va3sfl_bytes ++ uosat5_bytes 0x77 ++ control ∷ protocol ∷ []

-- .. with other SSID bytes is read as the same head with other bits, and written
abbrev pub BothWays : ℕ → ℕ → ℕ → ℕ → Type 0
BothWays to from bit bit' =
    let changed = ssids to from (frame 0x03 0xBB) in
    (read_head 0xBB changed ≡ accepted (record { destination = address_with bit va3sfl; source = address_with bit' (uosat5 11) }))
    × (write_head (replicate 16 0) (address_with bit va3sfl) (address_with bit' (uosat5 11)) 0xBB ≡ accepted changed)
    × (frame_with bit bit' (frame 0x03 0xBB) ≡ changed)

pub record Cases : Type 0 where
  pub va3sfl_written : write_address Destination (replicate 7 0) 0 va3sfl ≡ accepted va3sfl_bytes
  pub va3sfl_read : read_address Destination va3sfl_bytes 0 ≡ accepted va3sfl
  pub uosat5_written : write_address Source (replicate 7 0) 0 (uosat5 11) ≡ accepted (uosat5_bytes 0x77)
  pub uosat5_read : read_address Source (uosat5_bytes 0x77) 0 ≡ accepted (uosat5 11)
  pub six_c_in_a_source : read_address Source (uosat5_bytes 0x6C) 0 ≡ refused 2
  pub six_c_in_a_destination : read_address Destination (uosat5_bytes 0x6C) 0 ≡ accepted (uosat5 6)
  pub qst_written : write_address Destination (replicate 7 0) 0 qst ≡ accepted qst_bytes
  pub qst_read : read_address Destination qst_bytes 0 ≡ accepted qst
  pub f7_written : write_address Source (replicate 7 0) 0 (address_with 1 (uosat5 11)) ≡ accepted (uosat5_bytes 0xF7)
  pub f7_read : read_address Source (uosat5_bytes 0xF7) 0 ≡ accepted (address_with 1 (uosat5 11))
  pub f7_in_a_destination : read_address Destination (uosat5_bytes 0xF7) 0 ≡ refused 2
  pub e_c_in_a_source : read_address Source (uosat5_bytes 0xEC) 0 ≡ refused 2
  pub e_c_in_a_destination : read_address Destination (uosat5_bytes 0xEC) 0 ≡ accepted (address_with 1 (uosat5 6))
  pub bit_6_clear : (read_address Source (uosat5_bytes 0xB7) 0 ≡ refused 2) × (read_address Source (uosat5_bytes 0x37) 0 ≡ refused 2)
  pub bit_5_clear : (read_address Source (uosat5_bytes 0xD7) 0 ≡ refused 2) × (read_address Source (uosat5_bytes 0x57) 0 ≡ refused 2)
  pub bit_of_2 : write_address Source (replicate 7 0) 0 (address_with 2 (uosat5 11)) ≡ refused 2
  pub lower_case : read_address Source lower_bytes 0 ≡ refused 2
  pub spaces_read : read_address Destination spaces_bytes 0 ≡ refused 2
  pub spaces_written : write_address Destination (replicate 7 0) 0 spaces ≡ refused 2
  pub number_15 : write_address Source (replicate 7 0) 0 (uosat5 15) ≡ accepted (uosat5_bytes 0x7F)
  pub number_16 : write_address Source (replicate 7 0) 0 (uosat5 16) ≡ refused 2
  pub six_bytes_read : read_address Source (take 6 (uosat5_bytes 0x77)) 0 ≡ refused 2
  pub six_bytes_written : write_address Source (replicate 6 0) 0 (uosat5 11) ≡ refused 12
  pub head_written : write_head (replicate 16 0) va3sfl (uosat5 11) 0xBB ≡ accepted (frame 0x03 0xBB)
  pub head_read : read_head 0xBB (frame 0x03 0xBB) ≡ accepted (record { destination = va3sfl; source = uosat5 11 })
  pub neither_bit : BothWays 0x60 0x77 0 0
  pub destination_bit : BothWays 0xE0 0x77 1 0
  pub source_bit : BothWays 0x60 0xF7 0 1
  pub both_bits : BothWays 0xE0 0xF7 1 1
  pub source_malformed : write_head (replicate 16 0) va3sfl spaces 0xBB ≡ refused 2
  pub target_of_15 : write_head (replicate 15 0) va3sfl (uosat5 11) 0xBB ≡ refused 12
  pub frame_of_15 : read_head 0xBB (take 15 (frame 0x03 0xBB)) ≡ refused 1
  pub source_as_destination : read_head 0xBB (va3sfl_bytes ++ va3sfl_bytes ++ 0x03 ∷ 0xBB ∷ []) ≡ refused 2
  pub control_before_protocol : read_head 0xBB (frame 0x13 0xBD) ≡ refused 3
  pub protocol : read_head 0xBB (frame 0x03 0xBD) ≡ refused 4
  pub frame_of_271 : read_head 0xBB (frame 0x03 0xBB ++ replicate 255 0) ≡ accepted (record { destination = va3sfl; source = uosat5 11 })
  pub frame_of_272 : read_head 0xBB (frame 0x03 0xBB ++ replicate 256 0) ≡ refused 7
  pub protocol_before_length : read_head 0xBB (frame 0x03 0xBD ++ replicate 256 0) ≡ refused 4

pub cases : Cases
unfolding first_of put_in is_name is_writable address_at well_formed read_address write_address head_checks head_of head_bytes write_head
cases = record {
  va3sfl_written = refl;
  va3sfl_read = refl;
  uosat5_written = refl;
  uosat5_read = refl;
  six_c_in_a_source = refl;
  six_c_in_a_destination = refl;
  qst_written = refl;
  qst_read = refl;
  f7_written = refl;
  f7_read = refl;
  f7_in_a_destination = refl;
  e_c_in_a_source = refl;
  e_c_in_a_destination = refl;
  bit_6_clear = (refl, refl);
  bit_5_clear = (refl, refl);
  bit_of_2 = refl;
  lower_case = refl;
  spaces_read = refl;
  spaces_written = refl;
  number_15 = refl;
  number_16 = refl;
  six_bytes_read = refl;
  six_bytes_written = refl;
  head_written = refl;
  head_read = refl;
  neither_bit = (refl, refl, refl);
  destination_bit = (refl, refl, refl);
  source_bit = (refl, refl, refl);
  both_bits = (refl, refl, refl);
  source_malformed = refl;
  target_of_15 = refl;
  frame_of_15 = refl;
  source_as_destination = refl;
  control_before_protocol = refl;
  protocol = refl;
  frame_of_271 = refl;
  frame_of_272 = refl;
  protocol_before_length = refl;
}
