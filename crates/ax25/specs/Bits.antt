-- Bit 7 of a frame's two SSID bytes (02, C-12), chosen: it is told and written as it is, and decides nothing.
-- Assumes nothing.
use Rattle.std.specs.Prelude.{List, ℕ, ◌+◌, ◌*◌, ◌%◌, set}
use Rattle.octets.specs.Numbers.{byte_at}
use Rattle.ax25.specs.declared.Address.{Address}
use Rattle.ax25.specs.declared.Head.{Head}

-- an address with another bit 7
abbrev pub address_with : ℕ → Address → Address
address_with bit a = record a { bit7 = bit }

-- a head with those of its destination and its source
abbrev pub head_with : ℕ → ℕ → Head → Head
head_with to from head = record { destination = address_with to head.destination; source = address_with from head.source }

-- the bytes with another bit 7 at a place
abbrev pub byte_with : ℕ → ℕ → List ℕ → List ℕ
byte_with at bit s = set s at (bit * 128 + byte_at s at % 128)

-- a frame with those of both SSID bytes; with 0 and 0 both are cleared
abbrev pub frame_with : ℕ → ℕ → List ℕ → List ℕ
frame_with to from frame = byte_with 6 to (byte_with 13 from frame)
