-- An address as one number (01, "What the station does"): a host program hands over numbers and byte slices alone.
-- Assumes nothing.
use Rattle.std.specs.Prelude.{[], ◌∷◌, ◌++◌, ℕ, ◌/◌, ◌%◌, ◌^◌}
use Rattle.octets.specs.Numbers.{number_at, bytes_of}
use Rattle.ax25.specs.declared.Address.{Address}
use Rattle.ax25.specs.Address.{characters_of}

-- its six characters, its number and its bit 7, a byte each, least significant byte first
abbrev pub address_number : Address → ℕ
address_number a = number_at 8 (characters_of a ++ a.number ∷ a.bit7 ∷ []) 0

-- the address that a number tells: each of its eight bytes as it is, whether or not such an address can be written
unfoldable pub address_of : ℕ → Address
address_of n = record {
  characters = bytes_of 6 n;
  number = n / 256 ^ 6 % 256;
  bit7 = n / 256 ^ 7;
}
