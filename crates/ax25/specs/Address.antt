-- The AX.25 address (01, "Frame", and 02, C-12): six characters, each shifted left by one, and an SSID byte.
-- Assumes nothing.
use Rattle.std.specs.Prelude.{Bool, true, not, ◌&&◌, ◌||◌, List, [], ◌∷◌, ◌++◌, map, ℕ, ◌+◌, ◌*◌, ◌/◌, ◌%◌, leb, ltb, eqb, length}
use Rattle.std.specs.List.{list_all}
use Rattle.reason.specs.Answer.{Answer}
use Rattle.reason.specs.Order.{Check, check, first_of}
use Rattle.octets.specs.Numbers.{byte_at}
use Rattle.octets.specs.Values.{values_from}
use Rattle.octets.specs.Runs.{has_room, put_in}
use Rattle.ax25.specs.declared.Address.{Address}
use Rattle.ax25.specs.declared.Role.{Role}
use Rattle.ax25.specs.declared.Role.TheVariants.{Destination, Source}

-- A–Z and 0–9
abbrev pub is_character : ℕ → Bool
is_character c = (leb 0x41 c && leb c 0x5A) || (leb 0x30 c && leb c 0x39)

-- nothing but spaces
abbrev pub all_spaces : List ℕ → Bool
all_spaces cs = list_all (λ c. eqb c 0x20) cs

-- characters, padded at the end with spaces
abbrev pub padded : List ℕ → Bool
padded [] = true
padded (c ∷ cs) = (is_character c && padded cs) || all_spaces (c ∷ cs)

-- its six characters
abbrev pub characters_of : Address → List ℕ
characters_of a = a.characters

-- six characters from A–Z and 0–9, padded at the end with spaces, not all spaces
unfoldable pub is_name : Address → Bool
is_name a = eqb (length (characters_of a)) 6 && padded (characters_of a) && not (all_spaces (characters_of a))

-- an address that can be written: a name, a number of four bits, and one bit
unfoldable pub is_writable : Address → Bool
is_writable a = is_name a && ltb a.number 16 && ltb a.bit7 2

-- bit 0 of the SSID byte is 0 in the destination and 1 in the source
abbrev pub last_bit : Role → ℕ
last_bit Destination = 0
last_bit Source = 1

-- the SSID byte: bit 7 is the address's own, bits 6 and 5 are 11, bits 4 to 1 the number, bit 0 the role's
abbrev pub ssid_byte : Role → Address → ℕ
ssid_byte role a = a.bit7 * 128 + 0x60 + a.number * 2 + last_bit role

-- the seven bytes: each character shifted left by one, and the SSID byte
abbrev pub address_bytes : Role → Address → List ℕ
address_bytes role a = values_from (λ k. byte_at (characters_of a) k * 2) 0 6 ++ ssid_byte role a ∷ []

-- the six bytes from a place on
abbrev pub six_at : List ℕ → ℕ → List ℕ
six_at s at = values_from (byte_at s) at 6

-- what the seven bytes from a place on spell
unfoldable pub address_at : List ℕ → ℕ → Address
address_at s at = record {
  characters = map (λ b. b / 2) (six_at s at);
  number = byte_at s (at + 6) / 2 % 16;
  bit7 = byte_at s (at + 6) / 128;
}

-- each character's low bit is 0
abbrev pub low_bits_clear : List ℕ → ℕ → Bool
low_bits_clear s at = list_all (λ b. eqb (b % 2) 0) (six_at s at)

-- an SSID byte: bit 7 is free, bits 6 and 5 are 11, bit 0 is the role's
abbrev pub ssid_right : Role → ℕ → Bool
ssid_right role b = eqb (b / 32 % 4) 3 && eqb (b % 2) (last_bit role)

-- the seven bytes from a place on are an address; where the list ends before the seventh, its SSID byte reads as 0 and is
-- not right
unfoldable pub well_formed : Role → List ℕ → ℕ → Bool
well_formed role s at = low_bits_clear s at && ssid_right role (byte_at s (at + 6)) && is_name (address_at s at)

-- the order in reading: 2
abbrev pub address_read_checks : Role → List ℕ → ℕ → List Check
address_read_checks role s at = check (not (well_formed role s at)) 2 ∷ []

-- reading the address from a place on: what the seven bytes spell
unfoldable pub read_address : Role → List ℕ → ℕ → Answer Address
read_address role s at = first_of (address_read_checks role s at) (address_at s at)

-- the order in writing: 2, 12
abbrev pub address_write_checks : Role → List ℕ → ℕ → Address → List Check
address_write_checks role out at a = check (not (is_writable a)) 2 ∷ check (not (has_room out at (address_bytes role a))) 12 ∷ []

-- writing an address into a list from a place on: the list with its seven bytes there
unfoldable pub write_address : Role → List ℕ → ℕ → Address → Answer (List ℕ)
write_address role out at a = first_of (address_write_checks role out at a) (put_in out at (address_bytes role a))
