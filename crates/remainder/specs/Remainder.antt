-- The remainder by the polynomial of 16, 12, 5 and 0, start 0, most significant bit first (01, "Frame"), taken bit by bit.
-- Assumes nothing.
use Rattle.std.specs.Prelude.{List, [], ◌∷◌, ◌++◌, ℕ, ◌+◌, ◌*◌, ◌/◌, ◌%◌, ◌^◌}
use Rattle.std.specs.Int.Bits.{bit_xor}

-- the polynomial's bits below the 16th: 12, 5 and 0
abbrev pub polynomial : ℕ
polynomial = 2 ^ 12 + 2 ^ 5 + 2 ^ 0

-- One bit of the message. The 16 bits of the remainder move up by one; where the bit that leaves at the top (c / 2^15, 0 or
-- 1) and the message's bit differ, the polynomial is taken off. So a bit enters at the top, and what is left at the end is the
-- remainder of the message with 16 zero bits behind it, where the check bytes go.
unfoldable pub with_bit : ℕ → ℕ → ℕ
with_bit c bit = bit_xor (bit_xor (c / 2 ^ 15) bit * polynomial) (c * 2 % 2 ^ 16)

-- bit after bit, from the remainder c on
unfoldable pub with_bits : ℕ → List ℕ → ℕ
with_bits c [] = c
with_bits c (bit ∷ bits) = with_bits (with_bit c bit) bits

-- the eight bits of a byte, the most significant first
abbrev pub bits_of : ℕ → List ℕ
bits_of b = b / 128 % 2 ∷ b / 64 % 2 ∷ b / 32 % 2 ∷ b / 16 % 2 ∷ b / 8 % 2 ∷ b / 4 % 2 ∷ b / 2 % 2 ∷ b % 2 ∷ []

-- the bits of a message, byte after byte
unfoldable pub message_bits : List ℕ → List ℕ
message_bits [] = []
message_bits (b ∷ s) = bits_of b ++ message_bits s

-- the remainder of a message: start 0
unfoldable pub remainder_of : List ℕ → ℕ
remainder_of s = with_bits 0 (message_bits s)
