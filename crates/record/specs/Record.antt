-- A record of a reception (01, "Record"): fields in this order, each a one-byte tag, a two-byte length, and data: 01 number (4),
-- 02 length (4), 03 map, 04 buffer. Spare bits and unheld bytes are zero.
-- Assumes nothing.
use Rattle.std.specs.Prelude.{cond, List, ◌∷◌, ◌++◌, ℕ, ◌+◌, length}
use Rattle.octets.specs.Numbers.{byte_at, bytes_of}
use Rattle.octets.specs.Values.{values_from}
use Rattle.positions.specs.Map.{held, map_size, map_of}
use Rattle.reception.specs.Reception.{Reception}
use Rattle.reception.specs.Held.{held_of}

-- a field: tag, length and data
abbrev pub field : ℕ → List ℕ → List ℕ
field tag bytes = tag ∷ (bytes_of 2 (length bytes) ++ bytes)

-- field 03, the map: held are the positions of the file that the reception holds; spare bits are zero
abbrev pub saved_map : ℕ → List ℕ → List ℕ
saved_map l map = map_of (held_of l map) (map_size l)

-- field 04, the buffer: a held byte is the reception's; an unheld one is zero
abbrev pub saved_buffer : ℕ → List ℕ → List ℕ → List ℕ
saved_buffer l map buffer = values_from (λ p. cond (held map p) (byte_at buffer p) 0) 0 l

-- the record of a reception
unfoldable pub record_of : Reception → List ℕ
record_of s =
    field 1 (bytes_of 4 s.number)
    ++ field 2 (bytes_of 4 s.length)
    ++ field 3 (saved_map s.length s.map)
    ++ field 4 (saved_buffer s.length s.map s.buffer)

-- where field 03's data stand, and where field 04's do in the record of a file of l bytes
abbrev pub map_at : ℕ
map_at = 17

abbrev pub buffer_at : ℕ → ℕ
buffer_at l = map_at + map_size l + 3

-- how many bytes a record has: 20 + ceil(L/8) + L
abbrev pub record_length : ℕ → ℕ
record_length l = buffer_at l + l
