-- Reading a record (01, "Record"): what the writer writes is accepted, and all else is refused.
-- Assumes nothing.
use Rattle.std.specs.Prelude.{Bool, not, cond, ◌&&◌, ◌||◌, List, [], ◌∷◌, ℕ, ◌+◌, ◌-◌, ◌*◌, leb, eqb, length, take, drop}
use Rattle.reason.specs.Answer.{Answer, accepted, refused}
use Rattle.reason.specs.Order.{check, first_of}
use Rattle.octets.specs.Numbers.{byte_at, number_at}
use Rattle.positions.specs.Spans.{every}
use Rattle.positions.specs.Map.{held, map_size}
use Rattle.reception.specs.Reception.{wrong_length}
use Rattle.reception.specs.declared.File.{File}
use Rattle.record.specs.Record.{map_at, buffer_at, record_length}

-- the number and the length that a record says
abbrev pub number_in : List ℕ → ℕ
number_in s = number_at 4 s 3

abbrev pub length_in : List ℕ → ℕ
length_in s = number_at 4 s 10

-- the n bytes of a record from a place on
abbrev pub part : List ℕ → ℕ → ℕ → List ℕ
part s at n = take n (drop at s)

-- the data of fields 03 and 04: the map and the buffer
abbrev pub map_in : List ℕ → List ℕ
map_in s = part s map_at (map_size (length_in s))

abbrev pub buffer_in : List ℕ → List ℕ
buffer_in s = part s (buffer_at (length_in s)) (length_in s)

-- the tag and the length of a field stand at a place
abbrev pub field_at : List ℕ → ℕ → ℕ → ℕ → Bool
field_at s at tag size = eqb (byte_at s at) tag && eqb (number_at 2 s (at + 1)) size

-- .. of all four, for a file of l bytes
abbrev pub fields_right : ℕ → List ℕ → Bool
fields_right l s = field_at s 0 1 4 && field_at s 7 2 4 && field_at s 14 3 (map_size l) && field_at s (map_at + map_size l) 4 l

-- the spare bits of a map are zero
abbrev pub spare_clear : ℕ → List ℕ → Bool
spare_clear l map = every (λ p. not (held map p)) l (map_size l * 8 - l)

-- unheld bytes are zero
abbrev pub unheld_clear : ℕ → List ℕ → List ℕ → Bool
unheld_clear l map buffer = every (λ p. held map p || eqb (byte_at buffer p) 0) 0 l

-- the length is in range, nothing follows, the fields are in their order, spare bits and unheld bytes are zero
unfoldable pub is_record : List ℕ → Bool
is_record s =
    let l = length_in s in
    not (wrong_length l)
    && eqb (length s) (record_length l)
    && fields_right l s
    && spare_clear l (map_in s)
    && unheld_clear l (map_in s) (buffer_in s)

-- what a record says
abbrev pub recorded_in : List ℕ → File
recorded_in s = record { number = number_in s; length = length_in s }

-- reading a record: 13
unfoldable pub read_record : List ℕ → Answer File
read_record s = first_of (check (not (is_record s)) 13 ∷ []) (recorded_in s)

-- the map of a record by the answer of reading it: no bytes if it was refused, or if a map of that answer's length does not fit
-- (then it is another record's answer)
abbrev pub map_read : Answer File → List ℕ → List ℕ
map_read (accepted r) s = cond (leb (map_at + map_size r.length) (length s)) (part s map_at (map_size r.length)) []
map_read (refused n) s = []
