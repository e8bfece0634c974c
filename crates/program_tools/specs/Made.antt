-- What the builders of the trial programs answer.
-- Assumes nothing.
use Rattle.std.specs.Prelude.{ℕ, suc, ◌+◌, ◌*◌, ◌%◌, ◌^◌, cond, List, [], ◌∷◌, take, replicate, ◌==◌, bit_xor, slice_index, slice_set}
use Rattle.octets.specs.Numbers.{number_at, bytes_of}
use Rattle.octets.specs.Runs.{has_room, put_in}

-- a list with a run written at a place, where there is room for it
abbrev pub put_where : List ℕ → ℕ → List ℕ → List ℕ
put_where bytes at run = cond (has_room bytes at run) (put_in bytes at run) bytes

-- the sum that the lines show, with one number more
abbrev pub summed_with : ℕ → ℕ → ℕ
summed_with total more = (total % 65521 * 31 + more % 65521 + 1) % 65521

-- the same with all bytes of a list more, one after the other
abbrev pub sum_from : ℕ → List ℕ → ℕ
sum_from total [] = total
sum_from total (b ∷ s) = sum_from (summed_with total b) s

-- a list with bits turned over in the byte at a place, where there is one
abbrev pub turned : List ℕ → ℕ → ℕ → List ℕ
turned bytes at bits = slice_set bytes at (bit_xor (slice_index bytes at) bits)

-- a count, with one more where two bytes differ
abbrev pub and_one : ℕ → ℕ → ℕ → ℕ
and_one count a b = cond (a == b) count ((count + 1) % 2 ^ 32)

-- a count, with one more for each byte of a list that differs from the one that stood there before; the first of the list stands at a place
abbrev pub changed_from : ℕ → ℕ → List ℕ → List ℕ → ℕ
changed_from count at [] before = count
changed_from count at (b ∷ s) before = changed_from (and_one count b (slice_index before at)) (suc at) s before

-- a map by its first three bytes, as one number, and each other byte
abbrev pub map_by : ℕ → ℕ → List ℕ
map_by bits rest = put_where (replicate 4200 (rest % 256)) 0 (bytes_of 3 bits)

-- a buffer: ABCD at 0, IJ at a place, and A5 elsewhere
abbrev pub buffer_by : ℕ → List ℕ
buffer_by place = put_where (put_where (replicate 33000 165) 0 (65 ∷ 66 ∷ 67 ∷ 68 ∷ [])) place (73 ∷ 74 ∷ [])

-- how many bytes of a map and a buffer differ from those that the cells of a case tell: K (10) and R (17), and E (4)
abbrev pub changes_of : List ℕ → List ℕ → List ℕ → ℕ
changes_of c map buffer =
    (changed_from 0 0 map (map_by (slice_index c 10) (slice_index c 17)) + changed_from 0 0 buffer (buffer_by (slice_index c 4))) % 2 ^ 32

-- what is told of a call on a reception: two numbers, three bytes of its map, and how many bytes changed of as much of its map and
-- its buffer as the cells M (12) and B (1) lend
abbrev pub left_of : List ℕ → List ℕ → List ℕ → List ℕ → List ℕ
left_of c told map buffer =
    slice_index told 0 ∷ slice_index told 1 ∷ number_at 3 map 0 ∷ changes_of c (take (slice_index c 12) map) (take (slice_index c 1) buffer) ∷ []

-- the byte of rubbish of a kind at a place
abbrev pub rubbish_at : ℕ → ℕ → ℕ
rubbish_at at kind = (at % 65536 * 157 + kind % 256 * 73 + 91) % 256
