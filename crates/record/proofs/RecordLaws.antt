-- Laws of a record's shape: its four parts one behind the other, how long it is, and how it is written part by part.
-- Assumes nothing.
use mathlib.Core.Path.{◌≡◌, refl, sym, ap, ap₂, ◌∙◌}
use mathlib.Core.Bool.{Bool}
use mathlib.Core.List.{List, [], ◌∷◌, ◌++◌, append_assoc}
use Prim.Native.Nat.{ℕ, ◌+◌, ◌≤◌}
use native.Mathlib.Omega.{arith}
use lib.ListN.{length, get_or, length-append}
use Rattle.octets.specs.Numbers.{bytes_of}
use Rattle.octets.specs.Runs.{put_in, Put}
use Rattle.octets.proofs.ValueLaws.{values_long}
use Rattle.octets.proofs.RunLaws.{put_length, put_fits, put_put}
use Rattle.positions.specs.Map.{map_size}
use Rattle.positions.proofs.MapLaws.{map_long}
use Rattle.reception.specs.Reception.{Reception}
use Rattle.record.specs.Record.{field, saved_map, saved_buffer, record_of, map_at, buffer_at, record_length}

-- the bytes before the map, and the bytes between the map and the buffer
abbrev pub before_map : ℕ → ℕ → List ℕ
before_map number l = field 1 (bytes_of 4 number) ++ field 2 (bytes_of 4 l) ++ 3 ∷ bytes_of 2 (map_size l)

abbrev pub before_buffer : ℕ → List ℕ
before_buffer l = 4 ∷ bytes_of 2 l

-- .. as they are put together from the bytes of numbers
pub before_map_is : (number l size : ℕ) (n k z : List ℕ) → n ≡ bytes_of 4 number → k ≡ bytes_of 4 l → z ≡ bytes_of 2 size → size ≡ map_size l
    → 1 ∷ 4 ∷ 0 ∷ get_or n 0 0 ∷ get_or n 1 0 ∷ get_or n 2 0 ∷ get_or n 3 0
    ∷ 2 ∷ 4 ∷ 0 ∷ get_or k 0 0 ∷ get_or k 1 0 ∷ get_or k 2 0 ∷ get_or k 3 0 ∷ 3 ∷ get_or z 0 0 ∷ get_or z 1 0 ∷ [] ≡ before_map number l
before_map_is number l size n k z e f g h = rw (e, f, g, h)

pub before_buffer_is : (l : ℕ) (z : List ℕ) → z ≡ bytes_of 2 l → 4 ∷ get_or z 0 0 ∷ get_or z 1 0 ∷ [] ≡ before_buffer l
before_buffer_is l z e = rw e

-- how long the map and the buffer of a record are
pub saved_map_long : (l : ℕ) (map : List ℕ) → length (saved_map l map) ≡ map_size l
saved_map_long l map = map_long _ (map_size l)

pub saved_buffer_long : (l : ℕ) (map buffer : List ℕ) → length (saved_buffer l map buffer) ≡ l
saved_buffer_long l map buffer = values_long _ 0 l

-- the front of a record: up to its map, past its map, and up to its buffer
abbrev pub up_to_map : Reception → List ℕ
up_to_map s = before_map s.number s.length

abbrev pub past_map : Reception → List ℕ
past_map s = up_to_map s ++ saved_map s.length s.map

abbrev pub up_to_buffer : Reception → List ℕ
up_to_buffer s = past_map s ++ before_buffer s.length

-- how long they are
pub past_map_long : (s : Reception) → length (past_map s) ≡ map_at + map_size s.length
past_map_long s = let n = saved_map_long s.length s.map in let k = length-append (up_to_map s) (saved_map s.length s.map) in omega (arith, n, k)

pub up_to_buffer_long : (s : Reception) → length (up_to_buffer s) ≡ buffer_at s.length
up_to_buffer_long s = let n = past_map_long s in let k = length-append (past_map s) (before_buffer s.length) in omega (arith, n, k)

module _ (s : Reception) where
  abbrev sm : List ℕ
  sm = saved_map s.length s.map

  abbrev sb : List ℕ
  sb = saved_buffer s.length s.map s.buffer

  -- a record is its four parts, one behind the other
  pub record_is : up_to_buffer s ++ saved_buffer s.length s.map s.buffer ≡ record_of s
  unfolding record_of
  record_is =
      ap₂ (λ (a b : ℕ). field 1 (bytes_of 4 s.number) ++ field 2 (bytes_of 4 s.length) ++ 3 ∷ bytes_of 2 a ++ sm ++ 4 ∷ bytes_of 2 b ++ sb)
      (sym (saved_map_long s.length s.map)) (sym (saved_buffer_long s.length s.map s.buffer))
      ∙ append_assoc (field 1 (bytes_of 4 s.number) ++ field 2 (bytes_of 4 s.length) ++ 3 ∷ bytes_of 2 (length sm) ++ sm) (4 ∷ bytes_of 2 (length sb)) sb

  -- how long it is
  pub record_long : length (record_of s) ≡ record_length s.length
  record_long =
      let a = up_to_buffer_long s in
      let b = saved_buffer_long s.length s.map s.buffer in
      let c = length-append (up_to_buffer s) sb in
      ap length (sym record_is) ∙ (omega (arith, a, b, c))

-- ---- written part by part
-- a list with a run at its front, and as long as it was
abbrev pub Written : List ℕ → List ℕ → List ℕ → Type 0
Written out run left = (left ≡ put_in out 0 run) × (length left ≡ length out)

-- one run more, right behind what was written so far
put_behind : (out a b so_far after : List ℕ) (n : ℕ) → Written out a so_far → length a ≡ n → after ≡ put_in so_far n b → n + length b ≤ length out
    → Written out (a ++ b) after
put_behind out a b so_far after n e f g h =
    let k : 0 + length a ≡ n = omega arith in
    let all : after ≡ put_in out 0 (a ++ b) =
    g ∙ ap₂ (λ (l : List ℕ) (i : ℕ). put_in l i b) e.0 (sym k) ∙ put_put out 0 a b (omega arith) in
    let c = length-append a b in
    (all, ap length all ∙ put_length out 0 (a ++ b) (omega (arith, c)))

-- .. four times: a record
module _ (s : Reception) (out : List ℕ) (room : record_length s.length ≤ length out) where
  -- the bytes before the map
  pub front_put : (x : List ℕ) (r : Bool) (a : List ℕ) → x ≡ up_to_map s → Put out 0 x r a → Written out (up_to_map s) a
  front_put x r a is p =
      let n : length x ≡ 17 = ap length is in
      let e : a ≡ put_in out 0 (up_to_map s) = (put_fits out 0 x r a p (omega arith)).1 ∙ ap (put_in out 0) is in
      (e, ap length e ∙ put_length out 0 (up_to_map s) (omega arith))

  -- the map
  pub map_put : (a b : List ℕ) → Written out (up_to_map s) a → b ≡ put_in a map_at (saved_map s.length s.map) → Written out (past_map s) b
  map_put a b e p =
      let n = saved_map_long s.length s.map in
      put_behind out (up_to_map s) (saved_map s.length s.map) a b map_at e refl p (omega (arith, n, room))

  module _ (size : ℕ) (is_size : size ≡ map_size s.length) where
    -- the tag and length of the bytes
    pub tag_put : (b x : List ℕ) (r : Bool) (c : List ℕ) → Written out (past_map s) b → x ≡ before_buffer s.length → Put b (map_at + size) x r c
        → Written out (up_to_buffer s) c
    tag_put b x r c e is p =
        let n = past_map_long s in
        let m : length x ≡ 3 = ap length is in
        let k = e.1 in
        put_behind out (past_map s) (before_buffer s.length) b c (map_at + size) e (omega (arith, n, is_size))
        ((put_fits b (map_at + size) x r c p (omega (arith, is_size, room, k, m))).1 ∙ ap (put_in b (map_at + size)) is) (omega (arith, is_size, room))

    -- the bytes
    pub bytes_put : (c d : List ℕ) → Written out (up_to_buffer s) c → d ≡ put_in c (map_at + size + 3) (saved_buffer s.length s.map s.buffer)
        → d ≡ put_in out 0 (record_of s)
    bytes_put c d e p =
        let n = up_to_buffer_long s in
        let m = saved_buffer_long s.length s.map s.buffer in
        (put_behind out (up_to_buffer s) (saved_buffer s.length s.map s.buffer) c d (map_at + size + 3) e (omega (arith, n, is_size)) p
        (omega (arith, is_size, room, m))).0
        ∙ ap (put_in out 0) (record_is s)
