-- Laws of a record that is read or loaded: it is the record of what it says, and loading loses nothing of it.
-- Assumes nothing.
use mathlib.Core.Path.{◌≡◌, refl, sym, ap, ap₂, ◌∙◌}
use mathlib.Core.Bool.{Bool, true, false, cond, not, ◌&&◌, ◌||◌}
use mathlib.Core.Logic.{⊎_elim}
use mathlib.Core.List.{List, ◌∷◌, ◌++◌}
use Prim.Native.Nat.{ℕ, ◌+◌, ◌-◌, ◌*◌, ◌/◌, ◌%◌, ◌≤◌, ◌<◌}
use native.Mathlib.Nat.{zero-add}
use native.Mathlib.Numerals.{add-one}
use native.Mathlib.Omega.{arith}
use lib.Dec.{eqb}
use lib.ListN.{length, take, drop, length-take, get_or-eq_default}
use lib.Seq.{take_all, take-add, drop-cons, get_or-take, get_or-drop, ext_get_or}
use borrow.Author.Tests.{eqb-true, not-true}
use Rattle.reason.proofs.Bools.{and_left, and_right, le_or_lt}
use Rattle.octets.specs.Numbers.{byte_at, number_at, bytes_of, AllBytes}
use Rattle.octets.specs.Runs.{put_in}
use Rattle.octets.proofs.NumberLaws.{bytes_back}
use Rattle.octets.proofs.RunLaws.{put_drop, put_within, put_after}
use Rattle.octets.proofs.ValueLaws.{values_same}
use Rattle.positions.specs.Map.{is_set, held, map_size}
use Rattle.positions.proofs.SpanLaws.{all_at}
use Rattle.positions.proofs.MapLaws.{held_by, map_is, map_ext, map_bytes, held_map}
use Rattle.reception.specs.Held.{held_of}
use Rattle.record.specs.Record.{saved_map, saved_buffer, record_of, map_at, buffer_at, record_length}
use Rattle.record.specs.Reading.{number_in, length_in, part, map_in, buffer_in, field_at, spare_clear, unheld_clear}
use Rattle.record.proofs.RecordLaws.{before_map, before_buffer, saved_map_long, saved_buffer_long, record_is}
use Rattle.record.proofs.GivenAnswers.{Formed, map_in_long, buffer_in_long}
use Rattle.record.proofs.SavedLaws.{held_below, held_beyond, saved_byte_at}

-- ---- a run at the front of a list
module _ (out run : List ℕ) (h : length run ≤ length out) where
  -- its bytes and its positions are the run's
  pub front_byte : (i : ℕ) → i < length run → byte_at (put_in out 0 run) i ≡ byte_at run i
  front_byte i g = ap (byte_at (put_in out 0 run)) (sym (zero-add i)) ∙ put_within out 0 run (omega arith) i g

  pub front_held : (p : ℕ) → p < length run * 8 → held (put_in out 0 run) p ≡ held run p
  front_held p g = held_by (put_in out 0 run) p ∙ ap (λ (x : ℕ). is_set x (p % 8)) (front_byte (p / 8) (omega arith)) ∙ sym (held_by run p)

  -- it is a list of bytes if both are
  pub front_bytes : AllBytes out → AllBytes run → AllBytes (put_in out 0 run)
  front_bytes a b i =
      ⊎_elim
      (λ g.
      let k : 0 + length run + (i - length run) ≡ i = omega arith in
      let e : byte_at (put_in out 0 run) i ≡ byte_at out i =
      ap (byte_at (put_in out 0 run)) (sym k) ∙ put_after out 0 run (omega arith) (i - length run) ∙ ap (byte_at out) k in
      let j = a i in omega (arith, e, j))
      (λ g. let e = front_byte i g in let j = b i in omega (arith, e, j))
      (le_or_lt (length run) i)

  -- what lies behind it stays
  pub front_behind : (n : ℕ) → length run ≡ n → drop n (put_in out 0 run) ≡ drop n out
  front_behind n e =
      let z : n ≡ 0 + length run + 0 = omega (arith, e) in
      ap (λ (k : ℕ). drop k (put_in out 0 run)) z ∙ put_drop out 0 run (omega arith) 0 ∙ ap (λ (k : ℕ). drop k out) (sym z)

-- ---- a record by what it holds
-- maps that hold the same positions of a file, and bytes that are the same there, are saved alike
pub saved_map_same : (l : ℕ) (m n : List ℕ) → ((p : ℕ) → p < l → held m p ≡ held n p) → saved_map l m ≡ saved_map l n
saved_map_same l m n e =
    map_ext (saved_map l m) (saved_map l n) (map_bytes (held_of l m) (map_size l)) (map_bytes (held_of l n) (map_size l))
    (saved_map_long l m ∙ sym (saved_map_long l n))
    (λ p h.
    let k = saved_map_long l m in
    let g : p < map_size l * 8 = omega (arith, h, k) in
    held_map (held_of l m) (map_size l) p g
    ∙ ⊎_elim (λ w. held_beyond l m p w ∙ sym (held_beyond l n p w)) (λ w. held_below l m p w ∙ e p w ∙ sym (held_below l n p w)) (le_or_lt l p)
    ∙ sym (held_map (held_of l n) (map_size l) p g))

pub saved_buffer_same : (l : ℕ) (m n b d : List ℕ) → ((p : ℕ) → p < l → held m p ≡ held n p) → ((p : ℕ) → p < l → byte_at b p ≡ byte_at d p)
    → saved_buffer l m b ≡ saved_buffer l n d
saved_buffer_same l m n b d e f =
    values_same (λ p. cond (held m p) (byte_at b p) 0) (λ p. cond (held n p) (byte_at d p) 0) 0 l
    (λ p h. ap₂ (λ (w : Bool) (x : ℕ). cond w x 0) (e p (omega arith)) (f p (omega arith)))

-- the record by its number, its length, its map and its buffer
made : ℕ → ℕ → List ℕ → List ℕ → List ℕ
made n l m b = before_map n l ++ m ++ before_buffer l ++ b

-- receptions of one file that hold the same positions, with the same bytes below its length, have one record
pub record_same : (n l : ℕ) (m k b d : List ℕ) → ((p : ℕ) → p < l → held m p ≡ held k p) → ((p : ℕ) → p < l → byte_at b p ≡ byte_at d p)
    → record_of (record { number = n; length = l; map = m; buffer = b }) ≡ record_of (record { number = n; length = l; map = k; buffer = d })
unfolding made
record_same n l m k b d e f =
    sym (record_is (record { number = n; length = l; map = m; buffer = b }))
    ∙ ap₂ (made n l) (saved_map_same l m k e) (saved_buffer_same l m k b d e f)
    ∙ record_is (record { number = n; length = l; map = k; buffer = d })

-- ---- a map with clear spare bits and bytes that are zero where nothing is held are saved as they are
pub map_as_is : (l : ℕ) (m : List ℕ) → AllBytes m → length m ≡ map_size l → spare_clear l m ≡ true → saved_map l m ≡ m
map_as_is l m a long e =
    sym (map_is (held_of l m) m (map_size l) a long
    (λ p h.
    ⊎_elim
    (λ w. not-true (held m p) (all_at (λ q. not (held m q)) l (map_size l * 8 - l) e p w (omega arith)) ∙ sym (held_beyond l m p w))
    (λ w. sym (held_below l m p w))
    (le_or_lt l p)))

zero_if : (b : Bool) (x : ℕ) → (b || eqb x 0) ≡ true → cond b x 0 ≡ x
zero_if true x e = refl
zero_if false x e = sym (eqb-true x 0 e)

pub buffer_as_is : (l : ℕ) (m b : List ℕ) → length b ≡ l → unheld_clear l m b ≡ true → saved_buffer l m b ≡ b
buffer_as_is l m b long e =
    let k = saved_buffer_long l m b in
    ext_get_or 0 (saved_buffer l m b) b (k ∙ sym long)
    (λ p h.
    let g : p < l = omega (arith, h, k) in
    saved_byte_at l m b p g ∙ zero_if (held m p) (byte_at b p) (all_at (λ q. held m q || eqb (byte_at b q) 0) 0 l e p (omega arith) (omega arith)))

-- ---- a record is the record of what it says
-- one part more of a list
join : (s x : List ℕ) (n k : ℕ) → x ≡ take n s → x ++ part s n k ≡ take (n + k) s
join s x n k e = ap (λ (l : List ℕ). l ++ part s n k) e ∙ sym (take-add n k s)

-- the tag and the length of a field are three bytes
field_bytes : (s : List ℕ) (at tag size : ℕ) → AllBytes s → at + 3 ≤ length s → field_at s at tag size ≡ true → tag ∷ bytes_of 2 size ≡ part s at 3
field_bytes s at tag size a h e =
    let t : byte_at s at ≡ tag = eqb-true (byte_at s at) tag (and_left (eqb (byte_at s at) tag) (eqb (number_at 2 s (at + 1)) size) e) in
    let n : number_at 2 s (at + 1) ≡ size = eqb-true (number_at 2 s (at + 1)) size (and_right (eqb (byte_at s at) tag) (eqb (number_at 2 s (at + 1)) size) e) in
    ap₂ (λ (x y : ℕ). x ∷ bytes_of 2 y) (sym t) (sym n)
    ∙ ap (λ (l : List ℕ). byte_at s at ∷ l) (bytes_back 2 s (at + 1) a (omega arith))
    ∙ ap (λ (i : ℕ). byte_at s at ∷ take 2 (drop i s)) (add-one at)
    ∙ ap (take 3) (sym (drop-cons s at 0 (omega arith)))

part_bytes : (s : List ℕ) (at n : ℕ) → AllBytes s → AllBytes (part s at n)
part_bytes s at n a i =
    ⊎_elim
    (λ g.
    let e : byte_at (part s at n) i ≡ 0 = get_or-eq_default (part s at n) 0 (length_most n (drop at s) i g) in omega (arith, e))
    (λ g.
    let e : byte_at (part s at n) i ≡ byte_at s (at + i) = get_or-take n (drop at s) i 0 g ∙ get_or-drop at s i 0 in
    let j = a (at + i) in omega (arith, e, j))
    (le_or_lt n i)
  where
    length_most : (n : ℕ) (l : List ℕ) (i : ℕ) → n ≤ i → length (take n l) ≤ i
    length_most n l i g = let k = length-take n l in omega (arith, k, g)

module _ (s : List ℕ) (a : AllBytes s) (f : Formed s) where
  abbrev l : ℕ
  l = length_in s

  abbrev size : ℕ
  size = map_size (length_in s)

  abbrev one : Bool
  one = field_at s 0 1 4

  abbrev two : Bool
  two = field_at s 7 2 4

  abbrev three : Bool
  three = field_at s 14 3 size

  abbrev four : Bool
  four = field_at s (map_at + size) 4 l

  three_fields : (one && two && three) ≡ true
  three_fields = and_left (one && two && three) four f.fields

  two_fields : (one && two) ≡ true
  two_fields = and_left (one && two) three three_fields

  long : record_length l ≤ length s
  long = let j = f.long in omega (arith, j)

  -- its parts from the front on
  to_number : (1 ∷ bytes_of 2 4) ++ bytes_of 4 (number_in s) ≡ take 7 s
  to_number =
      let h = long in
      ap₂ ◌++◌ (field_bytes s 0 1 4 a (omega (arith, h)) (and_left one two two_fields)) (bytes_back 4 s 3 a (omega (arith, h)))
      ∙ join s (part s 0 3) 3 4 refl

  to_length : (1 ∷ bytes_of 2 4) ++ bytes_of 4 (number_in s) ++ (2 ∷ bytes_of 2 4) ++ bytes_of 4 l ≡ take 14 s
  to_length =
      let h = long in
      ap₂ ◌++◌
      (ap₂ ◌++◌ to_number (field_bytes s 7 2 4 a (omega (arith, h)) (and_right one two two_fields)) ∙ join s (take 7 s) 7 3 refl)
      (bytes_back 4 s 10 a (omega (arith, h)))
      ∙ join s (take 10 s) 10 4 refl

  to_map : before_map (number_in s) l ≡ take 17 s
  to_map =
      let h = long in
      ap₂ ◌++◌ to_length (field_bytes s 14 3 size a (omega (arith, h)) (and_right (one && two) three three_fields)) ∙ join s (take 14 s) 14 3 refl

  to_buffer : before_map (number_in s) l ++ map_in s ++ before_buffer l ≡ take (buffer_at l) s
  to_buffer =
      let h = long in
      ap₂ ◌++◌
      (join s (before_map (number_in s) l) map_at size to_map)
      (field_bytes s (map_at + size) 4 l a (omega (arith, h)) (and_right (one && two && three) four f.fields))
      ∙ join s (take (map_at + size) s) (map_at + size) 3 refl

  -- put together from what it says, a record is itself
  pub record_of_parts : record_of (record { number = number_in s; length = length_in s; map = map_in s; buffer = buffer_in s }) ≡ s
  unfolding made
  record_of_parts =
      let h = long in
      let j = f.long in
      sym (record_is (record { number = number_in s; length = length_in s; map = map_in s; buffer = buffer_in s }))
      ∙ ap₂ (made (number_in s) l) (map_as_is l (map_in s) (part_bytes s map_at size a) (map_in_long s h) f.spare)
      (buffer_as_is l (map_in s) (buffer_in s) (buffer_in_long s h) f.unheld)
      ∙ join s (before_map (number_in s) l ++ map_in s ++ before_buffer l) (buffer_at l) l to_buffer
      ∙ take_all (record_length l) s (omega (arith, j))
