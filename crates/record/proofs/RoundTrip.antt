-- What is saved is a record and loads again; what is loaded is what was saved, and saves again to the same record (01, "Record").
-- Assumes nothing.
use mathlib.Core.Path.{◌≡◌, refl, sym, ap, ap₂, ◌∙◌}
use mathlib.Core.Bool.{Bool, true, false, cond, ◌||◌}
use mathlib.Core.Logic.{⊎_elim}
use mathlib.Core.List.{List}
use Prim.Native.Nat.{ℕ, ◌+◌, ◌*◌, ◌^◌, ◌≤◌, ◌<◌}
use native.Mathlib.Omega.{arith}
use lib.ListN.{length, take, drop}
use borrow.Author.Tests.{le-ltb, not-false}
use Rattle.reason.specs.Answer.{accepted}
use Rattle.reason.proofs.Bools.{le_or_lt}
use Rattle.reason.proofs.OrderLaws.{accepted_only_if}
use Rattle.octets.specs.Numbers.{byte_at, AllBytes}
use Rattle.octets.specs.Runs.{put_in}
use Rattle.octets.proofs.RunLaws.{put_length, put_take}
use Rattle.positions.specs.Map.{held, map_size}
use Rattle.positions.proofs.MapLaws.{map_bytes}
use Rattle.reception.specs.Reception.{Reception, longest, wrong_length, short_space}
use Rattle.reception.specs.Held.{held_of}
use Rattle.reception.specs.Contents.{HoldsOf, itself, beyond}
use Rattle.reception.proofs.OfferLaws.{enough_space, right_length}
use Rattle.reception.proofs.Holding.{same_reception, space_enough}
use Rattle.reception.specs.declared.File.{File}
use Rattle.record.specs.Record.{saved_map, saved_buffer, record_of, record_length}
use Rattle.record.specs.Reading.{number_in, length_in, map_in, buffer_in, is_record, recorded_in, read_record}
use Rattle.record.specs.Saving.{saving_checks, saving}
use Rattle.record.specs.Loading.{loading_checks, loading, loaded_map, loaded_buffer, loaded}
use Rattle.record.specs.GivenBack.{GivesBack}
use Rattle.record.proofs.RecordLaws.{saved_map_long, saved_buffer_long, record_long}
use Rattle.record.proofs.GivenAnswers.{Formed, is_formed, map_in_long, buffer_in_long, reads, saves, loads, room_to_save}
use Rattle.record.proofs.SavedLaws.{saved_held, held_below, held_beyond, saved_byte_at, saved_number, saved_length, saved_map_in, saved_buffer_in, saved_formed}
use Rattle.record.proofs.LoadedLaws.{front_byte, front_held, front_bytes, front_behind, record_same, record_of_parts}

-- ---- saved, and read
module _ (s : Reception) (right : wrong_length s.length ≡ false) (four : s.number < 256 ^ 4) where
  -- what a saved record says
  says_of : recorded_in (record_of s) ≡ record { number = s.number; length = s.length }
  says_of =
      ap₂ (λ (n l : ℕ). let x : File = record { number = n; length = l } in x) (saved_number s right four) (saved_length s right)

  -- What `save` writes for a file of a right length is a record. It says the file's number and length, its map is the
  -- positions that the reception holds, and its bytes are the reception's where they are held and else zero.
  pub saved_is_record : (is_record (record_of s) ≡ true)
      × (read_record (record_of s) ≡ accepted (record { number = s.number; length = s.length }))
      × (map_in (record_of s) ≡ saved_map s.length s.map)
      × (buffer_in (record_of s) ≡ saved_buffer s.length s.map s.buffer)
  saved_is_record = (
    saved_formed s right,
    reads (record_of s) (saved_formed s right) ∙ ap accepted says_of,
    saved_map_in s right,
    saved_buffer_in s right,
  )

  -- ---- .. and loaded
  module _ (map buffer : List ℕ) (room : short_space s.length map buffer ≡ false) where
    abbrev l : ℕ
    l = s.length

    abbrev m : List ℕ
    m = saved_map l s.map

    abbrev b : List ℕ
    b = saved_buffer l s.map s.buffer

    -- the lent map and buffer with the saved map and buffer
    map_is : loaded_map (record_of s) map ≡ put_in map 0 m
    map_is = ap (put_in map 0) (saved_map_in s right)

    buffer_is : loaded_buffer (record_of s) buffer ≡ put_in buffer 0 b
    buffer_is = ap (put_in buffer 0) (saved_buffer_in s right)

    map_room : length m ≤ length map
    map_room = let w = enough_space l map buffer room in let e = saved_map_long l s.map in omega (arith, w, e)

    buffer_room : length b ≤ length buffer
    buffer_room = let w = enough_space l map buffer room in let e = saved_buffer_long l s.map s.buffer in omega (arith, w, e)

    loads_it : loading (record_of s) map buffer ≡ accepted (record { number = s.number; length = s.length })
    loads_it =
        loads (record_of s) map buffer (saved_formed s right) (ap (λ (n : ℕ). short_space n map buffer) (saved_length s right) ∙ room) ∙ ap accepted says_of

    gives_back : GivesBack s (loaded (record_of s) map buffer)
    gives_back =
        let e = saved_map_long l s.map in
        let f = saved_buffer_long l s.map s.buffer in record {
          numbered = saved_number s right four;
          sized = saved_length s right;
          holds = λ p h. ap (λ (x : List ℕ). held x p) map_is ∙ front_held map m map_room p (omega (arith, e, h)) ∙ saved_held l s.map p h;
          bytes = λ p h.
              ap (λ (x : List ℕ). byte_at x p) buffer_is
              ∙ front_byte buffer b buffer_room p (omega (arith, f, h))
              ∙ saved_byte_at l s.map s.buffer p h;
        }

-- what an accepted saving says
saving_says : (s : Reception) (target : List ℕ) (n : ℕ) → saving s target ≡ accepted n
    → (wrong_length s.length ≡ false) × (record_length s.length ≤ length target) × (n ≡ record_length s.length)
unfolding saving
saving_says s target n e =
    let w = accepted_only_if (saving_checks s target) (record_length s.length) n e in
    (w.0.0, (room_to_save s.length s.map s.buffer target w.0.1.0).2, w.1)

-- A record that was written to a target is its first bytes.
pub record_stands : (s : Reception) (target : List ℕ) → record_length s.length ≤ length target
    → take (record_length s.length) (put_in target 0 (record_of s)) ≡ record_of s
record_stands s target room =
    let k = record_long s in
    let z : record_length s.length ≡ 0 + length (record_of s) = omega (arith, k) in
    ap (λ (i : ℕ). take i (put_in target 0 (record_of s))) z ∙ put_take target 0 (record_of s) (omega (arith, k, room))

-- Where a reception is saved, the record is the first n bytes of the target, n being the answer; and that record, loaded into any
-- map and buffer that are long enough, answers the reception's number and length and gives the reception back.
pub load_after_save : (s : Reception) (target : List ℕ) (n : ℕ) → s.number < 256 ^ 4 → saving s target ≡ accepted n
    → (take n (put_in target 0 (record_of s)) ≡ record_of s)
    × ((map buffer : List ℕ) → short_space s.length map buffer ≡ false
    → (loading (record_of s) map buffer ≡ accepted (record { number = s.number; length = s.length }))
    × GivesBack s (loaded (record_of s) map buffer))
load_after_save s target n four e =
    let w = saving_says s target n e in (
      ap (λ (i : ℕ). take i (put_in target 0 (record_of s))) w.2 ∙ record_stands s target w.1,
      λ map buffer room. (loads_it s w.0 four map buffer room, gives_back s w.0 four map buffer room),
    )

-- ---- by the file and the set of held positions
twice : (b : Bool) (x : ℕ) → cond b (cond b x 0) 0 ≡ cond b x 0
twice true x = refl
twice false x = refl

-- A reception of a file is saved wherever the target has room.
pub holding_is_saved : (number l : ℕ) (file : List ℕ) (set : ℕ → Bool) (s : Reception) → HoldsOf number l file set s → wrong_length l ≡ false
    → (target : List ℕ) → record_length l ≤ length target → saving s target ≡ accepted (record_length l)
holding_is_saved number l file set s h right target room =
    let z = h.sized in
    saves s target (ap wrong_length z ∙ right)
    (ap₂ ◌||◌ (space_enough number l file set s h) (le-ltb (length target) (record_length s.length) (omega (arith, z, room))))
    ∙ ap (λ (n : ℕ). accepted (record_length n)) z

module _ (number l : ℕ) (file : List ℕ) (set : ℕ → Bool) (s : Reception) (h : HoldsOf number l file set s) (right : wrong_length l ≡ false)
    (four : number < 256 ^ 4) (map buffer : List ℕ) (room : short_space l map buffer ≡ false) (all : AllBytes map) where
  abbrev t : Reception
  t = loaded (record_of s) map buffer

  right_s : wrong_length s.length ≡ false
  right_s = ap wrong_length h.sized ∙ right

  four_s : s.number < 256 ^ 4
  four_s = let e = h.numbered in omega (arith, e, four)

  room_s : short_space s.length map buffer ≡ false
  room_s = ap (λ (n : ℕ). short_space n map buffer) h.sized ∙ room

  back : GivesBack s t
  back = gives_back s right_s four_s map buffer room_s

  given_set : (p : ℕ) → p < map_size l * 8 → held_of s.length s.map p ≡ set p
  given_set p g =
      let z = h.sized in
      ⊎_elim
      (λ w. held_beyond s.length s.map p (omega (arith, z, w)) ∙ sym (h.below p w))
      (λ w. held_below s.length s.map p (omega (arith, z, w)) ∙ h.holds p g)
      (le_or_lt l p)

  map_long : length t.map ≡ length map
  map_long =
      let k = map_room s right_s four_s map buffer room_s in
      ap length (map_is s right_s four_s map buffer room_s) ∙ put_length map 0 (saved_map s.length s.map) (omega (arith, k))

  buffer_long : length t.buffer ≡ length buffer
  buffer_long =
      let k = buffer_room s right_s four_s map buffer room_s in
      ap length (buffer_is s right_s four_s map buffer room_s) ∙ put_length buffer 0 (saved_buffer s.length s.map s.buffer) (omega (arith, k))

  map_all : AllBytes t.map
  map_all i =
      let e = ap (λ (x : List ℕ). byte_at x i) (map_is s right_s four_s map buffer room_s) in
      let j = map_room s right_s four_s map buffer room_s in
      let k = front_bytes map (saved_map s.length s.map) j all (map_bytes (held_of s.length s.map) (map_size s.length)) i in
      omega (arith, e, k)

  -- It loads into any map and buffer that are long enough, and its number and length are told.
  pub holding_is_loaded : loading (record_of s) map buffer ≡ accepted (record { number = number; length = l })
  holding_is_loaded =
      loads_it s right_s four_s map buffer room_s
      ∙ ap₂ (λ (n k : ℕ). let x : File = record { number = n; length = k } in accepted x) h.numbered h.sized

  -- A reception that holds a set of a file's positions is given back as one that holds the same set of the same file.
  pub holding_is_given_back : HoldsOf number l file set (loaded (record_of s) map buffer)
  holding_is_given_back =
      let z = h.sized in
      let w = enough_space l map buffer room in record {
        numbered = back.numbered ∙ h.numbered;
        sized = back.sized ∙ h.sized;
        map_long = let e = map_long in omega (arith, e, w);
        buffer_long = let e = buffer_long in omega (arith, e, w);
        map_bytes = map_all;
        below = h.below;
        holds = λ p g. back.holds p (omega (arith, z, g)) ∙ given_set p g;
        bytes = λ p g.
            back.bytes p (omega (arith, z, g))
            ∙ ap₂ (λ (x : Bool) (y : ℕ). cond x y 0) (h.holds p (omega arith)) (h.bytes p g)
            ∙ twice (set p) (byte_at file p);
      }

  -- .. so that the reception itself, its map and its buffer, is the same byte for byte
  pub itself_is_given_back : itself (loaded (record_of s) map buffer) ≡ itself s
  itself_is_given_back = same_reception number l file set set (loaded (record_of s) map buffer) s holding_is_given_back h (λ p g. refl)

  -- what lies beyond in the lent map and buffer stays
  map_behind : drop (map_size t.length) t.map ≡ drop (map_size l) map
  map_behind =
      ap₂ (λ (n : ℕ) (x : List ℕ). drop (map_size n) x) holding_is_given_back.sized (map_is s right_s four_s map buffer room_s)
      ∙ front_behind map (saved_map s.length s.map) (map_room s right_s four_s map buffer room_s) (map_size l)
      (saved_map_long s.length s.map ∙ ap map_size h.sized)

  buffer_behind : drop t.length t.buffer ≡ drop l buffer
  buffer_behind =
      ap₂ (λ (n : ℕ) (x : List ℕ). drop n x) holding_is_given_back.sized (buffer_is s right_s four_s map buffer room_s)
      ∙ front_behind buffer (saved_buffer s.length s.map s.buffer) (buffer_room s right_s four_s map buffer room_s) l
      (saved_buffer_long s.length s.map s.buffer ∙ h.sized)

  pub loaded_beyond : beyond (loaded (record_of s) map buffer) ≡ record { map = drop (map_size l) map; buffer = drop l buffer }
  loaded_beyond = ap₂ (λ (m b : List ℕ). record { map = m; buffer = b }) map_behind buffer_behind

-- ---- read, and saved
-- A list of bytes that is accepted is the record of what it says: nothing else is accepted than what the writer writes.
pub accepted_is_saved : (r : List ℕ) → AllBytes r → is_record r ≡ true
    → record_of (record { number = number_in r; length = length_in r; map = map_in r; buffer = buffer_in r }) ≡ r
accepted_is_saved r all e = record_of_parts r all (is_formed r e)

-- Two accepted records that say the same number, length, map and buffer are the same record.
pub one_record : (r q : List ℕ) → AllBytes r → AllBytes q → is_record r ≡ true → is_record q ≡ true → number_in r ≡ number_in q → length_in r ≡ length_in q
    → map_in r ≡ map_in q → buffer_in r ≡ buffer_in q → r ≡ q
one_record r q a b d e n l m y =
    sym (accepted_is_saved r a d)
    ∙ same (number_in r) (number_in q) (length_in r) (length_in q) (map_in r) (map_in q) (buffer_in r) (buffer_in q) n l m y
    ∙ accepted_is_saved q b e
  where
    same : (n n' l l' : ℕ) (m m' b b' : List ℕ) → n ≡ n' → l ≡ l' → m ≡ m' → b ≡ b'
        → record_of (record { number = n; length = l; map = m; buffer = b }) ≡ record_of (record { number = n'; length = l'; map = m'; buffer = b' })
    same n n' l l' m m' b b' e0 e1 e2 e3 = rw (e0, e1, e2, e3)

-- ---- loaded, and saved again
module _ (r map buffer : List ℕ) (all : AllBytes r) (x : File) (e : loading r map buffer ≡ accepted x) where
  loading_says : (is_record r ≡ true) × (short_space (length_in r) map buffer ≡ false)
  unfolding loading
  loading_says = let w = (accepted_only_if (loading_checks r map buffer) (recorded_in r) x e).0 in (not-false (is_record r) w.0, w.1.0)

  formed : Formed r
  formed = is_formed r loading_says.0

  in_map : length (map_in r) ≡ map_size (length_in r)
  in_map = let j = formed.long in map_in_long r (omega (arith, j))

  in_buffer : length (buffer_in r) ≡ length_in r
  in_buffer = let j = formed.long in buffer_in_long r (omega (arith, j))

  enough : (map_size (length_in r) ≤ length map) × (length_in r ≤ length buffer)
  enough = enough_space (length_in r) map buffer loading_says.1

  in_map_room : length (map_in r) ≤ length map
  in_map_room = let w = enough in let i = in_map in omega (arith, w, i)

  in_buffer_room : length (buffer_in r) ≤ length buffer
  in_buffer_room = let w = enough in let i = in_buffer in omega (arith, w, i)

  -- A loaded reception, saved again, is the record that was loaded, byte for byte.
  pub save_after_load : record_of (loaded r map buffer) ≡ r
  save_after_load =
      let i = in_map in
      let k = in_buffer in
      record_same (number_in r) (length_in r) (loaded_map r map) (map_in r) (loaded_buffer r buffer) (buffer_in r)
      (λ p h. front_held map (map_in r) in_map_room p (omega (arith, i, h)))
      (λ p h. front_byte buffer (buffer_in r) in_buffer_room p (omega (arith, k, h)))
      ∙ accepted_is_saved r all loading_says.0

  -- .. and a target that is long enough takes it: the answer is the record's size.
  pub saves_after_load : (target : List ℕ) → record_length (length_in r) ≤ length target → saving (loaded r map buffer) target ≡ accepted (length r)
  saves_after_load target h =
      let i = in_map_room in
      let k = in_buffer_room in
      let w = enough in
      let m : length (loaded_map r map) ≡ length map = put_length map 0 (map_in r) (omega (arith, i)) in
      let b : length (loaded_buffer r buffer) ≡ length buffer = put_length buffer 0 (buffer_in r) (omega (arith, k)) in
      saves (loaded r map buffer) target formed.right
      (none (le-ltb (length (loaded_map r map)) (map_size (length_in r)) (omega (arith, w, m)))
      (le-ltb (length (loaded_buffer r buffer)) (length_in r) (omega (arith, w, b)))
      (le-ltb (length target) (record_length (length_in r)) h))
      ∙ ap accepted (sym formed.long)
    where
      none : {x y z : Bool} → x ≡ false → y ≡ false → z ≡ false → (x || y || z) ≡ false
      none d e f = rw (d, e, f)

-- ---- the largest record
-- No record is longer than 36,884 bytes.
pub never_larger : (r : List ℕ) → is_record r ≡ true → length r ≤ 36884
never_larger r e =
    let f = is_formed r e in
    let w = right_length (length_in r) f.right in
    let j = f.long in
    omega (arith, w, j)

-- The record of the longest file is that long.
pub largest_is : record_length longest ≡ 36884
largest_is = refl
