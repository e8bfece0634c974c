-- Laws of a record that was saved: what it says, and that it keeps to every rule of a record.
-- Assumes nothing.
use mathlib.Core.Path.{◌≡◌, refl, sym, ap, ap₂, ◌∙◌}
use mathlib.Core.Bool.{Bool, true, false, cond, not, ◌&&◌, ◌||◌}
use mathlib.Core.List.{List, ◌++◌, append_assoc}
use Prim.Native.Nat.{ℕ, ◌+◌, ◌-◌, ◌*◌, ◌^◌, ◌≤◌, ◌<◌}
use native.Mathlib.Nat.{add-zero}
use native.Mathlib.Omega.{arith}
use lib.Dec.{eqb}
use lib.ListN.{length, take, drop}
use lib.Seq.{take_all, take_at, drop_at, get_or-append-add}
use borrow.Author.Tests.{eq-eqb, lt-ltb, le-ltb}
use Rattle.reason.proofs.Bools.{and_both}
use Rattle.octets.specs.Numbers.{byte_at, number_at}
use Rattle.octets.proofs.NumberLaws.{number_of_bytes, number_behind}
use Rattle.octets.proofs.ValueLaws.{value_at}
use Rattle.positions.specs.Map.{held, map_size}
use Rattle.positions.proofs.SpanLaws.{all_if}
use Rattle.positions.proofs.MapLaws.{held_map}
use Rattle.reception.specs.Reception.{Reception, longest, wrong_length}
use Rattle.reception.specs.Held.{held_of}
use Rattle.record.specs.Record.{saved_map, saved_buffer, record_of, map_at, buffer_at, record_length}
use Rattle.record.specs.Reading.{number_in, length_in, map_in, buffer_in, field_at, fields_right, spare_clear, unheld_clear, is_record}
use Rattle.reception.proofs.OfferLaws.{right_length}
use Rattle.record.proofs.RecordLaws.{before_buffer, saved_map_long, saved_buffer_long, up_to_map, past_map, up_to_buffer, past_map_long, up_to_buffer_long, record_is, record_long}
use Rattle.record.proofs.GivenAnswers.{formed_is}

-- ---- the saved map and the saved buffer, position by position
module _ (l : ℕ) (map : List ℕ) where
  -- the saved map holds the positions of the file that are held
  pub saved_held : (p : ℕ) → p < map_size l * 8 → held (saved_map l map) p ≡ held_of l map p
  saved_held p h = held_map (held_of l map) (map_size l) p h

  -- a position of the file is held as it was, and none else is
  pub held_below : (p : ℕ) → p < l → held_of l map p ≡ held map p
  held_below p h = ap (λ (b : Bool). b && held map p) (lt-ltb p l h)

  pub held_beyond : (p : ℕ) → l ≤ p → held_of l map p ≡ false
  held_beyond p h = ap (λ (b : Bool). b && held map p) (le-ltb p l h)

  -- a saved byte
  pub saved_byte_at : (buffer : List ℕ) (p : ℕ) → p < l → byte_at (saved_buffer l map buffer) p ≡ cond (held map p) (byte_at buffer p) 0
  saved_byte_at buffer p h = value_at (λ q. cond (held map q) (byte_at buffer q) 0) 0 l p h

  -- its spare bits and its unheld bytes are zero
  pub saved_spare : spare_clear l (saved_map l map) ≡ true
  saved_spare =
      all_if (λ p. not (held (saved_map l map) p)) l (map_size l * 8 - l) (λ p a b. ap not (saved_held p (omega arith) ∙ held_beyond p a))

  zero_or_held : (b : Bool) (x : ℕ) → (b || eqb (cond b x 0) 0) ≡ true
  zero_or_held true x = refl
  zero_or_held false x = refl

  pub saved_unheld : (buffer : List ℕ) → unheld_clear l (saved_map l map) (saved_buffer l map buffer) ≡ true
  saved_unheld buffer =
      all_if (λ p. held (saved_map l map) p || eqb (byte_at (saved_buffer l map buffer) p) 0) 0 l
      (λ p a b.
      ap₂ (λ (h : Bool) (x : ℕ). h || eqb x 0) (saved_held p (omega arith) ∙ held_below p (omega arith)) (saved_byte_at buffer p (omega arith))
      ∙ zero_or_held (held map p) (byte_at buffer p))

-- ---- what a saved record says
small : (l : ℕ) → l ≤ longest → l < 256 ^ 4
small l h = let e : 256 ^ 4 ≡ 4294967296 = refl in omega arith

small_two : (l : ℕ) → l ≤ longest → l < 256 ^ 2
small_two l h = let e : 256 ^ 2 ≡ 65536 = refl in omega arith

-- a field's tag and length, where they stand
field_is : (s : List ℕ) (at tag size : ℕ) → byte_at s at ≡ tag → number_at 2 s (at + 1) ≡ size → field_at s at tag size ≡ true
field_is s at tag size d e =
    and_both (eqb (byte_at s at) tag) (eqb (number_at 2 s (at + 1)) size) (eq-eqb (byte_at s at) tag d) (eq-eqb (number_at 2 s (at + 1)) size e)

module _ (s : Reception) (right : wrong_length s.length ≡ false) where
  abbrev l : ℕ
  l = s.length

  abbrev M : List ℕ
  M = saved_map l s.map

  abbrev B : List ℕ
  B = saved_buffer l s.map s.buffer

  most : l ≤ longest
  most = (right_length l right).1

  -- the number
  pub saved_number : s.number < 256 ^ 4 → number_in (record_of s) ≡ s.number
  unfolding record_of
  saved_number h = number_of_bytes 4 s.number h

  -- the length
  pub saved_length : length_in (record_of s) ≡ s.length
  unfolding record_of
  saved_length = number_of_bytes 4 l (small l most)

  third : field_at (record_of s) 14 3 (map_size l) ≡ true
  unfolding record_of
  third =
      let n = saved_map_long l s.map in
      let m = most in
      field_is (record_of s) 14 3 (map_size l) refl (number_of_bytes 2 (length M) (small_two (length M) (omega (arith, n, m))) ∙ n)

  -- the front of a record past its map, and what is behind it
  split : record_of s ≡ past_map s ++ (before_buffer l ++ B)
  split = sym (record_is s) ∙ append_assoc (past_map s) (before_buffer l) B

  fourth : field_at (record_of s) (map_at + map_size l) 4 l ≡ true
  fourth =
      field_is (record_of s) (map_at + map_size l) 4 l
      (ap₂ byte_at split (sym (add-zero (map_at + map_size l)) ∙ ap (λ (n : ℕ). n + 0) (sym (past_map_long s)))
      ∙ get_or-append-add (past_map s) (before_buffer l ++ B) 0 0)
      (ap₂ (number_at 2) split (ap (λ (n : ℕ). n + 1) (sym (past_map_long s)))
      ∙ number_behind 2 (past_map s) (before_buffer l ++ B) 1
      ∙ number_of_bytes 2 l (small_two l most))

  saved_fields : fields_right l (record_of s) ≡ true
  unfolding record_of
  saved_fields = and_both (field_at (record_of s) 14 3 (map_size l)) (field_at (record_of s) (map_at + map_size l) 4 l) third fourth

  -- its map and its buffer
  pub saved_map_in : map_in (record_of s) ≡ saved_map s.length s.map
  saved_map_in =
      ap₂ (λ (n : ℕ) (r : List ℕ). take (map_size n) (drop map_at r)) saved_length (split ∙ append_assoc (up_to_map s) M (before_buffer l ++ B))
      ∙ take_at M (before_buffer l ++ B) (map_size l) (saved_map_long l s.map)

  pub saved_buffer_in : buffer_in (record_of s) ≡ saved_buffer s.length s.map s.buffer
  saved_buffer_in =
      let n = saved_buffer_long l s.map s.buffer in
      ap₂ (λ (n : ℕ) (r : List ℕ). take n (drop (buffer_at n) r)) saved_length (sym (record_is s))
      ∙ ap (take l) (drop_at (up_to_buffer s) B (buffer_at l) (up_to_buffer_long s))
      ∙ take_all l B (omega (arith, n))

  -- it is a record
  pub saved_formed : is_record (record_of s) ≡ true
  saved_formed =
      formed_is (record_of s) (record {
        right = ap wrong_length saved_length ∙ right;
        long = record_long s ∙ ap record_length (sym saved_length);
        fields = ap (λ (n : ℕ). fields_right n (record_of s)) saved_length ∙ saved_fields;
        spare = ap₂ spare_clear saved_length saved_map_in ∙ saved_spare l s.map;
        unheld =
            ap₂ (λ (n : ℕ) (m : List ℕ). unheld_clear n m (buffer_in (record_of s))) saved_length saved_map_in
            ∙ ap (unheld_clear l M) saved_buffer_in
            ∙ saved_unheld l s.map s.buffer;
      })
