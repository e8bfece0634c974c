-- Which answer each operation gives: whether a list of bytes is a record, test by test, and a law for each reason.
-- Assumes nothing.
use mathlib.Core.Path.{◌≡◌, refl, sym, ap, ap₂, ◌∙◌}
use mathlib.Core.Bool.{Bool, true, false, cond, not, ◌&&◌, ◌||◌}
use mathlib.Core.List.{List, [], ◌∷◌}
use mathlib.Core.Logic.{⊎_elim}
use Prim.Native.Nat.{ℕ, ◌+◌, ◌*◌, ◌≤◌}
use native.Mathlib.Omega.{arith}
use lib.Dec.{eqb, ltb}
use lib.ListN.{length, drop, length-drop}
use lib.Seq.{length-take-le}
use borrow.Author.Tests.{eq-eqb, ne_eqb, eqb-true, ltb-false, le-leb, not-true, not-false}
use Rattle.std.specs.Prelude.{Ok, Err}
use Rattle.reason.specs.declared.Reason.{Reason}
use Rattle.reason.specs.Reasons.{number_of}
use Rattle.reason.specs.Answer.{accepted, refused, leaving}
use Rattle.reason.specs.Order.{check}
use Rattle.reason.proofs.Bools.{and_left, and_right, or_none}
use Rattle.reason.proofs.OrderLaws.{accepted_only_if, refused_only_if, skip, stop, none_left}
use Rattle.reason.proofs.Writing.{tells_refused, tells_accepted}
use Rattle.octets.specs.Runs.{put_in, Put}
use Rattle.octets.proofs.RunLaws.{put_fits}
use Rattle.positions.specs.Map.{map_size}
use Rattle.reception.specs.Reception.{Reception, longest, wrong_length, short_space}
use Rattle.reception.proofs.OfferLaws.{right_length, enough_space}
use Rattle.reception.specs.declared.File.{File}
use Rattle.record.specs.Record.{record_of, map_at, buffer_at, record_length}
use Rattle.record.specs.Reading.{length_in, map_in, buffer_in, fields_right, spare_clear, unheld_clear, is_record, recorded_in, read_record, map_read}
use Rattle.record.specs.Saving.{saving, Saves}
use Rattle.record.specs.Loading.{loading, loaded_map, loaded_buffer, Loads}
use Rattle.record.specs.Inner.{part_by}
use Rattle.record.proofs.ReadSteps.{map_by_is, buffer_by_is}

-- ---- whether it is a record
-- by its five tests
record_by : (s : List ℕ) (a b c d e : Bool) → wrong_length (length_in s) ≡ a → eqb (length s) (record_length (length_in s)) ≡ b
    → fields_right (length_in s) s ≡ c → spare_clear (length_in s) (map_in s) ≡ d → unheld_clear (length_in s) (map_in s) (buffer_in s) ≡ e
    → is_record s ≡ (not a && b && c && d && e)
unfolding is_record
record_by s a b c d e f g h i j = ap₂ ◌&&◌ (ap₂ ◌&&◌ (ap₂ ◌&&◌ (ap₂ ◌&&◌ (ap not f) g) h) i) j

-- what a record keeps to
pub record Formed (s : List ℕ) : Type 0 where
  pub right : wrong_length (length_in s) ≡ false
  pub long : length s ≡ record_length (length_in s)
  pub fields : fields_right (length_in s) s ≡ true
  pub spare : spare_clear (length_in s) (map_in s) ≡ true
  pub unheld : unheld_clear (length_in s) (map_in s) (buffer_in s) ≡ true

-- a list that passes keeps to each rule
pub is_formed : (s : List ℕ) → is_record s ≡ true → Formed s
unfolding is_record
is_formed s e =
    let a = wrong_length (length_in s) in
    let b = eqb (length s) (record_length (length_in s)) in
    let c = fields_right (length_in s) s in
    let d = spare_clear (length_in s) (map_in s) in
    let u = unheld_clear (length_in s) (map_in s) (buffer_in s) in
    let four : (not a && b && c && d) ≡ true = and_left (not a && b && c && d) u e in
    let three : (not a && b && c) ≡ true = and_left (not a && b && c) d four in
    let two : (not a && b) ≡ true = and_left (not a && b) c three in record {
      right = not-true a (and_left (not a) b two);
      long = eqb-true (length s) (record_length (length_in s)) (and_right (not a) b two);
      fields = and_right (not a && b) c three;
      spare = and_right (not a && b && c) d four;
      unheld = and_right (not a && b && c && d) u e;
    }

-- a list that keeps to each rule passes
pub formed_is : (s : List ℕ) → Formed s → is_record s ≡ true
formed_is s f =
    record_by s false true true true true f.right (eq-eqb (length s) (record_length (length_in s)) f.long) f.fields f.spare f.unheld

-- how long the map and the buffer in it are
pub map_in_long : (s : List ℕ) → record_length (length_in s) ≤ length s → length (map_in s) ≡ map_size (length_in s)
map_in_long s h = let l = length_in s in length-take-le (map_size l) (drop map_at s) (simp length-drop (omega arith))

pub buffer_in_long : (s : List ℕ) → record_length (length_in s) ≤ length s → length (buffer_in s) ≡ length_in s
buffer_in_long s h = let l = length_in s in length-take-le l (drop (buffer_at l) s) (simp length-drop (omega arith))

-- test by test, by the length that is read
module _ (s : List ℕ) (l : ℕ) (is : l ≡ length_in s) where
  -- the length is out of range
  pub fails_length : wrong_length l ≡ true → false ≡ is_record s
  fails_length e = sym (record_by s true _ _ _ _ (ap wrong_length (sym is) ∙ e) refl refl refl refl)

  module _ (right : wrong_length l ≡ false) where
    right_in : wrong_length (length_in s) ≡ false
    right_in = ap wrong_length (sym is) ∙ right

    -- it is longer or shorter than a record of that length
    pub fails_size : (length s ≡ record_length l → ⊥) → false ≡ is_record s
    fails_size d =
        sym (record_by s false false _ _ _ right_in
        (ap (λ (k : ℕ). eqb (length s) (record_length k)) (sym is) ∙ ne_eqb (length s) (record_length l) d) refl refl refl)

    module _ (long : length s ≡ record_length l) where
      long_in : length s ≡ record_length (length_in s)
      long_in = long ∙ ap record_length is

      same_in : eqb (length s) (record_length (length_in s)) ≡ true
      same_in = eq-eqb (length s) (record_length (length_in s)) long_in

      -- a tag or a length of a field is wrong
      pub fails_fields : fields_right l s ≡ false → false ≡ is_record s
      fails_fields e = sym (record_by s false true false _ _ right_in same_in (ap (λ (k : ℕ). fields_right k s) (sym is) ∙ e) refl refl)

      -- its map and its buffer, by that length, and what they are read for
      enough : record_length l ≤ length s
      enough = omega (arith, long)

      map_is : (m : List ℕ) → m ≡ part_by s map_at (map_size l) → m ≡ map_in s
      map_is m e = e ∙ map_by_is s l is enough

      buffer_is : (b : List ℕ) → b ≡ part_by s (buffer_at l) l → b ≡ buffer_in s
      buffer_is b e = e ∙ buffer_by_is s l is enough

      pub map_enough : (m : List ℕ) → m ≡ part_by s map_at (map_size l) → (l ≤ longest) × (l ≤ length m * 8)
      map_enough m e =
          let w = right_length l right in
          let k = ap length (map_is m e) ∙ map_in_long s (let j = long_in in omega (arith, j)) in
          (w.1, omega (arith, k, is))

      pub buffer_enough : (m b : List ℕ) → m ≡ part_by s map_at (map_size l) → b ≡ part_by s (buffer_at l) l → (l ≤ longest) × (l ≤ length m * 8) × (l ≤ length b)
      buffer_enough m b e f =
          let w = map_enough m e in
          let k = ap length (buffer_is b f) ∙ buffer_in_long s (let j = long_in in omega (arith, j)) in
          (w.0, w.1, omega (arith, k, is))

      module _ (fields : fields_right l s ≡ true) where
        fields_in : fields_right (length_in s) s ≡ true
        fields_in = ap (λ (k : ℕ). fields_right k s) (sym is) ∙ fields

        module _ (m : List ℕ) (is_map : m ≡ part_by s map_at (map_size l)) where
          spare_by : (b : Bool) → spare_clear l m ≡ b → spare_clear (length_in s) (map_in s) ≡ b
          spare_by b e = ap₂ spare_clear (sym is) (sym (map_is m is_map)) ∙ e

          -- a spare bit is set
          pub fails_spare : spare_clear l m ≡ false → false ≡ is_record s
          fails_spare e = sym (record_by s false true true false _ right_in same_in fields_in (spare_by false e) refl)

          -- all but its unheld bytes is right, and they decide
          pub by_unheld : spare_clear l m ≡ true → (b : List ℕ) → b ≡ part_by s (buffer_at l) l → unheld_clear l m b ≡ is_record s
          by_unheld e b is_buffer =
              sym (record_by s false true true true _ right_in same_in fields_in (spare_by true e)
              (ap₂ (λ (k : ℕ) (n : List ℕ). unheld_clear k n (buffer_in s)) (sym is) (sym (map_is m is_map))
              ∙ ap (unheld_clear l m) (sym (buffer_is b is_buffer))))

-- ---- reading
module _ (s : List ℕ) where
  -- no record
  pub reads_13 : is_record s ≡ false → read_record s ≡ refused 13
  unfolding read_record
  reads_13 e = stop 13 _ _ (ap not e)

  -- a record, and what it says
  pub reads : is_record s ≡ true → read_record s ≡ accepted (recorded_in s)
  unfolding read_record
  reads e = skip 13 _ _ (ap not e) ∙ none_left (recorded_in s)

-- what is refused is no record; and what an accepted record says, and that it is one
pub not_read : (s : List ℕ) (n : ℕ) → read_record s ≡ refused n → (is_record s ≡ false) × (n ≡ 13)
unfolding read_record
not_read s n e = ⊎_elim (λ w. (not-true (is_record s) w.0, sym w.1)) (λ w. absurd w.1) (refused_only_if n (check (not (is_record s)) 13 ∷ []) (recorded_in s) e)

pub read_says : (s : List ℕ) (r : File) → read_record s ≡ accepted r → (is_record s ≡ true) × (r ≡ recorded_in s)
unfolding read_record
read_says s r e =
    let all = accepted_only_if (check (not (is_record s)) 13 ∷ []) (recorded_in s) r e in
    (not-false (is_record s) all.0.0, all.1)

-- its map, as it is handed out
pub map_handed_out : (s : List ℕ) (r : File) → read_record s ≡ accepted r → map_read (accepted r) s ≡ map_in s
map_handed_out s r e =
    let is = read_says s r e in
    let f = is_formed s is.0 in
    let fits : map_at + map_size (length_in s) ≤ length s = omega (arith, f.long) in
    ap (λ (x : File). map_read (accepted x) s) is.1
    ∙ ap (λ (b : Bool). cond b (map_in s) []) (le-leb (map_at + map_size (length_in s)) (length s) fits)

-- ---- saving
module _ (s : Reception) (target : List ℕ) where
  -- the length is out of range
  pub saves_7 : wrong_length s.length ≡ true → saving s target ≡ refused 7
  unfolding saving
  saves_7 e = stop 7 _ _ e

  module _ (right : wrong_length s.length ≡ false) where
    -- the map, the buffer or the target is too short
    pub saves_12 : (short_space s.length s.map s.buffer || ltb (length target) (record_length s.length)) ≡ true → saving s target ≡ refused 12
    unfolding saving
    saves_12 e = skip 7 _ _ right ∙ stop 12 _ _ e

    -- neither, and the answer is the size of the record
    pub saves : (short_space s.length s.map s.buffer || ltb (length target) (record_length s.length)) ≡ false
        → saving s target ≡ accepted (record_length s.length)
    unfolding saving
    saves e = skip 7 _ _ right ∙ skip 12 _ _ e ∙ none_left (record_length s.length)

  -- how `save` meets its promise
  pub saves_refused : (reason : Reason) → saving s target ≡ refused (number_of reason) → Saves s target (Err reason) target
  saves_refused reason e = tells_refused target (saving s target) (λ n. put_in target 0 (record_of s)) target (number_of reason) e refl

  -- .. where it accepts
  pub saves_accepted : (n : ℕ) (left : List ℕ) → saving s target ≡ accepted n → left ≡ put_in target 0 (record_of s) → Saves s target (Ok n) left
  saves_accepted n left e l = tells_accepted target (saving s target) (λ n. put_in target 0 (record_of s)) left n e l

-- the room of a reception and of a target
pub room_to_save : (l : ℕ) (map buffer target : List ℕ) → (short_space l map buffer || ltb (length target) (record_length l)) ≡ false
    → (map_size l ≤ length map) × (l ≤ length buffer) × (record_length l ≤ length target)
room_to_save l map buffer target e =
    let w = or_none (short_space l map buffer) (ltb (length target) (record_length l)) e in
    let k = enough_space l map buffer w.0 in
    (k.0, k.1, ltb-false (length target) (record_length l) w.1)

-- ---- loading
module _ (s map buffer : List ℕ) where
  -- no record
  pub loads_13 : is_record s ≡ false → loading s map buffer ≡ refused 13
  unfolding loading
  loads_13 e = stop 13 _ _ (ap not e)

  module _ (formed : is_record s ≡ true) where
    -- a record, and the map or the buffer is too short
    pub loads_12 : short_space (length_in s) map buffer ≡ true → loading s map buffer ≡ refused 12
    unfolding loading
    loads_12 e = skip 13 _ _ (ap not formed) ∙ stop 12 _ _ e

    -- neither, and the answer is what the record says
    pub loads : short_space (length_in s) map buffer ≡ false → loading s map buffer ≡ accepted (recorded_in s)
    unfolding loading
    loads e = skip 13 _ _ (ap not formed) ∙ skip 12 _ _ e ∙ none_left (recorded_in s)

  -- how `load` meets its promise
  pub loads_refused : (reason : Reason) → loading s map buffer ≡ refused (number_of reason) → Loads s map buffer (Err reason) map buffer
  loads_refused reason e = record {
    answers = sym e;
    leaves_map = sym (ap (leaving (λ (x : File). loaded_map s map) map) e);
    leaves_buffer = sym (ap (leaving (λ (x : File). loaded_buffer s buffer) buffer) e);
  }

  -- .. where it accepts, by the two runs that it puts
  pub loads_accepted : is_record s ≡ true → short_space (length_in s) map buffer ≡ false → (x : File) → x ≡ recorded_in s
      → (m b : List ℕ) → m ≡ part_by s map_at (map_size x.length) → b ≡ part_by s (buffer_at x.length) x.length
      → (r q : Bool) (map' buffer' : List ℕ) → Put map 0 m r map' → Put buffer 0 b q buffer' → Loads s map buffer (Ok x) map' buffer'
  loads_accepted formed room x is m b by_m by_b r q map' buffer' p t =
      let e = loads formed room in
      let f = is_formed s formed in
      let w = enough_space (length_in s) map buffer room in
      let j = f.long in
      let l : x.length ≡ length_in s = ap (λ (y : File). y.length) is in
      let is_m : m ≡ map_in s = by_m ∙ map_by_is s x.length l (omega (arith, j, l)) in
      let is_b : b ≡ buffer_in s = by_b ∙ buffer_by_is s x.length l (omega (arith, j, l)) in
      let i : length m ≡ map_size (length_in s) = ap length is_m ∙ map_in_long s (omega (arith, j)) in
      let k : length b ≡ length_in s = ap length is_b ∙ buffer_in_long s (omega (arith, j)) in record {
        answers = ap accepted is ∙ sym e;
        leaves_map =
            (put_fits map 0 m r map' p (omega (arith, w, i))).1
            ∙ ap (put_in map 0) is_m
            ∙ sym (ap (leaving (λ (x : File). loaded_map s map) map) e);
        leaves_buffer =
            (put_fits buffer 0 b q buffer' t (omega (arith, w, k))).1
            ∙ ap (put_in buffer 0) is_b
            ∙ sym (ap (leaving (λ (x : File). loaded_buffer s buffer) buffer) e);
      }
