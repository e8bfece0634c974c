-- Laws of writing a record: the values of a rule written one run behind the other, and the bytes of its map.
-- Assumes nothing.
use mathlib.Core.Path.{◌≡◌, refl, sym, ap, ap₂, ◌∙◌}
use mathlib.Core.Bool.{Bool, true, false, cond, ◌&&◌}
use mathlib.Core.Logic.{⊎_elim}
use mathlib.Core.List.{List, [], ◌∷◌, ◌++◌}
use Prim.Native.Nat.{ℕ, zero, suc, ◌+◌, ◌-◌, ◌*◌, ◌%◌, ◌^◌, ◌≤◌, ◌<◌}
use mir.Val.{bool_byte}
use native.Mathlib.Nat.{zero-add, add-zero, add-suc, suc-add, mod-le, mod-lt, mod-eq_of_lt, lt_of_lt_of_le}
use native.Mathlib.Omega.{arith}
use lib.Bits.{bit_and, and_mask, and_zero_r}
use lib.ListN.{length, set, take, drop}
use lib.Pow.{pow_pos, pow_mono}
use lib.Seq.{length-take-le, get_or-take, ext_get_or}
use borrow.Author.Tests.{eqb-true, eqb-false, lt-ltb, le-ltb}
use Rattle.reason.proofs.Bools.{le_or_lt}
use Rattle.octets.specs.Numbers.{byte_at, AllBytes}
use Rattle.octets.specs.Values.{values_from}
use Rattle.octets.specs.Runs.{put_in, Put}
use Rattle.octets.proofs.ValueLaws.{value_at, values_long}
use Rattle.octets.proofs.RunLaws.{put_fits, put_copied, put_length, put_one, put_values}
use Rattle.positions.specs.Map.{bit, is_set, held, bits_from}
use Rattle.positions.proofs.BitLaws.{bit_lt, bits_ext, bits_below, bit_from, set_low, set_high}
use Rattle.positions.proofs.MapLaws.{held_in, full_set}
use Rattle.reception.specs.Held.{held_of}
use Rattle.record.specs.Inner.{byte_saved}

-- ---- written into a list
-- writing values leaves the list as long as it was
pub same_long : (f : ℕ → ℕ) (out : List ℕ) (at i n : ℕ) (so_far : List ℕ) → at + n ≤ length out → so_far ≡ put_in out at (values_from f i n)
    → length so_far ≡ length out
same_long f out at i n so_far h is = let a = values_long f i n in ap length is ∙ put_length out at (values_from f i n) (omega (arith, a))

-- a run of values, written by `put`
pub put_all : (f : ℕ → ℕ) (out : List ℕ) (at i n : ℕ) (run : List ℕ) (r : Bool) (left : List ℕ) → at + n ≤ length out → run ≡ values_from f i n
    → Put out at run r left → left ≡ put_in out at (values_from f i n)
put_all f out at i n run r left h is p = let a = values_long f i n in (put_fits out at (values_from f i n) r left (rw is at p) (omega (arith, a))).1

-- a run that is copied over the part of a list that it has
pub copied : (out : List ℕ) (at k : ℕ) (run part : List ℕ) → at + length run ≤ length out → k ≡ length run → part ≡ run
    → take at out ++ (part ++ drop k (drop at out)) ≡ put_in out at run
copied out at k run part h e d = (put_fits out at run true _ (put_copied out at k run part h e d) h).1

-- the first of them
pub values_take : (f : ℕ → ℕ) (i n k : ℕ) → n ≤ k → take n (values_from f i k) ≡ values_from f i n
values_take f i zero k h = refl
values_take f i (suc n) zero h = absurd (omega arith)
values_take f i (suc n) (suc k) h = ap (λ (l : List ℕ). f i ∷ l) (values_take f (suc i) n k (omega arith))

-- one value more behind the n that are written
pub put_value : (f : ℕ → ℕ) (out : List ℕ) (at i n : ℕ) (so_far : List ℕ) → so_far ≡ put_in out at (values_from f i n)
    → (v : ℕ) → at + n < length out → v ≡ f (i + n) → set so_far (at + n) v ≡ put_in out at (values_from f i (n + 1))
put_value f out at i n so_far is v h e =
    let a = same_long f out at i n so_far (omega arith) is in
    put_one so_far (at + n) v (omega arith)
    ∙ ap₂ (λ (l : List ℕ) (x : ℕ). put_in l (at + n) (x ∷ [])) is e
    ∙ put_values f out at i n 1 (omega arith)

-- the values of positions from 0 on, as a loop meets them: those below p are written
module _ (f : ℕ → ℕ) (out : List ℕ) (at p : ℕ) (so_far : List ℕ) (is : so_far ≡ put_in out at (values_from f 0 p)) where
  -- n are next
  put_run_more : (n : ℕ) (after : List ℕ) → at + p + n ≤ length out → after ≡ put_in so_far (at + p) (values_from f p n)
      → after ≡ put_in out at (values_from f 0 (p + n))
  put_run_more n after h next =
      next
      ∙ ap₂ (λ (l : List ℕ) (i : ℕ). put_in l (at + p) (values_from f i n)) is (sym (zero-add p))
      ∙ put_values f out at 0 p n h

  -- one is next
  pub put_one_more : (v : ℕ) → at + p < length out → v ≡ f p → set so_far (at + p) v ≡ put_in out at (values_from f 0 (p + 1))
  put_one_more v h e = put_value f out at 0 p so_far is v h (e ∙ ap f (sym (zero-add p)))

-- ---- the bytes of a map without its spare bits
bit_is : (b k : ℕ) (c : Bool) → is_set b k ≡ c → bit b k ≡ cond c 1 0
bit_is b k true e = eqb-true (bit b k) 1 e
bit_is b k false e = let d = eqb-false (bit b k) 1 e in let h = bit_lt b k in omega (arith, d, h)

low_bit : (l : ℕ) (m : List ℕ) (i k : ℕ) → i * 8 < l → k < 8 → is_set (byte_at m i % 2 ^ (l - i * 8)) k ≡ held_of l m (i * 8 + k)
low_bit l m i k h g =
    ⊎_elim
    (λ w.
    set_high (l - i * 8) (byte_at m i % 2 ^ (l - i * 8)) k (mod-lt (byte_at m i) (pow_pos (l - i * 8))) (omega arith)
    ∙ ap (λ (b : Bool). b && held m (i * 8 + k)) (sym (le-ltb (i * 8 + k) l w)))
    (λ w.
    set_low (l - i * 8) (byte_at m i) k (omega arith)
    ∙ sym (held_in m i k g)
    ∙ ap (λ (b : Bool). b && held m (i * 8 + k)) (sym (lt-ltb (i * 8 + k) l w)))
    (le_or_lt l (i * 8 + k))

-- the lowest bits of a byte, as many as the file has positions there, are the saved map's
pub low_byte : (l : ℕ) (m : List ℕ) (i : ℕ) → byte_at m i < 256 → i * 8 < l → byte_at m i % 2 ^ (l - i * 8) ≡ bits_from (held_of l m) (i * 8) 8
low_byte l m i b h =
    let few = mod-le (byte_at m i) (2 ^ (l - i * 8)) in
    bits_ext 8 (byte_at m i % 2 ^ (l - i * 8)) (bits_from (held_of l m) (i * 8) 8) (omega (arith, few, b)) (bits_below (held_of l m) (i * 8) 8)
    (λ k g. bit_is (byte_at m i % 2 ^ (l - i * 8)) k (held_of l m (i * 8 + k)) (low_bit l m i k h g) ∙ sym (bit_from (held_of l m) (i * 8) 8 k g))

-- those of the bytes that have no spare bits are the bytes themselves
whole_byte : (l : ℕ) (m : List ℕ) (i : ℕ) → byte_at m i < 256 → (i + 1) * 8 ≤ l → byte_at m i ≡ bits_from (held_of l m) (i * 8) 8
whole_byte l m i b h =
    let k : 8 ≤ l - i * 8 = omega arith in
    sym (mod-eq_of_lt (lt_of_lt_of_le b (pow_mono k))) ∙ low_byte l m i b (omega arith)

pub whole_bytes : (l : ℕ) (m : List ℕ) (n : ℕ) → AllBytes m → n * 8 ≤ l → n ≤ length m
    → take n m ≡ values_from (λ i. bits_from (held_of l m) (i * 8) 8) 0 n
whole_bytes l m n b h g =
    let long = length-take-le n m g in
    ext_get_or 0 (take n m) (values_from (λ i. bits_from (held_of l m) (i * 8) 8) 0 n)
    (long ∙ sym (values_long (λ i. bits_from (held_of l m) (i * 8) 8) 0 n))
    (λ i k.
    let j : i < n = omega (arith, long, k) in
    get_or-take n m i 0 j ∙ whole_byte l m i (b i) (omega arith) ∙ sym (value_at (λ i. bits_from (held_of l m) (i * 8) 8) 0 n i j))

-- ---- the buffer of a file, unheld bytes as zero
-- one byte, masked by its bit
pub masked : (x : ℕ) (w : Bool) → x < 256 → bit_and x (255 * bool_byte w) ≡ cond w x 0
masked x true h = and_mask x 8 ∙ mod-eq_of_lt h
masked x false h = and_zero_r x

-- those of a full byte are the bytes as they are
pub full_saved : (b : ℕ) (eight : List ℕ) → b ≡ 255 → length eight ≡ 8 → eight ≡ values_from (byte_saved b eight) 0 8
full_saved b eight e long =
    ext_get_or 0 eight (values_from (byte_saved b eight) 0 8) (long ∙ sym (values_long (byte_saved b eight) 0 8))
    (λ k h.
    let g : k < 8 = omega (arith, long) in
    ap (λ (w : Bool). cond w (byte_at eight k) 0) (sym (full_set b k e g)) ∙ sym (value_at (byte_saved b eight) 0 8 k g))

-- values that are the same one by one, though from other places on
values_moved : (f g : ℕ → ℕ) (i j n : ℕ) → ((k : ℕ) → k < n → f (i + k) ≡ g (j + k)) → values_from f i n ≡ values_from g j n
values_moved f g i j zero e = refl
values_moved f g i j (suc n) e =
    ap₂ ◌∷◌ (ap f (sym (add-zero i)) ∙ e 0 (omega arith) ∙ ap g (add-zero j))
    (values_moved f g (suc i) (suc j) n
    (λ k h. ap f (suc-add i k ∙ sym (add-suc i k)) ∙ e (suc k) (omega arith) ∙ ap g (add-suc j k ∙ sym (suc-add j k))))

-- the bytes of the first n positions of map byte i
eight_saved : (m b eight : List ℕ) (i n : ℕ) → n ≤ 8 → ((k : ℕ) → k < n → byte_at eight k ≡ byte_at b (i * 8 + k))
    → values_from (byte_saved (byte_at m i) eight) 0 n ≡ values_from (λ p. cond (held m p) (byte_at b p) 0) (i * 8) n
eight_saved m b eight i n few same =
    values_moved (byte_saved (byte_at m i) eight) (λ p. cond (held m p) (byte_at b p) 0) 0 (i * 8) n
    (λ k h.
    ap (byte_saved (byte_at m i) eight) (zero-add k)
    ∙ ap₂ (λ (w : Bool) (x : ℕ). cond w x 0) (sym (held_in m i k (omega arith))) (same k h))

-- .. behind those of the positions before them
pub saved_run_more : (m b out : List ℕ) (at i : ℕ) (so_far : List ℕ) → so_far ≡ put_in out at (values_from (λ q. cond (held m q) (byte_at b q) 0) 0 (i * 8))
    → (n : ℕ) → n ≤ 8 → at + i * 8 + n ≤ length out → (eight : List ℕ) → ((k : ℕ) → k < n → byte_at eight k ≡ byte_at b (i * 8 + k))
    → (after : List ℕ) → after ≡ put_in so_far (at + i * 8) (values_from (byte_saved (byte_at m i) eight) 0 n)
    → after ≡ put_in out at (values_from (λ q. cond (held m q) (byte_at b q) 0) 0 (i * 8 + n))
saved_run_more m b out at i so_far is n few h eight same after next =
    put_run_more (λ q. cond (held m q) (byte_at b q) 0) out at (i * 8) so_far is n after h
    (next ∙ ap (put_in so_far (at + i * 8)) (eight_saved m b eight i n few same))
