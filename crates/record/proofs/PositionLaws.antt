-- Laws of values, bytes and tests at their places in the whole buffer, one behind the other from the front, as a loop over positions
-- meets them. `PutLaws` and `ReadSteps` have them for eight bytes that stand by themselves.
-- Assumes nothing.
use mathlib.Core.Path.{◌≡◌, refl, sym, ap, ap₂, ◌∙◌}
use mathlib.Core.Bool.{Bool, true, false, cond, ◌&&◌, ◌||◌}
use mathlib.Core.Logic.{⊎_elim}
use mathlib.Core.List.{List, [], ◌∷◌}
use Prim.Native.Nat.{ℕ, ◌+◌, ◌-◌, ◌*◌, ◌/◌, ◌%◌, ◌≤◌, ◌<◌}
use mir.Val.{bool_byte}
use native.Mathlib.Nat.{zero-add}
use native.Mathlib.Numerals.{unary_clauses}
use native.Mathlib.Omega.{arith}
use lib.Bits.{bit_and}
use lib.Dec.{eqb}
use lib.ListN.{length, set}
use Rattle.reason.proofs.Bools.{le_or_lt}
use Rattle.octets.specs.Numbers.{byte_at}
use Rattle.octets.specs.Values.{values_from}
use Rattle.octets.specs.Runs.{put_in}
use Rattle.octets.proofs.ValueLaws.{values_alike}
use Rattle.octets.proofs.RunLaws.{put_nothing, put_values}
use Rattle.positions.specs.Spans.{every}
use Rattle.positions.specs.Map.{is_set, held}
use Rattle.positions.proofs.SpanLaws.{all_if, all_at, every_more, every_same, part_fails}
use Rattle.positions.proofs.MapLaws.{bit_of, full_set}
use Rattle.record.specs.Reading.{unheld_clear}
use Rattle.record.proofs.PutLaws.{same_long, put_value, masked}

-- bit p - from of a map byte is set, or the byte of position p is zero
abbrev pub clear_from : ℕ → List ℕ → ℕ → ℕ → Bool
clear_from b buffer from p = is_set b (p - from) || eqb (byte_at buffer p) 0

-- the byte of position p where bit p - from of a map byte is set, and else 0
abbrev pub saved_from : ℕ → List ℕ → ℕ → ℕ → ℕ
saved_from b buffer from p = cond (is_set b (p - from)) (byte_at buffer p) 0

-- ---- written one by one
-- as a loop meets it: n values are written, and the list is as long as it was
abbrev pub SoFar : (ℕ → ℕ) → List ℕ → ℕ → ℕ → ℕ → List ℕ → Type 0
SoFar f out at i n so_far = (so_far ≡ put_in out at (values_from f i n)) × (length so_far ≡ length out)

pub so_far_none : (f : ℕ → ℕ) (out : List ℕ) (at i : ℕ) → SoFar f out at i 0 out
so_far_none f out at i = (sym (put_nothing out at), refl)

pub so_far_more : (f : ℕ → ℕ) (out : List ℕ) (at i n : ℕ) (so_far : List ℕ) → SoFar f out at i n so_far
    → (v : ℕ) → at + n < length out → v ≡ f (i + n) → SoFar f out at i (n + 1) (set so_far (at + n) v)
so_far_more f out at i n so_far is v h e =
    let all = put_value f out at i n so_far is.0 v h e in
    (all, same_long f out at i (n + 1) (set so_far (at + n) v) (omega arith) all)

-- eight values, made one by one
pub eight_values : (f : ℕ → ℕ) (i a b c d e g h k : ℕ) → a ≡ f i → b ≡ f (i + 1) → c ≡ f (i + 2) → d ≡ f (i + 3) → e ≡ f (i + 4) → g ≡ f (i + 5)
    → h ≡ f (i + 6) → k ≡ f (i + 7) → (a ∷ b ∷ c ∷ d ∷ e ∷ g ∷ h ∷ k ∷ []) ≡ values_from f i 8
eight_values f i a b c d e g h k r0 r1 r2 r3 r4 r5 r6 r7 = rw (r0, r1, r2, r3, r4, r5, r6, r7) (simp unary_clauses refl)

-- ---- the bytes of a map byte
-- what masks a byte is a byte
pub mask_most : (w : Bool) → 255 * bool_byte w < 256
mask_most true = omega arith
mask_most false = omega arith

-- one byte, masked by its bit
pub byte_masked : (b : ℕ) (d : List ℕ) (from p : ℕ) → byte_at d p < 256 → (w : Bool) → w ≡ is_set b (p - from)
    → bit_and (byte_at d p) (255 * bool_byte w) ≡ saved_from b d from p
byte_masked b d from p h w e = masked (byte_at d p) w h ∙ ap (λ (v : Bool). cond v (byte_at d p) 0) e

-- those of a full byte are the bytes as they are
pub full_saved : (b : ℕ) (d : List ℕ) (from : ℕ) → b ≡ 255 → values_from (byte_at d) from 8 ≡ values_from (saved_from b d from) from 8
full_saved b d from e =
    values_alike (byte_at d) (saved_from b d from) from 8
    (λ p l h. sym (ap (λ (w : Bool). cond w (byte_at d p) 0) (full_set b (p - from) e (omega arith))))

-- of the first n positions of a map byte, by their bits
saved_byte : (m b : List ℕ) (from n : ℕ) → from % 8 ≡ 0 → n ≤ 8
    → values_from (saved_from (byte_at m (from / 8)) b from) from n ≡ values_from (λ p. cond (held m p) (byte_at b p) 0) from n
saved_byte m b from n a few =
    values_alike (saved_from (byte_at m (from / 8)) b from) (λ p. cond (held m p) (byte_at b p) 0) from n
    (λ q l g. ap (λ (w : Bool). cond w (byte_at b q) 0) (bit_of m from q a l (omega arith)))

-- .. behind those of the positions before it
pub saved_run_more : (m b out : List ℕ) (at p : ℕ) (so_far : List ℕ) → so_far ≡ put_in out at (values_from (λ q. cond (held m q) (byte_at b q) 0) 0 p)
    → p % 8 ≡ 0 → (n : ℕ) → n ≤ 8 → at + p + n ≤ length out
    → (after : List ℕ) → after ≡ put_in so_far (at + p) (values_from (saved_from (byte_at m (p / 8)) b p) p n)
    → after ≡ put_in out at (values_from (λ q. cond (held m q) (byte_at b q) 0) 0 (p + n))
saved_run_more m b out at p so_far is a n few h after next =
    next
    ∙ ap (put_in so_far (at + p)) (saved_byte m b p n a few)
    ∙ ap₂ (λ (l : List ℕ) (i : ℕ). put_in l (at + p) (values_from (λ q. cond (held m q) (byte_at b q) 0) i n)) is (sym (zero-add p))
    ∙ put_values (λ q. cond (held m q) (byte_at b q) 0) out at 0 p n h

-- ---- unheld bytes
-- of a full byte every position is held
pub full_clear : (b : ℕ) (d : List ℕ) (from p : ℕ) → b ≡ 255 → p < from + 8 → clear_from b d from p ≡ true
full_clear b d from p e h = ap (λ (w : Bool). w || eqb (byte_at d p) 0) (full_set b (p - from) e (omega arith))

-- as a loop meets them: whether those so far are clear, and one more
pub clear_more : (b : ℕ) (d : List ℕ) (from k : ℕ) (so_far here : Bool) → so_far ≡ every (clear_from b d from) from k → here ≡ clear_from b d from (from + k)
    → (so_far && here) ≡ every (clear_from b d from) from (k + 1)
clear_more b d from k so_far here e f = ap₂ ◌&&◌ e f ∙ every_more (clear_from b d from) from k

-- a byte of a map, for the first n of its positions
module _ (m d : List ℕ) (from n : ℕ) (a : from % 8 ≡ 0) (few : n ≤ 8) where
  clear_byte_is : every (clear_from (byte_at m (from / 8)) d from) from n ≡ every (λ p. held m p || eqb (byte_at d p) 0) from n
  clear_byte_is =
      every_same (clear_from (byte_at m (from / 8)) d from) (λ p. held m p || eqb (byte_at d p) 0) from n
      (λ q l g. ap (λ (w : Bool). w || eqb (byte_at d q) 0) (bit_of m from q a l (omega arith)))

  -- where it fails, all fail
  pub clear_fails : (l : ℕ) → from + n ≤ l → every (clear_from (byte_at m (from / 8)) d from) from n ≡ false → unheld_clear l m d ≡ false
  clear_fails l h e =
      part_fails (λ p. held m p || eqb (byte_at d p) 0) 0 l from n (omega arith) (omega arith) (sym clear_byte_is ∙ e)

  module _ (before : (q : ℕ) → 0 ≤ q → q < from → (held m q || eqb (byte_at d q) 0) ≡ true) where
    -- where it passes, the positions so far pass
    pub clear_passes : every (clear_from (byte_at m (from / 8)) d from) from n ≡ true
        → (q : ℕ) → 0 ≤ q → q < from + n → (held m q || eqb (byte_at d q) 0) ≡ true
    clear_passes e q l g =
        ⊎_elim
        (λ h. all_at (λ p. held m p || eqb (byte_at d p) 0) from n (sym clear_byte_is ∙ e) q h g)
        (λ h. before q l h)
        (le_or_lt from q)

    -- where it is the last, it decides
    pub clear_last : (l : ℕ) → l ≡ from + n → (r : Bool) → r ≡ every (clear_from (byte_at m (from / 8)) d from) from n → r ≡ unheld_clear l m d
    clear_last l is true e = sym (all_if (λ p. held m p || eqb (byte_at d p) 0) 0 l (λ q h g. clear_passes (sym e) q h (omega arith)))
    clear_last l is false e = sym (clear_fails l (omega arith) (sym e))
