-- Steps of reading a record: its parts, its spare bits, and its unheld bytes, a map byte at a time.
-- Assumes nothing.
use mathlib.Core.Path.{◌≡◌, refl, sym, ap, ap₂, ◌∙◌}
use mathlib.Core.Bool.{Bool, true, false, cond, not, ◌&&◌, ◌||◌, true≢false, and_assoc, and-true, or-true}
use mathlib.Core.Logic.{⊎_elim}
use mathlib.Core.List.{List, []}
use Prim.Native.Nat.{ℕ, zero, suc, ◌+◌, ◌-◌, ◌*◌, ◌/◌, ◌%◌, ◌^◌, ◌≤◌, ◌<◌}
use native.Mathlib.Omega.{arith}
use lib.Dec.{eqb}
use lib.ListN.{length, get_or, take, drop, get_or-eq_default}
use lib.Seq.{get_or-take, get_or-drop}
use Rattle.std.specs.Simd.{first_chunks}
use Rattle.std.specs.List.{range_with_len, list_all}
use Rattle.std.proofs.lemmas.List.{drop-drop}
use native.Mathlib.Nat.{zero-add, add-zero, add-suc, suc-add}
use Rattle.octets.specs.Values.{values_from}
use Rattle.octets.proofs.ValueLaws.{value_at}
use borrow.Author.Tests.{eq-eqb, ne_eqb, eqb-false, le-leb, lt-leb, not-true}
use Rattle.reason.proofs.Bools.{le_or_lt}
use Rattle.octets.specs.Numbers.{byte_at}
use Rattle.positions.specs.Spans.{every}
use Rattle.positions.specs.Map.{bit, is_set, held, map_size}
use Rattle.positions.proofs.BitLaws.{bit_lt, bits_ext, set_shr, set_none, set_high}
use Rattle.positions.proofs.SpanLaws.{all_if, all_at, every_none, every_more, every_same, no_between}
use Rattle.positions.proofs.MapLaws.{held_by, held_in, full_set}
use Rattle.record.specs.Record.{map_at, buffer_at, record_length}
use Rattle.record.specs.Reading.{length_in, part, map_in, buffer_in, spare_clear, unheld_clear}
use Rattle.record.specs.Inner.{part_by, clear_at}

-- four tests, each by what it is
pub four : (a a' b b' c c' d d' : Bool) → a ≡ a' → b ≡ b' → c ≡ c' → d ≡ d' → (a && b && c && d) ≡ (a' && b' && c' && d')
four a a' b b' c c' d d' e f g h = rw (e, f, g, h)

-- ---- the parts of a record
-- a part, where it fits and where it does not
pub part_fits : (s : List ℕ) (at n : ℕ) → at + n ≤ length s → take (at + n - at) (drop at s) ≡ part_by s at n
part_fits s at n h =
    let k : at + n - at ≡ n = omega arith in
    ap (λ (m : ℕ). take m (drop at s)) k ∙ ap (λ (b : Bool). cond b (part s at n) []) (sym (le-leb (at + n) (length s) h))

pub part_short : (s : List ℕ) (at n : ℕ) → length s < at + n → [] ≡ part_by s at n
part_short s at n h = ap (λ (b : Bool). cond b (part s at n) []) (sym (lt-leb (at + n) (length s) h))

-- the map and the buffer by the length that a record says, where it is long enough
module _ (s : List ℕ) (l : ℕ) (is : l ≡ length_in s) (long : record_length l ≤ length s) where
  part_is : (at n : ℕ) → at + n ≤ record_length l → part_by s at n ≡ part s at n
  part_is at n h = ap (λ (b : Bool). cond b (part s at n) []) (le-leb (at + n) (length s) (omega (arith, h, long)))

  pub map_by_is : part_by s map_at (map_size l) ≡ map_in s
  map_by_is = part_is map_at (map_size l) (omega arith) ∙ ap (λ (k : ℕ). part s map_at (map_size k)) is

  pub buffer_by_is : part_by s (buffer_at l) l ≡ buffer_in s
  buffer_by_is = part_is (buffer_at l) l (omega arith) ∙ ap (λ (k : ℕ). part s (buffer_at k) k) is

-- ---- the spare bits
-- a test that a number is zero
zero_test : (x : ℕ) (b : Bool) → (x ≡ 0 → b ≡ true) → (b ≡ true → x ≡ 0) → eqb x 0 ≡ b
zero_test x true f g = eq-eqb x 0 (g refl)
zero_test x false f g = ne_eqb x 0 (λ e. true≢false (sym (f e)))

no_bit : (x : ℕ) → x < 2 → eqb x 1 ≡ false → x ≡ 0
no_bit x h e = let d = eqb-false x 1 e in omega (arith, d)

-- there are none
pub no_spare : (l : ℕ) (m : List ℕ) → l % 8 ≡ 0 → spare_clear l m ≡ true
no_spare l m e = all_if (λ p. not (held m p)) l (map_size l * 8 - l) (λ q a b. absurd (no_between l q a (omega arith)))

module _ (l : ℕ) (m : List ℕ) (some : l % 8 ≡ 0 → ⊥) where
  abbrev last : ℕ
  last = byte_at m (l / 8)

  -- a position of the last byte
  here : (q : ℕ) → l ≤ q → q < l + (map_size l * 8 - l) → q / 8 ≡ l / 8
  here q a b = omega (arith, some)

  spare_bit : (q : ℕ) → l ≤ q → q < l + (map_size l * 8 - l) → held m q ≡ is_set (last / 2 ^ (l % 8)) (q % 8 - l % 8)
  spare_bit q a b =
      let e : q / 8 ≡ l / 8 = here q a b in
      let f : l % 8 + (q % 8 - l % 8) ≡ q % 8 = omega arith in
      held_by m q
      ∙ ap (λ (i : ℕ). is_set (byte_at m i) (q % 8)) e
      ∙ ap (is_set last) (sym f)
      ∙ sym (set_shr last (l % 8) (q % 8 - l % 8))

  clear_if : last / 2 ^ (l % 8) ≡ 0 → spare_clear l m ≡ true
  clear_if e =
      all_if (λ p. not (held m p)) l (map_size l * 8 - l)
      (λ q a b. ap not (spare_bit q a b ∙ ap (λ (x : ℕ). is_set x (q % 8 - l % 8)) e ∙ set_none (q % 8 - l % 8)))

  clear_bit : last < 256 → spare_clear l m ≡ true → (k : ℕ) → is_set (last / 2 ^ (l % 8)) k ≡ false
  clear_bit h e k =
      ⊎_elim
      (λ g. set_shr last (l % 8) k ∙ set_high 8 last (l % 8 + k) h g)
      (λ g.
      let f : (l + k) % 8 - l % 8 ≡ k = omega arith in
      let b : l + k < l + (map_size l * 8 - l) = omega (arith, some) in
      ap (is_set (last / 2 ^ (l % 8))) (sym f)
      ∙ sym (spare_bit (l + k) (omega arith) b)
      ∙ not-true (held m (l + k)) (all_at (λ p. not (held m p)) l (map_size l * 8 - l) e (l + k) (omega arith) b))
      (le_or_lt 8 (l % 8 + k))

  clear_only : last < 256 → last / 2 ^ (l % 8) < 256 → spare_clear l m ≡ true → last / 2 ^ (l % 8) ≡ 0
  clear_only h g e =
      bits_ext 8 (last / 2 ^ (l % 8)) 0 g (omega arith)
      (λ k _. no_bit (bit (last / 2 ^ (l % 8)) k) (bit_lt (last / 2 ^ (l % 8)) k) (clear_bit h e k) ∙ sym (no_bit (bit 0 k) (bit_lt 0 k) (set_none k)))

  -- they are those of the last byte from bit l mod 8 on
  pub spare_by_shift : last < 256 → last / 2 ^ (l % 8) < 256 → eqb (last / 2 ^ (l % 8)) 0 ≡ spare_clear l m
  spare_by_shift h g = zero_test (last / 2 ^ (l % 8)) (spare_clear l m) clear_if (clear_only h g)

-- ---- eights of a buffer, and what is left
-- a byte of the first l
byte_below : (b : List ℕ) (l k : ℕ) → k < l → byte_at (take l b) k ≡ byte_at b k
byte_below b l k h = get_or-take l b k 0 h

chunk_at : (k i : ℕ) (s : List ℕ) → i < k → get_or (first_chunks 8 k s) i [] ≡ take 8 (drop (i * 8) s)
chunk_at zero i s h = absurd (omega arith)
chunk_at (suc k) zero s h = refl
chunk_at (suc k) (suc i) s h =
    let place : 8 + i * 8 ≡ suc i * 8 = omega arith in
    chunk_at k i (drop 8 s) (omega arith) ∙ ap (take 8) (drop-drop (i * 8) 8 s ∙ ap (λ (j : ℕ). drop j s) place)

-- a byte of the eight at i
pub chunk_byte : (b : List ℕ) (l n i : ℕ) (eight : List ℕ) → i < n → i * 8 + 8 ≤ l → eight ≡ get_or (first_chunks 8 n (take l b)) i []
    → (k : ℕ) → k < 8 → byte_at eight k ≡ byte_at b (i * 8 + k)
chunk_byte b l n i eight h g is k few =
    ap (λ (s : List ℕ). byte_at s k) (is ∙ chunk_at n i (take l b) h)
    ∙ get_or-take 8 (drop (i * 8) (take l b)) k 0 few
    ∙ get_or-drop (i * 8) (take l b) k 0
    ∙ byte_below b l (i * 8 + k) (omega arith)

-- a byte behind the eights, in a run of eight with zeros behind it
pub rest_byte : (b : List ℕ) (l at : ℕ) (rest eight : List ℕ) → rest ≡ drop at (take l b) → eight ≡ values_from (byte_at rest) 0 8
    → (k : ℕ) → k < 8 → at + k < l → byte_at eight k ≡ byte_at b (at + k)
rest_byte b l at rest eight is from k few h =
    ap (λ (s : List ℕ). byte_at s k) from
    ∙ value_at (byte_at rest) 0 8 k few
    ∙ ap (λ (s : List ℕ). byte_at s k) is
    ∙ get_or-drop at (take l b) k 0
    ∙ byte_below b l (at + k) h

-- ---- the unheld bytes
-- of a full byte every position is held
pub full_clear : (b : ℕ) (eight : List ℕ) → b ≡ 255 → every (clear_at b eight) 0 8 ≡ true
full_clear b eight e =
    all_if (clear_at b eight) 0 8 (λ k _ h. ap (λ (w : Bool). w || eqb (byte_at eight k) 0) (full_set b k e (omega arith)))

-- as a loop meets them: whether those so far are clear, and one more
pub clear_more : (b : ℕ) (eight : List ℕ) (k : ℕ) (so_far here : Bool) → so_far ≡ every (clear_at b eight) 0 k → here ≡ clear_at b eight k
    → (so_far && here) ≡ every (clear_at b eight) 0 (k + 1)
clear_more b eight k so_far here e f = ap₂ ◌&&◌ e (f ∙ ap (clear_at b eight) (sym (zero-add k))) ∙ every_more (clear_at b eight) 0 k

-- spans, taken apart and moved
every_join : (t : ℕ → Bool) (p n k : ℕ) → every t p (n + k) ≡ (every t p n && every t (p + n) k)
unfolding every
every_join t p zero k = rw (zero-add k, add-zero p)
every_join t p (suc n) k =
    rw (suc-add n k, every_join t (suc p) n k, suc-add p n, add-suc p n)
    (sym (and_assoc (t p) (every t (suc p) n) (every t (suc (p + n)) k)))

every_moved : (t : ℕ → Bool) (d p n : ℕ) → every t (d + p) n ≡ every (λ q. t (d + q)) p n
unfolding every
every_moved t d p zero = refl
every_moved t d p (suc n) = ap (λ (b : Bool). t (d + p) && b) (ap (λ (q : ℕ). every t q n) (sym (add-suc d p)) ∙ every_moved t d (suc p) n)

-- position p of a map and a buffer is held, or its byte is zero
abbrev clear_in : List ℕ → List ℕ → ℕ → Bool
clear_in m d p = held m p || eqb (byte_at d p) 0

-- the first n positions of map byte i
eight_clear : (m d eight : List ℕ) (i n : ℕ) → n ≤ 8 → ((k : ℕ) → k < n → byte_at eight k ≡ byte_at d (i * 8 + k))
    → every (clear_at (byte_at m i) eight) 0 n ≡ every (clear_in m d) (i * 8) n
eight_clear m d eight i n few same =
    every_same (clear_at (byte_at m i) eight) (λ q. clear_in m d (i * 8 + q)) 0 n
    (λ q _ h.
    let g : q < n = omega arith in
    ap₂ (λ (w : Bool) (x : ℕ). w || eqb x 0) (sym (held_in m i q (omega arith))) (same q g))
    ∙ sym (every_moved (clear_in m d) (i * 8) 0 n)
    ∙ ap (λ (p : ℕ). every (clear_in m d) p n) (add-zero (i * 8))

-- a map byte with fewer than eight, zeros behind them
pub rest_clear : (m d rest eight : List ℕ) (i : ℕ) → length rest ≤ 8 → eight ≡ values_from (byte_at rest) 0 8
    → ((k : ℕ) → k < length rest → byte_at eight k ≡ byte_at d (i * 8 + k))
    → every (clear_at (byte_at m i) eight) 0 8 ≡ every (clear_in m d) (i * 8) (length rest)
rest_clear m d rest eight i few from same =
    let t = clear_at (byte_at m i) eight in
    let n = length rest in
    let size : n + (8 - n) ≡ 8 = omega arith in
    let behind : every t (0 + n) (8 - n) ≡ true =
    all_if t (0 + n) (8 - n)
    (λ q l g.
    let zeros : byte_at eight q ≡ 0 =
    ap (λ (s : List ℕ). byte_at s q) from ∙ value_at (byte_at rest) 0 8 q (omega arith) ∙ get_or-eq_default rest 0 (omega arith) in
    ap (λ (x : ℕ). is_set (byte_at m i) q || eqb x 0) zeros ∙ or-true (is_set (byte_at m i) q)) in
    ap (every t 0) (sym size)
    ∙ every_join t 0 n (8 - n)
    ∙ ap₂ ◌&&◌ (eight_clear m d eight i n few same) behind
    ∙ and-true (every (clear_in m d) (i * 8) n)

-- map bytes, each with its eight bytes
pub eights_clear : (l : ℕ) (m b : List ℕ) (eights : List (List ℕ)) (k : ℕ) → eights ≡ first_chunks 8 k (take l b) → k * 8 ≤ l → (i n : ℕ) → i + n ≤ k
    → list_all (λ j. every (clear_at (byte_at m j) (get_or eights j [])) 0 8) (range_with_len i n) ≡ every (λ p. held m p || eqb (byte_at b p) 0) (i * 8) (n * 8)
eights_clear l m b eights k is room i zero h = sym (every_none (clear_in m b) (i * 8))
eights_clear l m b eights k is room i (suc n) h =
    let t = clear_in m b in
    let next : (i + 1) * 8 ≡ i * 8 + 8 = omega arith in
    let size : 8 + n * 8 ≡ suc n * 8 = omega arith in
    ap₂ ◌&&◌
    (eight_clear m b (get_or eights i []) i 8 (omega arith)
    (chunk_byte b l k i (get_or eights i []) (omega arith) (omega arith) (ap (λ (s : List (List ℕ)). get_or s i []) is)))
    (eights_clear l m b eights k is room (i + 1) n (omega arith) ∙ ap (λ (p : ℕ). every t p (n * 8)) next)
    ∙ sym (every_join t (i * 8) 8 (n * 8))
    ∙ ap (every t (i * 8)) size

-- all of them, by those of whole map bytes and by what is left
pub clear_parts : (l : ℕ) (m b : List ℕ) (first last : Bool) → first ≡ every (clear_in m b) 0 (l / 8 * 8) → last ≡ every (clear_in m b) (l / 8 * 8) (l % 8)
    → (first && last) ≡ unheld_clear l m b
clear_parts l m b first last e f =
    let t = clear_in m b in
    let size : l / 8 * 8 + l % 8 ≡ l = omega arith in
    ap₂ ◌&&◌ e (f ∙ ap (λ (p : ℕ). every t p (l % 8)) (sym (zero-add (l / 8 * 8))))
    ∙ sym (every_join t 0 (l / 8 * 8) (l % 8))
    ∙ ap (every t 0) size
