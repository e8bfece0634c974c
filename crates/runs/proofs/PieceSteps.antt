-- Taking a piece in, the positions of its first map byte and those behind them.
-- Assumes nothing.
use mathlib.Core.Path.{◌≡◌, refl, sym, ap, ap₂, ◌∙◌}
use mathlib.Core.Bool.{Bool, true, not, ◌&&◌, ◌||◌, and_self}
use mathlib.Core.Logic.{⊎_elim}
use mathlib.Core.List.{List}
use Prim.Native.Nat.{ℕ, ◌+◌, ◌-◌, ◌*◌, ◌/◌, ◌%◌, ◌^◌, ◌≤◌, ◌<◌}
use native.Mathlib.Omega.{arith}
use lib.Bits.{bit_and}
use lib.Pow.{pow_pos}
use lib.Dec.{eqb}
use lib.ListN.{length, take, drop}
use lib.Seq.{get_or-take, get_or-drop}
use Rattle.reason.proofs.Bools.{le_or_lt}
use Rattle.std.specs.List.{between}
use Rattle.std.proofs.lemmas.List.Edits.{length-between, get_or-between}
use Rattle.octets.specs.Numbers.{byte_at}
use Rattle.positions.specs.Spans.{within, every}
use Rattle.positions.specs.Map.{is_set, held}
use Rattle.positions.proofs.BitLaws.{set_and, set_not, set_low, set_high}
use Rattle.positions.proofs.SpanLaws.{in_span, before_span, behind_span, every_same}
use Rattle.positions.proofs.MapLaws.{held_by, full_set}
use Rattle.runs.specs.Offers.{piece_at, agrees}
use Rattle.runs.specs.Inner.{up_to, bit_agrees, piece_agrees, both_agree, MapRun}
use Rattle.runs.proofs.RunSteps.{run_narrow, runs_on, runs_most}
use Rattle.runs.proofs.Steps.{every_join, every_from, part_agrees, rest_agrees, rest_within, next_byte}
use Rattle.runs.proofs.OfferLaws.{piece_agrees_lem}

-- ---- agreeing: the positions of the first map byte, which end at `start`, and those behind them
module _ (m b : List ℕ) (at : ℕ) (d : List ℕ) (start : ℕ) (is : start ≡ up_to (at / 8 * 8) (at + length d)) (some : at < at + length d) where
  pub ends : (at < start) × (start ≤ at / 8 * 8 + 8) × (start ≤ at + length d)
  ends = rest_within at (at + length d) start is some

  head_agrees : (head : List ℕ) → head ≡ take (start - at) d → at + length d ≤ length b → (r : Bool)
      → r ≡ every (bit_agrees (byte_at m (at / 8) / 2 ^ (at % 8)) (between at start b) 0 head 0) 0 (length (between at start b))
      → r ≡ every (piece_agrees m b at d) at (start - at)
  head_agrees head front here r e =
      let asked = byte_at m (at / 8) / 2 ^ (at % 8) in
      let s = between at start b in
      let w = ends in
      rest_agrees m b at d at start (omega (arith, w)) w.1 r
      (e
      ∙ ap (every (bit_agrees asked s 0 head 0) 0) (length-between b at start (omega (arith, w)))
      ∙ part_agrees asked b at d at (start - at) s head (omega arith) (λ k h. get_or-between b at start k 0 (omega arith)) (λ k h. let i : k ≡ at - at + k = omega arith in
      ap (λ (t : List ℕ). byte_at t k) front ∙ get_or-take (start - at) d k 0 h ∙ ap (byte_at d) i))

  -- by what calls answered of both
  pub piece_told : (head : List ℕ) → head ≡ take (start - at) d → at + length d ≤ length b → (r : Bool)
      → r ≡ every (bit_agrees (byte_at m (at / 8) / 2 ^ (at % 8)) (between at start b) 0 head 0) 0 (length (between at start b))
      → (n : ℕ) → n + (start - at) ≡ length d → (q : Bool) → q ≡ every (piece_agrees m b at d) start n → (r && q) ≡ agrees m b (piece_at at d)
  piece_told head front here r e n size q f =
      let w = ends in
      let place : at + (start - at) ≡ start = omega (arith, w) in
      let all : start - at + n ≡ length d = omega (arith, w) in
      piece_agrees_lem m b at d (r && q)
      (ap₂ ◌&&◌ (head_agrees head front here r e) (f ∙ ap (λ (p : ℕ). every (piece_agrees m b at d) p n) (sym place))
      ∙ sym (every_join (piece_agrees m b at d) at (start - at) n)
      ∙ ap (every (piece_agrees m b at d) at) all)

  -- behind `start` the piece is a second reception that holds what the first does
  module _ (more : start < at + length d) where
    first : start % 8 ≡ 0
    first = let e = next_byte at (at + length d) start is more in omega (arith, e)

    held_behind : (q : ℕ) → held (drop (start / 8) m) q ≡ held m (start + q)
    held_behind q =
        let a = first in
        let i : start / 8 + q / 8 ≡ (start + q) / 8 = omega (arith, a) in
        let j : q % 8 ≡ (start + q) % 8 = omega (arith, a) in
        held_by (drop (start / 8) m) q
        ∙ ap₂ is_set (get_or-drop (start / 8) m (q / 8) 0 ∙ ap (byte_at m) i) j
        ∙ sym (held_by m (start + q))

    pub rest_behind : (map buffer rest : List ℕ) → map ≡ drop (start / 8) m → buffer ≡ drop start b → rest ≡ drop (start - at) d
        → (n : ℕ) → every (both_agree map buffer map rest) 0 n ≡ every (piece_agrees m b at d) start n
    rest_behind map buffer rest e f g n =
        let w = ends in
        ap₂ (λ (x y : List ℕ). every (both_agree x y x rest) 0 n) e f
        ∙ every_same (both_agree (drop (start / 8) m) (drop start b) (drop (start / 8) m) rest) (λ q. piece_agrees m b at d (start + q)) 0 n
        (λ q _ _. let i : start - at + q ≡ start + q - at = omega (arith, w) in
        ap₂ (λ (x y : Bool). not x || y) (and_self (held (drop (start / 8) m) q) ∙ held_behind q)
        (ap₂ eqb (get_or-drop start b q 0) (ap (λ (y : List ℕ). byte_at y q) g ∙ get_or-drop (start - at) d q 0 ∙ ap (byte_at d) i)))
        ∙ every_from (piece_agrees m b at d) start n

-- ---- the bits of some positions of a map byte
module _ (from end asked : ℕ) (low : from ≤ end) (high : end ≤ from / 8 * 8 + 8) (is : asked ≡ bit_and (255 % 2 ^ (end - from / 8 * 8)) (255 - 255 % 2 ^ (from % 8))) where
  below : (n k : ℕ) → k < 8 → is_set (255 % 2 ^ n) k ≡ within 0 n k
  below n k h =
      ⊎_elim
      (λ g. set_high n (255 % 2 ^ n) k (omega (arith, pow_pos n)) g ∙ sym (behind_span 0 n k (omega arith)))
      (λ g. set_low n 255 k g ∙ full_set 255 k refl h ∙ sym (in_span 0 n k (omega arith) (omega arith)))
      (le_or_lt n k)

  asked_at : (q : ℕ) → from / 8 * 8 ≤ q → q < from / 8 * 8 + 8 → is_set asked (q - from / 8 * 8) ≡ (within from (end - from) q && true)
  asked_at q l g =
      let k = q - from / 8 * 8 in
      ap (λ (x : ℕ). is_set x k) is
      ∙ set_and (255 % 2 ^ (end - from / 8 * 8)) (255 - 255 % 2 ^ (from % 8)) k
      ∙ ap₂ ◌&&◌ (below (end - from / 8 * 8) k (omega arith)) (set_not (255 % 2 ^ (from % 8)) k (omega arith) (omega arith) ∙ ap not (below (from % 8) k (omega arith)))
      ∙ ⊎_elim
      (λ h. rw (behind_span 0 (end - from / 8 * 8) k (omega arith), behind_span from (end - from) q (omega arith)) refl)
      (λ h. ⊎_elim
      (λ i. rw (in_span 0 (end - from / 8 * 8) k (omega arith) (omega arith), behind_span 0 (from % 8) k (omega arith), in_span from (end - from) q (omega arith) (omega arith)) refl)
      (λ i. rw (in_span 0 (end - from / 8 * 8) k (omega arith) (omega arith), in_span 0 (from % 8) k (omega arith) (omega arith), before_span from (end - from) q (omega arith)) refl)
      (le_or_lt (from % 8) k))
      (le_or_lt (end - from / 8 * 8) k)

  pub some_held : (m m' : List ℕ) (r : ℕ) → MapRun m (λ q. is_set asked (q - from / 8 * 8)) (from / 8 * 8) 8 m' r → MapRun m (λ q. true) from (end - from) m' r
  some_held m m' r run =
      run_narrow m (λ q. is_set asked (q - from / 8 * 8)) (from / 8 * 8) 8 m' r run (λ q. true) from (end - from) (omega arith) (omega arith) asked_at

-- ---- the positions from `at` on that are held, and some more behind them; that their count fits
module _ (m : List ℕ) (at i : ℕ) (m' : List ℕ) (r : ℕ) (run : MapRun m (λ q. true) at (i * 8 - at) m' r) (low : at ≤ i * 8) where
  pub held_more : (p k end : ℕ) → p ≡ i * 8 → p + k ≡ end → (m'' : List ℕ) (r' : ℕ) → MapRun m' (λ q. true) p k m'' r'
      → MapRun m (λ q. true) at (end - at) m'' (r + r') × (r + r' ≤ end - at)
  held_more p k end here size m'' r' next =
      let place : at + (i * 8 - at) ≡ p = omega arith in
      let all : i * 8 - at + k ≡ end - at = omega arith in (
        runs_on m (λ q. true) at (i * 8 - at) m' r run p k (end - at) place all m'' r' next,
        runs_most m (λ q. true) at (i * 8 - at) m' r run p k (end - at) place all m'' r' next,
      )

-- where the whole map bytes behind the first one begin, that is so
pub begun : (at end start i : ℕ) → start ≡ up_to (at / 8 * 8) end → at < end → (start ≡ end → ⊥) → start / 8 ≤ i → (at ≤ i * 8) × (start ≤ end)
begun at end start i is some more l =
    let w = rest_within at end start is some in
    let first = next_byte at end start is in
    (omega (arith, w, first), w.2)
