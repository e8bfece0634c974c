-- Laws of offers: when positions lie inside, and how storing an offer meets its promise.
-- Assumes nothing.
use mathlib.Core.Path.{◌≡◌, refl, sym, ap, ◌∙◌}
use mathlib.Core.Bool.{Bool, true, false, cond, not, ◌&&◌, ◌||◌, and-true}
use mathlib.Core.List.{List}
use Prim.Native.Nat.{ℕ, ◌+◌, ◌-◌, ◌*◌, ◌^◌, ◌≤◌, ◌<◌}
use native.Mathlib.Omega.{arith}
use lib.Dec.{eqb, leb, ltb}
use lib.ListN.{length}
use lib.Seq.{ext_get_or}
use borrow.Author.Tests.{eqb-true, lt-ltb, le-leb, leb-true, ltb-true}
use Rattle.reason.proofs.Bools.{and_left, and_right}
use Rattle.octets.specs.Numbers.{byte_at}
use Rattle.octets.specs.Values.{values_from}
use Rattle.octets.specs.Runs.{put_in}
use Rattle.octets.proofs.ValueLaws.{value_at, values_long}
use Rattle.octets.proofs.RunLaws.{put_before, put_within, put_after, put_length}
use Rattle.positions.specs.Spans.{within, every}
use Rattle.positions.specs.Map.{held, map_size}
use Rattle.positions.proofs.SpanLaws.{in_span, before_span, behind_span, by_span, every_same, all_at}
use Rattle.runs.specs.Offers.{Offer, piece_at, agrees_at, agrees, is_new, buffer_with, inside, Stores}
use Rattle.runs.specs.Inner.{piece_agrees, MapRun, BufferRun}
use Rattle.runs.proofs.MarkLaws.{run_map}

-- ---- inside the map and the buffer, and back
pub inside_says : (m b : List ℕ) (at n : ℕ) → inside m b at n ≡ true → (at + n < 2 ^ 32) × (at + n ≤ length m * 8) × (at + n ≤ length b)
inside_says m b at n e =
    let few = ltb (at + n) (2 ^ 32) in
    let map = leb (map_size (at + n)) (length m) in
    let f = and_left (few && map) (leb (at + n) (length b)) e in
    let g : map_size (at + n) ≤ length m = leb-true (map_size (at + n)) (length m) (and_right few map f) in
    (ltb-true (at + n) (2 ^ 32) (and_left few map f), omega (arith, g), leb-true (at + n) (length b) (and_right (few && map) (leb (at + n) (length b)) e))

pub is_inside : (m b : List ℕ) (at n : ℕ) → at + n < 2 ^ 32 → map_size (at + n) ≤ length m → at + n ≤ length b → inside m b at n ≡ true
is_inside m b at n few map buffer =
    rw (lt-ltb (at + n) (2 ^ 32) few, le-leb (map_size (at + n)) (length m) map, le-leb (at + n) (length b) buffer)

-- ---- the promise
module _ (fits : Bool) (m b : List ℕ) (o : Offer) (made : List ℕ) where
  pub stores_nothing : fits ≡ false → Stores fits m b o made 0 m b
  stores_nothing e = rw e record { counts = refl; leaves_map = refl; leaves_buffer = refl }

  pub stores_run : fits ≡ true → (r : ℕ) (m' b' : List ℕ) → MapRun m o.has o.start o.size m' r → b' ≡ made → Stores fits m b o made r m' b'
  stores_run e r m' b' run is =
      rw e record { counts = run.new; leaves_map = run_map m o.has o.start o.size m' r run; leaves_buffer = is }

  -- what a caller learns of it
  pub when_inside : fits ≡ true → (r : ℕ) (m' b' : List ℕ) → Stores fits m b o made r m' b' → Stores true m b o made r m' b'
  when_inside e r m' b' stored = rw e at stored

-- ---- the buffer, by each of its bytes
pub buffer_is : (f : ℕ → ℕ) (b b' : List ℕ) → length b' ≡ length b → ((p : ℕ) → p < length b → byte_at b' p ≡ f p) → b' ≡ values_from f 0 (length b)
buffer_is f b b' long e =
    ext_get_or 0 b' (values_from f 0 (length b)) (long ∙ sym (values_long f 0 (length b)))
    (λ p h. let g : p < length b = omega arith in e p g ∙ sym (value_at f 0 (length b) p g))

pub run_buffer : (new : ℕ → Bool) (from b : List ℕ) (p n : ℕ) (b' : List ℕ) → BufferRun new from b p n b'
    → b' ≡ values_from (λ q. cond (within p n q && new q) (byte_at from q) (byte_at b q)) 0 (length b)
run_buffer new from b p n b' run = buffer_is (λ q. cond (within p n q && new q) (byte_at from q) (byte_at b q)) b b' run.long run.bytes

-- ---- what a call answered of an offer, where its positions are known to lie inside
pub agrees_inside : (lies : Bool) → lies ≡ true → (m b : List ℕ) (o : Offer) (r : Bool) → r ≡ agrees m b o → r ≡ (lies && agrees m b o)
agrees_inside lies e m b o r is = is ∙ sym (ap (λ (i : Bool). i && agrees m b o) e)

pub agrees_told : (lies : Bool) → lies ≡ true → (m b : List ℕ) (o : Offer) (r : Bool) → r ≡ (lies && agrees m b o) → agrees m b o ≡ r
agrees_told lies e m b o r is = sym (is ∙ ap (λ (i : Bool). i && agrees m b o) e)

-- ---- a piece
module _ (m b : List ℕ) (at : ℕ) (d : List ℕ) where
  pub piece_agrees_lem : (r : Bool) → r ≡ every (piece_agrees m b at d) at (length d) → r ≡ agrees m b (piece_at at d)
  piece_agrees_lem r e =
      e
      ∙ every_same (piece_agrees m b at d) (agrees_at m b (piece_at at d)) at (length d)
      (λ p _ _. ap (λ (h : Bool). not h || eqb (byte_at b p) (byte_at d (p - at))) (sym (and-true (held m p))))

  -- a byte of the piece is written, or is there already
  written : (p : ℕ) (h : Bool) → held m p ≡ h → agrees_at m b (piece_at at d) p ≡ true
      → byte_at d (p - at) ≡ cond (not h) (byte_at d (p - at)) (byte_at b p)
  written p true e agree = sym (eqb-true (byte_at b p) (byte_at d (p - at)) (rw e at agree))
  written p false e agree = refl

  pub piece_stored : agrees m b (piece_at at d) ≡ true → at + length d ≤ length b → put_in b at d ≡ buffer_with m b (piece_at at d)
  piece_stored agree fits =
      buffer_is (λ p. cond (within at (length d) p && is_new m (piece_at at d) p) (byte_at d (p - at)) (byte_at b p)) b (put_in b at d) (put_length b at d fits)
      (λ p _. by_span at (length d) p
      (λ l g. let e : at + (p - at) ≡ p = omega arith in
      ap (byte_at (put_in b at d)) (sym e) ∙ put_within b at d fits (p - at) (omega arith) ∙ rw (in_span at (length d) p l g) (written p (held m p) refl (all_at (agrees_at m b (piece_at at d)) at (length d) agree p l g)))
      (λ g. rw (before_span at (length d) p g) (put_before b at d fits p g))
      (λ g. let e : at + length d + (p - (at + length d)) ≡ p = omega arith in
      rw (behind_span at (length d) p g) (ap (byte_at (put_in b at d)) (sym e) ∙ put_after b at d fits (p - (at + length d)) ∙ ap (byte_at b) e)))
