-- Spare bits, set or clear, change no answer and no other byte, and taking and joining leave them.
-- Assumes nothing.
use mathlib.Core.Path.{◌≡◌, refl, sym, ap, ap₂, ◌∙◌}
use mathlib.Core.Bool.{Bool, true, false, cond, not, ◌&&◌, ◌||◌}
use mathlib.Core.Logic.{⊎_elim}
use mathlib.Core.List.{List, [], ◌∷◌}
use Prim.Native.Nat.{ℕ, ◌+◌, ◌*◌, ◌≤◌, ◌<◌}
use native.Mathlib.Omega.{arith}
use lib.Dec.{eqb, ltb}
use lib.ListN.{length}
use borrow.Author.Tests.{lt-ltb, eqb-true, ltb-true}
use Rattle.reason.specs.Answer.{Answer, accepted, refused}
use Rattle.reason.specs.Order.{check, first_of}
use Rattle.reason.proofs.Bools.{and_right, le_or_lt}
use Rattle.reason.proofs.OrderLaws.{cut_off}
use Rattle.octets.specs.Numbers.{byte_at}
use Rattle.octets.proofs.ValueLaws.{values_same}
use Rattle.positions.specs.Spans.{within}
use Rattle.positions.specs.Map.{held, map_size}
use Rattle.positions.proofs.SpanLaws.{before_span, behind_span, by_span, every_same, count_same}
use Rattle.positions.proofs.MapLaws.{map_long, held_map, held_past}
use Rattle.reception.specs.Reception.{Reception, PieceData, wrong_length, short_space}
use Rattle.reception.specs.Adding.{Offer, of_piece, of_reception, offered, agrees_at, agrees, is_new, new_in, map_with, buffer_with, after}
use Rattle.reception.specs.Taking.{taking, taken}
use Rattle.reception.specs.Joining.{joining, joined}
use Rattle.reception.specs.Held.{held_of, held_count}
use Rattle.reception.specs.Spare.{SameBelow, with_map}
use Rattle.reception.proofs.OfferLaws.{piece_below, second_below, held_elsewhere}
use Rattle.reception.proofs.LentSpace.{taken_ends, joined_lengths}

-- ---- the same offer, or one that has the same below l, to maps that are the same below l
module _ (s : Reception) (map : List ℕ) (below : SameBelow s.length s.map map) (start size : ℕ) (has has' : ℕ → Bool) (byte : ℕ → ℕ)
    (inside : start + size ≤ s.length) (alike : (p : ℕ) → p < s.length → has p ≡ has' p) where
  abbrev o : Offer
  o = record { start = start; size = size; has = has; byte = byte }

  abbrev o' : Offer
  o' = record { start = start; size = size; has = has'; byte = byte }

  same_agrees : agrees s o ≡ agrees (with_map s map) o'
  same_agrees =
      every_same (agrees_at s o) (agrees_at (with_map s map) o') start size
      (λ p l g. ap₂ (λ (a h : Bool). not (a && h) || eqb (byte_at s.buffer p) (byte p)) (below.same p (omega arith)) (alike p (omega arith)))

  new_alike : (p : ℕ) → p < s.length → is_new s o p ≡ is_new (with_map s map) o' p
  new_alike p g = ap₂ (λ (h a : Bool). h && not a) (alike p g) (below.same p g)

  same_new : new_in s o ≡ new_in (with_map s map) o'
  same_new = count_same (is_new s o) (is_new (with_map s map) o') start size (λ p l g. new_alike p (omega arith))

  same_buffer : buffer_with s o ≡ buffer_with (with_map s map) o'
  same_buffer =
      values_same (λ p. cond (within start size p && is_new s o p) (byte p) (byte_at s.buffer p)) (λ p. cond (within start size p && is_new (with_map s map) o' p) (byte p) (byte_at s.buffer p)) 0 (length s.buffer)
      (λ p _. by_span start size p
      (λ l g. ap (λ (b : Bool). cond (within start size p && b) (byte p) (byte_at s.buffer p)) (new_alike p (omega arith)))
      (λ g. rw (before_span start size p g))
      (λ g. rw (behind_span start size p g)))

  same_map : SameBelow s.length (map_with s o) (map_with (with_map s map) o')
  same_map = record {
    long =
        map_long (λ p. held map p || offered o' p) (length map)
        ∙ below.long
        ∙ sym (map_long (λ p. held s.map p || offered o p) (length s.map));
    same = λ p g. ⊎_elim
        (λ out. held_past (map_with s o) p (let e = map_long (λ q. held s.map q || offered o q) (length s.map) in omega (arith, e, out))
        ∙ sym (held_past (map_with (with_map s map) o') p (let e = map_long (λ q. held map q || offered o' q) (length map) in let f = below.long in omega (arith, e, f, out))))
        (λ in_map. held_map (λ q. held s.map q || offered o q) (length s.map) p in_map
        ∙ ap₂ (λ (a h : Bool). a || within start size p && h) (below.same p g) (alike p g)
        ∙ sym (held_map (λ q. held map q || offered o' q) (length map) p (let f = below.long in omega (arith, f, in_map))))
        (le_or_lt (length s.map * 8) p);
  }

-- the first two tests do not look at bits
short_same : (l : ℕ) (map map' buffer : List ℕ) → length map' ≡ length map → short_space l map buffer ≡ short_space l map' buffer
short_same l map map' buffer e = ap (λ (n : ℕ). ltb n (map_size l) || ltb (length buffer) l) (sym e)

-- ---- taking a piece in
module _ (s : Reception) (map : List ℕ) (below : SameBelow s.length s.map map) (x : PieceData) where
  -- the reception with the other map, and what the piece offers to both
  abbrev s' : Reception
  s' = with_map s map

  abbrev x' : Offer
  x' = of_piece x

  abbrev end : ℕ
  end = x.offset + length x.bytes

  -- the answer by whether the space is short, whether the piece agrees, and the count
  abbrev answer : Bool → Bool → ℕ → Answer ℕ
  answer short agree n =
      first_of (check (wrong_length s.length) 7 ∷
      check short 12 ∷
      check (not (eqb s.number x.number)) 9 ∷
      check (ltb s.length end) 10 ∷
      check (not agree) 11 ∷ []) n

  fitting : end ≤ s.length → (agrees s x' ≡ agrees s' x') × (new_in s x' ≡ new_in s' x')
  fitting h = (
    same_agrees s map below x.offset (length x.bytes) (λ p. true) (λ p. true) x'.byte h (λ p _. refl),
    same_new s map below x.offset (length x.bytes) (λ p. true) (λ p. true) x'.byte h (λ p _. refl),
  )

  -- 11 and the count say nothing where the piece ends beyond l
  too_far : (short : Bool) → s.length < end → answer short (agrees s x') (new_in s x') ≡ answer short (agrees s' x') (new_in s' x')
  too_far short h =
      cut_off (check (wrong_length s.length) 7 ∷ check short 12 ∷ check (not (eqb s.number x.number)) 9 ∷ []) 10
      (check (not (agrees s x')) 11 ∷ []) (check (not (agrees s' x')) 11 ∷ []) (new_in s x') (new_in s' x') (lt-ltb s.length end h)

  -- the answer is the same
  pub taking_same : taking s x ≡ taking (with_map s map) x
  unfolding taking
  taking_same =
      ap (λ (b : Bool). answer b (agrees s x') (new_in s x')) (short_same s.length s.map map s.buffer below.long)
      ∙ ⊎_elim
      (λ h. ap₂ (answer (short_space s.length map s.buffer)) (fitting h).0 (fitting h).1)
      (λ h. too_far (short_space s.length map s.buffer) h)
      (le_or_lt end s.length)

  taken_by : (a : Answer ℕ) → taking s x ≡ a → ((after s x' a).buffer ≡ (after s' x' a).buffer) × SameBelow s.length (after s x' a).map (after s' x' a).map
  taken_by (refused n) e = (refl, below)
  taken_by (accepted n) e =
      let h = taken_ends s x n e in (
        same_buffer s map below x.offset (length x.bytes) (λ p. true) (λ p. true) x'.byte h (λ p _. refl),
        same_map s map below x.offset (length x.bytes) (λ p. true) (λ p. true) x'.byte h (λ p _. refl),
      )

  -- so is the buffer afterwards, and the map below l
  pub taken_same : ((taken s x).buffer ≡ (taken (with_map s map) x).buffer) × SameBelow s.length (taken s x).map (taken (with_map s map) x).map
  taken_same = rw (sym taking_same) (taken_by (taking s x) refl)

-- ---- joining, with spare bits in either map
module _ (s t : Reception) (map map' : List ℕ) (below : SameBelow s.length s.map map) (below' : SameBelow t.length t.map map') where
  -- the receptions with the other maps, and what the second offers by each of its maps
  abbrev s'' : Reception
  s'' = with_map s map

  abbrev o'' : Offer
  o'' = of_reception t

  abbrev o''' : Offer
  o''' = of_reception (with_map t map')

  abbrev alike : Bool
  alike = eqb s.number t.number && eqb s.length t.length

  -- the answer by whether space is short, whether they agree, and the count
  abbrev joint : Bool → Bool → ℕ → Answer ℕ
  joint short agree n =
      first_of (check (wrong_length s.length || wrong_length t.length) 7 ∷
      check short 12 ∷
      check (not alike) 9 ∷
      check (not agree) 11 ∷ []) n

  together : s.length ≡ t.length → (agrees s o'' ≡ agrees s'' o''') × (new_in s o'' ≡ new_in s'' o''')
  together e = (
    same_agrees s map below 0 t.length (held t.map) (held map') (byte_at t.buffer) (omega arith) (λ p g. below'.same p (omega arith)),
    same_new s map below 0 t.length (held t.map) (held map') (byte_at t.buffer) (omega arith) (λ p g. below'.same p (omega arith)),
  )

  -- 11 and the count say nothing where number or length differ
  by_lengths : (short b : Bool) → alike ≡ b → joint short (agrees s o'') (new_in s o'') ≡ joint short (agrees s'' o''') (new_in s'' o''')
  by_lengths short true e =
      let w = together (eqb-true s.length t.length (and_right (eqb s.number t.number) (eqb s.length t.length) e)) in
      ap₂ (joint short) w.0 w.1
  by_lengths short false e =
      cut_off (check (wrong_length s.length || wrong_length t.length) 7 ∷ check short 12 ∷ []) 9
      (check (not (agrees s o'')) 11 ∷ []) (check (not (agrees s'' o''')) 11 ∷ []) (new_in s o'') (new_in s'' o''') (ap not e)

  -- the answer is the same
  pub joining_same : joining s t ≡ joining (with_map s map) (with_map t map')
  unfolding joining
  joining_same =
      ap₂ (λ (a b : Bool). joint (a || b) (agrees s o'') (new_in s o''))
      (short_same s.length s.map map s.buffer below.long) (short_same t.length t.map map' t.buffer below'.long)
      ∙ by_lengths (short_space s.length map s.buffer || short_space t.length map' t.buffer) alike refl

  joined_by : (a : Answer ℕ) → joining s t ≡ a → ((after s o'' a).buffer ≡ (after s'' o''' a).buffer) × SameBelow s.length (after s o'' a).map (after s'' o''' a).map
  joined_by (refused n) e = (refl, below)
  joined_by (accepted n) e =
      let k = joined_lengths s t n e in (
        same_buffer s map below 0 t.length (held t.map) (held map') (byte_at t.buffer) (omega (arith, k)) (λ p g. below'.same p (omega (arith, k, g))),
        same_map s map below 0 t.length (held t.map) (held map') (byte_at t.buffer) (omega (arith, k)) (λ p g. below'.same p (omega (arith, k, g))),
      )

  -- so is the buffer afterwards, and the map below l
  pub joined_same : ((joined s t).buffer ≡ (joined (with_map s map) (with_map t map')).buffer) × SameBelow s.length (joined s t).map (joined (with_map s map) (with_map t map')).map
  joined_same = rw (sym joining_same) (joined_by (joining s t) refl)

-- ---- taking and joining leave them
module _ (s : Reception) (p : ℕ) (spare : s.length ≤ p) (h : p < length s.map * 8) where
  take_leaves : (x : PieceData) (a : Answer ℕ) → taking s x ≡ a → held (after s (of_piece x) a).map p ≡ held s.map p
  take_leaves x (refused n) e = refl
  take_leaves x (accepted n) e = let k = taken_ends s x n e in held_elsewhere s (of_piece x) p h (piece_below x s.length p k spare)

  pub taking_leaves : (x : PieceData) → held (taken s x).map p ≡ held s.map p
  taking_leaves x = take_leaves x (taking s x) refl

  join_leaves : (t : Reception) (a : Answer ℕ) → joining s t ≡ a → held (after s (of_reception t) a).map p ≡ held s.map p
  join_leaves t (refused n) e = refl
  join_leaves t (accepted n) e = let k = joined_lengths s t n e in held_elsewhere s (of_reception t) p h (second_below t p (omega (arith, k, spare)))

  pub joining_leaves : (t : Reception) → held (joined s t).map p ≡ held s.map p
  joining_leaves t = join_leaves t (joining s t) refl

-- ---- what a host asks
module _ (l : ℕ) (map map' : List ℕ) (below : SameBelow l map map') where
  pub held_same : (p : ℕ) → held_of l map p ≡ held_of l map' p
  held_same p = by (ltb p l) refl
    where
      by : (b : Bool) → ltb p l ≡ b → (b && held map p) ≡ (b && held map' p)
      by true e = below.same p (ltb-true p l e)
      by false e = refl

  pub count_of_held_same : held_count l map ≡ held_count l map'
  count_of_held_same = count_same (held map) (held map') 0 l (λ p _ g. below.same p (omega arith))
