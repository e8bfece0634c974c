-- A reception of a file is what it holds: opening, taking and joining by the set of held positions.
-- Assumes nothing.
use mathlib.Core.Path.{◌≡◌, refl, sym, ap, ap₂, ◌∙◌}
use mathlib.Core.Bool.{Bool, true, false, cond, not, ◌&&◌, ◌||◌, and-true, or-false, true≢false}
use mathlib.Core.Logic.{⊎_elim}
use mathlib.Core.List.{List}
use Prim.Native.Nat.{ℕ, ◌+◌, ◌-◌, ◌*◌, ◌/◌, ◌≤◌, ◌<◌}
use native.Mathlib.Omega.{arith}
use lib.Dec.{eqb, leb, ltb}
use lib.ListN.{length, take, drop, replicate, length-append, length-replicate, length-drop, get_or-replicate, get_or-append}
use lib.Seq.{get_or-take, get_or-drop, get_or-append-add, length-take-le, ext_get_or}
use Rattle.std.proofs.lemmas.Bool.{eq-eqb, eqb-true, eqb-false, leb-true, leb-false, le-ltb, or_from}
use Rattle.reason.specs.Answer.{accepted, refused}
use Rattle.reason.proofs.Bools.{and_left, and_right, and_both, le_or_lt}
use Rattle.octets.specs.Numbers.{byte_at, AllBytes}
use Rattle.octets.proofs.ValueLaws.{value_at, values_long}
use Rattle.positions.specs.Spans.{within, count}
use Rattle.positions.specs.Map.{held, map_size}
use Rattle.positions.proofs.SpanLaws.{in_span, span_low, span_high, all_if, count_same}
use Rattle.positions.proofs.MapLaws.{empty_byte, same_byte, map_long, map_bytes, held_map}
use Rattle.reception.specs.Reception.{Reception, PieceData, wrong_length, short_space}
use Rattle.reception.specs.Adding.{Offer, of_piece, of_reception, offered, agrees_at, agrees, is_new, new_in, after}
use Rattle.reception.specs.Opening.{cleared, opening, opened}
use Rattle.reception.specs.Taking.{taking, taken}
use Rattle.reception.specs.Joining.{joining, joined}
use Rattle.reception.specs.Fitting.{fits, covers, AgreesWith}
use Rattle.reception.specs.Contents.{HoldsOf, itself}
use Rattle.reception.proofs.OfferLaws.{enough_space, piece_below, second_below}
use Rattle.reception.proofs.GivenReasons.{opens, takes_9, takes_10, takes, joins}

-- ---- a reception is determined by what it holds
module _ (number l : ℕ) (file : List ℕ) where
  pub same_reception : (S T : ℕ → Bool) (s t : Reception) → HoldsOf number l file S s → HoldsOf number l file T t
      → ((p : ℕ) → p < map_size l * 8 → S p ≡ T p) → itself s ≡ itself t
  same_reception S T s t h k same =
      rw (h.sized, k.sized, h.numbered, k.numbered)
      (ap₂ (λ (m b : List ℕ). record { number = number; length = l; map = m; buffer = b }) maps buffers)
    where
      maps : take (map_size l) s.map ≡ take (map_size l) t.map
      maps =
          let a = length-take-le (map_size l) s.map h.map_long in
          let b = length-take-le (map_size l) t.map k.map_long in
          ext_get_or 0 (take (map_size l) s.map) (take (map_size l) t.map) (a ∙ sym b)
          (λ i g. let i_in : i < map_size l = omega (arith, a, g) in
          get_or-take (map_size l) s.map i 0 i_in
          ∙ same_byte s.map t.map i h.map_bytes k.map_bytes (λ j c. h.holds (i * 8 + j) (omega arith) ∙ same (i * 8 + j) (omega arith) ∙ sym (k.holds (i * 8 + j) (omega arith)))
          ∙ sym (get_or-take (map_size l) t.map i 0 i_in))

      buffers : take l s.buffer ≡ take l t.buffer
      buffers =
          let a = length-take-le l s.buffer h.buffer_long in
          let b = length-take-le l t.buffer k.buffer_long in
          ext_get_or 0 (take l s.buffer) (take l t.buffer) (a ∙ sym b)
          (λ p g. let p_in : p < l = omega (arith, a, g) in
          get_or-take l s.buffer p 0 p_in
          ∙ h.bytes p p_in
          ∙ ap (λ (b : Bool). cond b (byte_at file p) 0) (same p (omega arith))
          ∙ sym (k.bytes p p_in)
          ∙ sym (get_or-take l t.buffer p 0 p_in))

-- ---- cleared bytes
module _ (n : ℕ) (b : List ℕ) where
  pub cleared_low : (i : ℕ) → i < n → byte_at (cleared n b) i ≡ 0
  cleared_low i h = get_or-append (replicate n 0) (drop n b) 0 i (rw length-replicate h) ∙ get_or-replicate n i 0 0 h

  pub cleared_high : (i : ℕ) → n ≤ i → byte_at (cleared n b) i ≡ byte_at b i
  cleared_high i h =
      let e : n + (i - n) ≡ i = omega arith in
      ap (byte_at (cleared n b)) (sym e)
      ∙ ap (λ (k : ℕ). byte_at (cleared n b) (k + (i - n))) (sym (length-replicate n 0))
      ∙ get_or-append-add (replicate n 0) (drop n b) (i - n) 0
      ∙ get_or-drop n b (i - n) 0
      ∙ ap (byte_at b) e

  pub cleared_long : n ≤ length b → length (cleared n b) ≡ length b
  cleared_long h = length-append (replicate n 0) (drop n b) ∙ ap₂ (λ (x y : ℕ). x + y) (length-replicate n 0) (length-drop n b) ∙ (omega arith)

  pub cleared_bytes : AllBytes b → AllBytes (cleared n b)
  cleared_bytes all i =
      ⊎_elim
      (λ h. let e = cleared_high i h in let k = all i in omega (arith, e, k))
      (λ h. let e = cleared_low i h in omega (arith, e))
      (le_or_lt n i)

-- ---- an opened reception holds nothing
module _ (number l : ℕ) (file map buffer : List ℕ) (room : short_space l map buffer ≡ false) (all : AllBytes map) where
  pub opened_holds : HoldsOf number l file (λ p. false) (opened number l map buffer)
  opened_holds = let w = enough_space l map buffer room in record {
    numbered = refl;
    sized = refl;
    map_long = let e = cleared_long (map_size l) map w.0 in omega (arith, e, w);
    buffer_long = let e = cleared_long l buffer w.1 in omega (arith, e, w);
    map_bytes = cleared_bytes (map_size l) map all;
    below = λ p _. refl;
    holds = λ p h. empty_byte (cleared (map_size l) map) p (cleared_low (map_size l) map (p / 8) (omega arith));
    bytes = λ p h. cleared_low l buffer p h;
  }

-- ---- the same set, told otherwise
pub told : (number l : ℕ) (file : List ℕ) (S T : ℕ → Bool) (s : Reception) → ((p : ℕ) → S p ≡ T p) → HoldsOf number l file S s
    → HoldsOf number l file T s
told number l file S T s e h = record {
  numbered = h.numbered;
  sized = h.sized;
  map_long = h.map_long;
  buffer_long = h.buffer_long;
  map_bytes = h.map_bytes;
  below = λ p k. sym (e p) ∙ h.below p k;
  holds = λ p k. h.holds p k ∙ e p;
  bytes = λ p k. h.bytes p k ∙ ap (λ (b : Bool). cond b (byte_at file p) 0) (e p);
}

-- ---- an offer of the file's bytes, at positions below l
picked : (w h a : Bool) (x y f : ℕ) → ((w && h) ≡ true → x ≡ f) → y ≡ cond a f 0 → cond (w && (h && not a)) x y ≡ cond (a || w && h) f 0
picked true true true x y f e g = g
picked true true false x y f e g = e refl
picked true false true x y f e g = g
picked true false false x y f e g = g
picked false h true x y f e g = g
picked false h false x y f e g = g

agreed : (a h : Bool) (x y : ℕ) → (a ≡ true → h ≡ true → y ≡ x) → (not (a && h) || eqb y x) ≡ true
agreed true true x y e = eq-eqb y x (e refl refl)
agreed true false x y e = refl
agreed false h x y e = refl

module _ (number l : ℕ) (file : List ℕ) (S : ℕ → Bool) (s : Reception) (h : HoldsOf number l file S s) (o : Offer)
    (inside : (p : ℕ) → l ≤ p → offered o p ≡ false) (right : (p : ℕ) → offered o p ≡ true → o.byte p ≡ byte_at file p) where
  in_file : (p : ℕ) → offered o p ≡ true → p < l
  in_file p e = ⊎_elim (λ g. absurd (true≢false (sym e ∙ inside p g))) (λ g. g) (le_or_lt l p)

  -- it agrees with what is held
  pub offer_agrees : agrees s o ≡ true
  offer_agrees =
      all_if (agrees_at s o) o.start o.size
      (λ p low high. agreed (held s.map p) (o.has p) (o.byte p) (byte_at s.buffer p) (λ a t.
      let there : offered o p ≡ true = and_both (within o.start o.size p) (o.has p) (in_span o.start o.size p low high) t in
      let small : p < l = in_file p there in
      h.bytes p small ∙ ap (λ (b : Bool). cond b (byte_at file p) 0) (sym (h.holds p (omega arith)) ∙ a) ∙ sym (right p there)))

  -- .. and is held afterwards, with what was held before
  pub offer_holds : HoldsOf number l file (λ p. S p || offered o p) (after s o (accepted (new_in s o)))
  offer_holds =
      let longer = h.map_long in
      record {
        numbered = h.numbered;
        sized = h.sized;
        map_long = rw (map_long (λ p. held s.map p || offered o p) (length s.map)) longer;
        buffer_long =
            rw (values_long (λ p. cond (within o.start o.size p && is_new s o p) (o.byte p) (byte_at s.buffer p)) 0 (length s.buffer))
            h.buffer_long;
        map_bytes = map_bytes (λ p. held s.map p || offered o p) (length s.map);
        below = λ p k. or_from (S p) (offered o p) (h.below p k) (inside p k);
        holds =
            λ p k. held_map (λ q. held s.map q || offered o q) (length s.map) p (omega (arith, longer))
            ∙ ap (λ (b : Bool). b || offered o p) (h.holds p k);
        bytes =
            λ p k. value_at (λ q. cond (within o.start o.size q && is_new s o q) (o.byte q) (byte_at s.buffer q)) 0 (length s.buffer) p
            (let g = h.buffer_long in omega (arith, g))
            ∙ ap (λ (b : Bool). cond (within o.start o.size p && (o.has p && not b)) (o.byte p) (byte_at s.buffer p)) (h.holds p (omega arith))
            ∙ picked (within o.start o.size p) (o.has p) (S p) (o.byte p) (byte_at s.buffer p) (byte_at file p) (right p) (h.bytes p k);
      }

-- ---- the first two tests of a reception of the file
module _ (number l : ℕ) (file : List ℕ) (S : ℕ → Bool) (s : Reception) (h : HoldsOf number l file S s) where
  pub length_right : wrong_length l ≡ false → wrong_length s.length ≡ false
  length_right e = ap wrong_length h.sized ∙ e

  pub space_enough : short_space s.length s.map s.buffer ≡ false
  space_enough =
      ap (λ (k : ℕ). short_space k s.map s.buffer) h.sized
      ∙ or_from (ltb (length s.map) (map_size l)) (ltb (length s.buffer) l) (le-ltb (length s.map) (map_size l) h.map_long) (le-ltb (length s.buffer) l h.buffer_long)

-- ---- taking a piece in
pub fits_inside : (number l : ℕ) (x : PieceData) → fits number l x ≡ true → x.offset + length x.bytes ≤ l
fits_inside number l x fit =
    leb-true (x.offset + length x.bytes) l (and_right (eqb number x.number) (leb (x.offset + length x.bytes) l) fit)

module _ (number l : ℕ) (file : List ℕ) (ok : wrong_length l ≡ false) (S : ℕ → Bool) (s : Reception) (h : HoldsOf number l file S s) (x : PieceData) where
  room : opening s.length s.map s.buffer ≡ accepted tt
  room = opens s.length s.map s.buffer (length_right number l file S s h ok) (space_enough number l file S s h)

  all_offered : (p : ℕ) → offered (of_piece x) p ≡ within x.offset (length x.bytes) p
  all_offered p = and-true (within x.offset (length x.bytes) p)

  -- a piece that fits, and agrees with the file
  module _ (fit : fits number l x ≡ true) (agree : AgreesWith file x) where
    same_number : s.number ≡ x.number
    same_number = h.numbered ∙ eqb-true number x.number (and_left (eqb number x.number) (leb (x.offset + length x.bytes) l) fit)

    ends_inside : x.offset + length x.bytes ≤ l
    ends_inside = fits_inside number l x fit

    below_end : (p : ℕ) → l ≤ p → offered (of_piece x) p ≡ false
    below_end p k = piece_below x l p ends_inside k

    file_bytes : (p : ℕ) → offered (of_piece x) p ≡ true → byte_at x.bytes (p - x.offset) ≡ byte_at file p
    file_bytes p e =
        let w : within x.offset (length x.bytes) p ≡ true = sym (all_offered p) ∙ e in
        let low = span_low x.offset (length x.bytes) p w in
        let high = span_high x.offset (length x.bytes) p w in
        let there : x.offset + (p - x.offset) ≡ p = omega arith in
        agree (p - x.offset) (omega arith) ∙ ap (byte_at file) there

    pub fitting_is_taken : taking s x ≡ accepted (new_in s (of_piece x))
    fitting_is_taken =
        takes s x room same_number (let e = ends_inside in let f = h.sized in omega (arith, e, f))
        (ap not (offer_agrees number l file S s h (of_piece x) below_end file_bytes))

    fitting_holds : HoldsOf number l file (λ p. S p || covers number l x p) (taken s x)
    fitting_holds =
        rw fitting_is_taken
        (told number l file (λ p. S p || offered (of_piece x) p) (λ p. S p || covers number l x p) (after s (of_piece x) (accepted (new_in s (of_piece x))))
        (λ p. ap (λ (b : Bool). S p || b) (all_offered p ∙ sym (ap (λ (b : Bool). b && within x.offset (length x.bytes) p) fit)))
        (offer_holds number l file S s h (of_piece x) below_end file_bytes))

  -- a piece that does not fit
  module _ (unfit : fits number l x ≡ false) where
    by_number : (b : Bool) → eqb number x.number ≡ b → (n : ℕ) × (taking s x ≡ refused n)
    by_number false e = (
      9,
      takes_9 s x room (λ d. eqb-false number x.number e (sym h.numbered ∙ d)),
    )
    by_number true e =
        let k = leb-false (x.offset + length x.bytes) l (sym (ap (λ (b : Bool). b && leb (x.offset + length x.bytes) l) e) ∙ unfit) in
        let f = h.sized in
        (10, takes_10 s x room (h.numbered ∙ eqb-true number x.number e) (omega (arith, k, f)))

    pub unfitting_is_refused : (n : ℕ) × (taking s x ≡ refused n)
    unfitting_is_refused = by_number (eqb number x.number) refl

    unfitting_holds : HoldsOf number l file (λ p. S p || covers number l x p) (taken s x)
    unfitting_holds =
        rw unfitting_is_refused.1
        (told number l file S (λ p. S p || covers number l x p) s
        (λ p. sym (ap (λ (b : Bool). S p || (b && within x.offset (length x.bytes) p)) unfit ∙ or-false (S p))) h)

  -- a position is held after a piece exactly if it was before, or the piece fits and covers it
  by_fit : (b : Bool) → fits number l x ≡ b → (fits number l x ≡ true → AgreesWith file x)
      → HoldsOf number l file (λ p. S p || covers number l x p) (taken s x)
  by_fit true e agree = fitting_holds e (agree e)
  by_fit false e agree = unfitting_holds e

  pub taken_holds : (fits number l x ≡ true → AgreesWith file x) → HoldsOf number l file (λ p. S p || covers number l x p) (taken s x)
  taken_holds agree = by_fit (fits number l x) refl agree

-- ---- joining
module _ (number l : ℕ) (file : List ℕ) (ok : wrong_length l ≡ false) (S T : ℕ → Bool) (s t : Reception) (h : HoldsOf number l file S s) (k : HoldsOf number l file T t) where
  below_length : (p : ℕ) → l ≤ p → offered (of_reception t) p ≡ false
  below_length p g = let e = k.sized in second_below t p (omega (arith, e))

  inside_span : (p : ℕ) → p < l → within 0 t.length p ≡ true
  inside_span p g = let e = k.sized in in_span 0 t.length p (omega arith) (omega (arith, e))

  offered_is : (p : ℕ) → offered (of_reception t) p ≡ T p
  offered_is p =
      ⊎_elim
      (λ g. below_length p g ∙ sym (k.below p g))
      (λ g. ap (λ (b : Bool). b && held t.map p) (inside_span p g) ∙ k.holds p (omega arith))
      (le_or_lt l p)

  file_bytes_of : (p : ℕ) → offered (of_reception t) p ≡ true → byte_at t.buffer p ≡ byte_at file p
  file_bytes_of p e =
      ⊎_elim
      (λ g. absurd (true≢false (sym e ∙ below_length p g)))
      (λ g. k.bytes p g ∙ ap (λ (b : Bool). cond b (byte_at file p) 0) (sym (offered_is p) ∙ e))
      (le_or_lt l p)

  -- no join of two receptions of one file is refused, and its count is of the positions that only the second holds
  pub join_accepted : joining s t ≡ accepted (count (λ p. T p && not (S p)) 0 l)
  join_accepted =
      joins s t (length_right number l file S s h ok) (length_right number l file T t k ok) (space_enough number l file S s h) (space_enough number l file T t k)
      (and_both (eqb s.number t.number) (eqb s.length t.length) (eq-eqb s.number t.number (h.numbered ∙ sym k.numbered)) (eq-eqb s.length t.length (h.sized ∙ sym k.sized)))
      (offer_agrees number l file S s h (of_reception t) below_length file_bytes_of)
      ∙ ap accepted (ap (count (is_new s (of_reception t)) 0) k.sized
      ∙ count_same (is_new s (of_reception t)) (λ p. T p && not (S p)) 0 l (λ p _ g. ap₂ (λ (a b : Bool). a && not b) (k.holds p (omega arith)) (h.holds p (omega arith))))

  pub joined_holds : HoldsOf number l file (λ p. S p || T p) (joined s t)
  joined_holds =
      rw join_accepted
      (told number l file (λ p. S p || offered (of_reception t) p) (λ p. S p || T p) (after s (of_reception t) (accepted (new_in s (of_reception t))))
      (λ p. ap (λ (b : Bool). S p || b) (offered_is p))
      (offer_holds number l file S s h (of_reception t) below_length file_bytes_of))
