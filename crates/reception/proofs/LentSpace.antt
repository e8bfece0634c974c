-- Lent space beyond the file never changes: not by opening, not by taking a piece in, not by joining.
-- Assumes nothing.
use mathlib.Core.Path.{◌≡◌, refl, sym, ap, ap₂, ◌∙◌}
use mathlib.Core.Bool.{Bool, true, false, cond, not, ◌&&◌, ◌||◌}
use mathlib.Core.List.{List, ◌++◌}
use Prim.Native.Nat.{ℕ, ◌+◌, ◌-◌, ◌*◌, ◌≤◌}
use native.Mathlib.Omega.{arith}
use lib.Dec.{eqb}
use lib.ListN.{length, drop, replicate, length-replicate, length-drop, take-append-drop}
use lib.Seq.{drop_at, get_or-drop, ext_get_or}
use borrow.Author.Tests.{eqb-true, ltb-false, not-false}
use Rattle.reason.specs.Answer.{Answer, accepted, refused}
use Rattle.reason.proofs.Bools.{and_right}
use Rattle.reason.proofs.OrderLaws.{accepted_only_if}
use Rattle.octets.specs.Numbers.{byte_at, AllBytes}
use Rattle.octets.proofs.ValueLaws.{value_at, values_long}
use Rattle.positions.specs.Spans.{within}
use Rattle.positions.specs.Map.{held, map_size}
use Rattle.positions.proofs.MapLaws.{same_byte, map_long, map_bytes}
use Rattle.reception.specs.Reception.{Reception, PieceData}
use Rattle.reception.specs.Adding.{Offer, of_piece, of_reception, offered, is_new, new_in, map_with, buffer_with, after}
use Rattle.reception.specs.Opening.{cleared, opened}
use Rattle.reception.specs.Taking.{taking_checks, taking, taken}
use Rattle.reception.specs.Joining.{joining_checks, joining, joined}
use Rattle.reception.specs.Contents.{itself, Beyond, beyond}
use Rattle.reception.proofs.OfferLaws.{piece_below, second_below, held_elsewhere}

-- a reception and what lies beyond it are all that is lent
pub all_of_it : (s t : Reception) → itself s ≡ itself t → beyond s ≡ beyond t → s ≡ t
all_of_it s t e f =
    let number : s.number ≡ t.number = ap (λ (r : Reception). r.number) e in
    let size : s.length ≡ t.length = ap (λ (r : Reception). r.length) e in
    let map : s.map ≡ t.map =
    sym (take-append-drop (map_size s.length) s.map)
    ∙ ap₂ (λ (x y : List ℕ). x ++ y) (ap (λ (r : Reception). r.map) e) (ap (λ (r : Beyond). r.map) f)
    ∙ take-append-drop (map_size t.length) t.map in
    let buffer : s.buffer ≡ t.buffer =
    sym (take-append-drop s.length s.buffer)
    ∙ ap₂ (λ (x y : List ℕ). x ++ y) (ap (λ (r : Reception). r.buffer) e) (ap (λ (r : Beyond). r.buffer) f)
    ∙ take-append-drop t.length t.buffer in
    same s.number t.number s.length t.length s.map t.map s.buffer t.buffer number size map buffer
  where
    same : (n n' l l' : ℕ) (m m' b b' : List ℕ) → n ≡ n' → l ≡ l' → m ≡ m' → b ≡ b'
        → ◌≡◌ {A = Reception} (record { number = n; length = l; map = m; buffer = b }) (record { number = n'; length = l'; map = m'; buffer = b' })
    same n n' l l' m m' b b' e0 e1 e2 e3 = rw (e0, e1, e2, e3)

-- ---- opening
drop_cleared : (n : ℕ) (b : List ℕ) → drop n (cleared n b) ≡ drop n b
drop_cleared n b = drop_at (replicate n 0) (drop n b) n (length-replicate n 0)

pub opened_beyond : (number l : ℕ) (map buffer : List ℕ)
    → beyond (opened number l map buffer) ≡ record { map = drop (map_size l) map; buffer = drop l buffer }
opened_beyond number l map buffer = ap₂ (λ (m b : List ℕ). record { map = m; buffer = b }) (drop_cleared (map_size l) map) (drop_cleared l buffer)

-- ---- an offer of positions of the file
not_new : (w h a : Bool) → (w && h) ≡ false → (w && (h && not a)) ≡ false
not_new true h a e = ap (λ (b : Bool). b && not a) e
not_new false h a e = refl

module _ (s : Reception) (o : Offer) (all : AllBytes s.map) (inside : (p : ℕ) → s.length ≤ p → offered o p ≡ false) where
  map_beyond : drop (map_size s.length) (map_with s o) ≡ drop (map_size s.length) s.map
  map_beyond =
      let k = map_size s.length in
      let a = length-drop k (map_with s o) in
      let b = length-drop k s.map in
      let c = map_long (λ q. held s.map q || offered o q) (length s.map) in
      ext_get_or 0 (drop k (map_with s o)) (drop k s.map) (a ∙ ap (λ (n : ℕ). n - k) c ∙ sym b)
      (λ i h. get_or-drop k (map_with s o) i 0
      ∙ same_byte (map_with s o) s.map (k + i) (map_bytes (λ q. held s.map q || offered o q) (length s.map)) all (λ j g. held_elsewhere s o ((k + i) * 8 + j) (omega (arith, a, c, h, g)) (inside ((k + i) * 8 + j) (omega arith)))
      ∙ sym (get_or-drop k s.map i 0))

  buffer_beyond : drop s.length (buffer_with s o) ≡ drop s.length s.buffer
  buffer_beyond =
      let l = s.length in
      let f : ℕ → ℕ = λ p. cond (within o.start o.size p && is_new s o p) (o.byte p) (byte_at s.buffer p) in
      let a = length-drop l (buffer_with s o) in
      let b = length-drop l s.buffer in
      let c = values_long f 0 (length s.buffer) in
      ext_get_or 0 (drop l (buffer_with s o)) (drop l s.buffer) (a ∙ ap (λ (n : ℕ). n - l) c ∙ sym b)
      (λ i h. get_or-drop l (buffer_with s o) i 0
      ∙ value_at f 0 (length s.buffer) (l + i) (omega (arith, a, c, h))
      ∙ ap (λ (w : Bool). cond w (o.byte (l + i)) (byte_at s.buffer (l + i))) (not_new (within o.start o.size (l + i)) (o.has (l + i)) (held s.map (l + i)) (inside (l + i) (omega arith)))
      ∙ sym (get_or-drop l s.buffer i 0))

  pub added_beyond : (n : ℕ) → beyond (after s o (accepted n)) ≡ beyond s
  added_beyond n = ap₂ (λ (m b : List ℕ). record { map = m; buffer = b }) map_beyond buffer_beyond

-- ---- taking and joining, accepted or refused
pub taken_ends : (s : Reception) (x : PieceData) (n : ℕ) → taking s x ≡ accepted n → x.offset + length x.bytes ≤ s.length
unfolding taking
taken_ends s x n e =
    let w = (accepted_only_if (taking_checks s x) (new_in s (of_piece x)) n e).0 in
    ltb-false s.length (x.offset + length x.bytes) w.1.1.1.0

pub joined_lengths : (s t : Reception) (n : ℕ) → joining s t ≡ accepted n → s.length ≡ t.length
unfolding joining
joined_lengths s t n e =
    let w = (accepted_only_if (joining_checks s t) (new_in s (of_reception t)) n e).0 in
    eqb-true s.length t.length (and_right (eqb s.number t.number) (eqb s.length t.length) (not-false _ w.1.1.0))

module _ (s : Reception) (all : AllBytes s.map) where
  take_by : (x : PieceData) (a : Answer ℕ) → taking s x ≡ a → beyond (after s (of_piece x) a) ≡ beyond s
  take_by x (refused n) e = refl
  take_by x (accepted n) e =
      let k = taken_ends s x n e in
      added_beyond s (of_piece x) all (λ p g. piece_below x s.length p k g) n

  pub taken_beyond : (x : PieceData) → beyond (taken s x) ≡ beyond s
  taken_beyond x = take_by x (taking s x) refl

  join_by : (t : Reception) (a : Answer ℕ) → joining s t ≡ a → beyond (after s (of_reception t) a) ≡ beyond s
  join_by t (refused n) e = refl
  join_by t (accepted n) e =
      let k = joined_lengths s t n e in
      added_beyond s (of_reception t) all (λ p g. second_below t p (omega (arith, k, g))) n

  pub joined_beyond : (t : Reception) → beyond (joined s t) ≡ beyond s
  joined_beyond t = join_by t (joining s t) refl
