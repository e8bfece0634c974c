-- How adding an offer meets its promise: refused, or accepted with the map and the buffer of the definition.
-- Assumes nothing.
use mathlib.Core.Path.{◌≡◌, refl, ap, ◌∙◌}
use mathlib.Core.Bool.{Bool, true, false, ◌&&◌, ◌||◌, or-false}
use mathlib.Core.List.{List}
use Prim.Native.Nat.{ℕ, ◌+◌, ◌*◌, ◌≤◌, ◌<◌}
use native.Mathlib.Omega.{arith}
use lib.Dec.{leb, ltb}
use lib.ListN.{length}
use borrow.Author.Tests.{leb-true, ltb-false, not-false}
use Rattle.std.specs.Prelude.{Ok, Err}
use Rattle.reason.specs.declared.Reason.{Reason}
use Rattle.reason.specs.Reasons.{number_of}
use Rattle.reason.specs.Answer.{Answer, accepted, refused}
use Rattle.reason.proofs.Bools.{and_left, and_right, or_none}
use Rattle.positions.specs.Map.{held, map_size}
use Rattle.positions.proofs.SpanLaws.{behind_span}
use Rattle.positions.proofs.MapLaws.{held_map}
use Rattle.reception.specs.Reception.{Reception, PieceData, longest, wrong_length, short_map, short_space}
use Rattle.reception.specs.Adding.{Offer, of_piece, of_reception, offered, map_with, buffer_with, Adds}

-- ---- what the first two tests say
pub right_length : (l : ℕ) → wrong_length l ≡ false → (1 ≤ l) × (l ≤ longest)
right_length l e =
    let f = not-false (leb 1 l && leb l longest) e in
    (leb-true 1 l (and_left (leb 1 l) (leb l longest) f), leb-true l longest (and_right (leb 1 l) (leb l longest) f))

pub enough_space : (l : ℕ) (map buffer : List ℕ) → short_space l map buffer ≡ false → (map_size l ≤ length map) × (l ≤ length buffer)
enough_space l map buffer e =
    let f = or_none (short_map l map) (ltb (length buffer) l) e in
    (ltb-false (length map) (map_size l) f.0, ltb-false (length buffer) l f.1)

-- ---- the promise
module _ (s : Reception) (o : Offer) (answer : Answer ℕ) (map buffer : List ℕ) where
  pub adds_refused : (reason : Reason) → answer ≡ refused (number_of reason) → map ≡ s.map → buffer ≡ s.buffer → Adds s o answer (Err reason) map buffer
  adds_refused reason e m b = rw e record { answers = refl; leaves_map = m; leaves_buffer = b }

  -- .. where what is answered is the count of the definition
  pub adds_counted : (k n : ℕ) → answer ≡ accepted k → n ≡ k → map ≡ map_with s o → buffer ≡ buffer_with s o → Adds s o answer (Ok n) map buffer
  adds_counted k n e c m b = rw (c, e) record { answers = refl; leaves_map = m; leaves_buffer = b }

-- ---- what is not offered, and what it leaves
pub piece_below : (x : PieceData) (l p : ℕ) → x.offset + length x.bytes ≤ l → l ≤ p → offered (of_piece x) p ≡ false
piece_below x l p ends g = ap (λ (w : Bool). w && true) (behind_span x.offset (length x.bytes) p (omega arith))

pub second_below : (t : Reception) (p : ℕ) → t.length ≤ p → offered (of_reception t) p ≡ false
second_below t p g = ap (λ (w : Bool). w && held t.map p) (behind_span 0 t.length p (omega arith))

pub held_elsewhere : (s : Reception) (o : Offer) (p : ℕ) → p < length s.map * 8 → offered o p ≡ false → held (map_with s o) p ≡ held s.map p
held_elsewhere s o p h e =
    held_map (λ q. held s.map q || offered o q) (length s.map) p h
    ∙ ap (λ (b : Bool). held s.map p || b) e
    ∙ or-false (held s.map p)
