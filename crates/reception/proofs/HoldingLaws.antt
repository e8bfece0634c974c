-- Laws of the receptions of a file, whatever set of its positions each holds: a piece whose positions are all held adds nothing, and the
-- laws of joining. First, what is held after any answer at all.
-- Assumes nothing.
use mathlib.Core.Path.{◌≡◌, refl, sym, ap, ap₂, ◌∙◌}
use mathlib.Core.Bool.{Bool, true, false, not, ◌&&◌, ◌||◌, and-true, and-not_self, or-false, or_self, or_assoc, or_comm}
use mathlib.Core.List.{List}
use Prim.Native.Nat.{ℕ, ◌*◌, ◌<◌}
use native.Mathlib.Omega.{arith}
use lib.ListN.{length}
use Rattle.reason.specs.Answer.{Answer, accepted, refused, is_accepted}
use Rattle.octets.specs.Numbers.{AllBytes}
use Rattle.positions.specs.Spans.{within, count}
use Rattle.positions.specs.Map.{held}
use Rattle.positions.proofs.SpanLaws.{in_span, span_high, count_same, count_zero}
use Rattle.positions.proofs.MapLaws.{map_long, held_map}
use Rattle.reception.specs.Reception.{Reception, PieceData, wrong_length}
use Rattle.reception.specs.Adding.{of_piece, offered, after}
use Rattle.reception.specs.Opening.{opening, opened}
use Rattle.reception.specs.Taking.{taking, taken}
use Rattle.reception.specs.Joining.{joining, joined}
use Rattle.reception.specs.Fitting.{fits, covers, AgreesWith}
use Rattle.reception.specs.Contents.{HoldsOf, itself}
use Rattle.reception.proofs.GivenReasons.{opens_only_if}
use Rattle.reception.proofs.Holding.{same_reception, fits_inside, opened_holds, fitting_is_taken, taken_holds, join_accepted, joined_holds}
use Rattle.reception.proofs.LentSpace.{all_of_it, taken_beyond, joined_beyond}

-- ---- any reception, any piece and any answer: a position is held exactly if it was before, or the piece was accepted and covers it
module _ (s : Reception) (x : PieceData) where
  pub as_long : (answer : Answer ℕ) → length (after s (of_piece x) answer).map ≡ length s.map
  as_long (accepted n) = map_long (λ p. held s.map p || offered (of_piece x) p) (length s.map)
  as_long (refused n) = refl

  pub held_after : (answer : Answer ℕ) (p : ℕ) → p < length s.map * 8
      → held (after s (of_piece x) answer).map p ≡ (held s.map p || is_accepted answer && within x.offset (length x.bytes) p)
  held_after (accepted n) p h =
      held_map (λ q. held s.map q || offered (of_piece x) q) (length s.map) p h
      ∙ ap (λ (b : Bool). held s.map p || b) (and-true (within x.offset (length x.bytes) p))
  held_after (refused n) p h = sym (or-false (held s.map p))

nothing_new : (a b : Bool) → (b && not (a || b)) ≡ false
nothing_new true true = refl
nothing_new true false = refl
nothing_new false b = and-not_self b

module _ (number l : ℕ) (file : List ℕ) (ok : wrong_length l ≡ false) where
  -- ---- a repeat does not spoil a file
  -- a piece that fits and agrees, whose positions are all held: it counts 0, and nothing changes
  module _ (S : ℕ → Bool) (s : Reception) (h : HoldsOf number l file S s) (x : PieceData) (fit : fits number l x ≡ true) (agree : AgreesWith file x)
      (all : (p : ℕ) → within x.offset (length x.bytes) p ≡ true → held s.map p ≡ true) where
    pub held_counts_0 : taking s x ≡ accepted 0
    held_counts_0 =
        fitting_is_taken number l file ok S s h x fit agree
        ∙ ap accepted (count_zero (λ p. true && not (held s.map p)) x.offset (length x.bytes)
        (λ p low g. ap not (all p (in_span x.offset (length x.bytes) p low g))))

    adds_nothing : (p : ℕ) (w : Bool) → within x.offset (length x.bytes) p ≡ w → (S p || covers number l x p) ≡ S p
    adds_nothing p true w =
        let ends = fits_inside number l x fit in
        let high = span_high x.offset (length x.bytes) p w in
        let there : S p ≡ true = sym (h.holds p (omega (arith, ends, high))) ∙ all p w in
        ap (λ (b : Bool). b || covers number l x p) there ∙ sym there
    adds_nothing p false w = ap₂ (λ (f v : Bool). S p || f && v) fit w ∙ or-false (S p)

    pub held_changes_nothing : taken s x ≡ s
    held_changes_nothing =
        all_of_it (taken s x) s
        (same_reception number l file (λ p. S p || covers number l x p) S (taken s x) s (taken_holds number l file ok S s h x (λ _. agree)) h
        (λ p _. adds_nothing p (within x.offset (length x.bytes) p) refl))
        (taken_beyond s h.map_bytes x)

  -- ---- the laws of joining, among all receptions of the file: whatever set of its positions each holds

  module _ (S T : ℕ → Bool) (s t : Reception) (holds_s : HoldsOf number l file S s) (holds_t : HoldsOf number l file T t) where
    -- no join among them is refused, and it counts the positions that only the second holds
    pub never_refused : joining s t ≡ accepted (count (λ p. held t.map p && not (held s.map p)) 0 l)
    never_refused =
        join_accepted number l file ok S T s t holds_s holds_t
        ∙ ap accepted (count_same (λ p. T p && not (S p)) (λ p. held t.map p && not (held s.map p)) 0 l
        (λ p _ g. ap₂ (λ (a b : Bool). a && not b) (sym (holds_t.holds p (omega arith))) (sym (holds_s.holds p (omega arith)))))

    -- either order
    pub either_order : itself (joined s t) ≡ itself (joined t s)
    either_order =
        same_reception number l file (λ p. S p || T p) (λ p. T p || S p) (joined s t) (joined t s)
        (joined_holds number l file ok S T s t holds_s holds_t) (joined_holds number l file ok T S t s holds_t holds_s) (λ p _. or_comm (S p) (T p))

    -- joining the second again changes nothing, and counts nothing
    pub repeated : joined (joined s t) t ≡ joined s t
    repeated =
        let both = joined_holds number l file ok S T s t holds_s holds_t in
        all_of_it (joined (joined s t) t) (joined s t)
        (same_reception number l file (λ p. (S p || T p) || T p) (λ p. S p || T p) (joined (joined s t) t) (joined s t)
        (joined_holds number l file ok (λ p. S p || T p) T (joined s t) t both holds_t) both (λ p _. or_assoc (S p) (T p) (T p) ∙ ap (λ (b : Bool). S p || b) (or_self (T p))))
        (joined_beyond (joined s t) both.map_bytes t)

    pub repeated_counts_0 : joining (joined s t) t ≡ accepted 0
    repeated_counts_0 =
        join_accepted number l file ok (λ p. S p || T p) T (joined s t) t (joined_holds number l file ok S T s t holds_s holds_t) holds_t
        ∙ ap accepted (count_zero (λ p. T p && not (S p || T p)) 0 l (λ p _ _. nothing_new (S p) (T p)))

    -- any grouping, in all that was lent
    pub any_grouping : (U : ℕ → Bool) (u : Reception) → HoldsOf number l file U u → joined (joined s t) u ≡ joined s (joined t u)
    any_grouping U u holds_u =
        let both = joined_holds number l file ok S T s t holds_s holds_t in
        all_of_it (joined (joined s t) u) (joined s (joined t u))
        (same_reception number l file (λ p. (S p || T p) || U p) (λ p. S p || (T p || U p)) (joined (joined s t) u) (joined s (joined t u))
        (joined_holds number l file ok (λ p. S p || T p) U (joined s t) u both holds_u)
        (joined_holds number l file ok S (λ p. T p || U p) s (joined t u) holds_s (joined_holds number l file ok T U t u holds_t holds_u))
        (λ p _. or_assoc (S p) (T p) (U p)))
        (joined_beyond (joined s t) both.map_bytes u ∙ joined_beyond s holds_s.map_bytes t ∙ sym (joined_beyond s holds_s.map_bytes (joined t u)))

  module _ (S : ℕ → Bool) (s : Reception) (h : HoldsOf number l file S s) where
    -- joined with itself
    pub with_itself : joined s s ≡ s
    with_itself =
        all_of_it (joined s s) s
        (same_reception number l file (λ p. S p || S p) S (joined s s) s (joined_holds number l file ok S S s s h h) h (λ p _. or_self (S p)))
        (joined_beyond s h.map_bytes s)

    -- a fresh reception is neutral on both sides
    module _ (map buffer : List ℕ) (bytes : AllBytes map) (opens : opening l map buffer ≡ accepted tt) where
      pub fresh_second : joined s (opened number l map buffer) ≡ s
      fresh_second =
          let none = opened_holds number l file map buffer (opens_only_if l map buffer opens).1 bytes in
          all_of_it (joined s (opened number l map buffer)) s
          (same_reception number l file (λ p. S p || false) S (joined s (opened number l map buffer)) s
          (joined_holds number l file ok S (λ p. false) s (opened number l map buffer) h none) h (λ p _. or-false (S p)))
          (joined_beyond s h.map_bytes (opened number l map buffer))

      pub fresh_first : itself (joined (opened number l map buffer) s) ≡ itself s
      fresh_first =
          let none = opened_holds number l file map buffer (opens_only_if l map buffer opens).1 bytes in
          same_reception number l file S S (joined (opened number l map buffer) s) s
          (joined_holds number l file ok (λ p. false) S (opened number l map buffer) s none h) h (λ p _. refl)
