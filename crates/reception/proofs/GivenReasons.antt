-- Which answer each operation gives: a law for each reason, in the section of what precedes it.
-- Assumes nothing.
use mathlib.Core.Path.{◌≡◌, ap, ◌∙◌}
use mathlib.Core.Bool.{true, false, not, ◌&&◌, ◌||◌}
use mathlib.Core.List.{List, [], ◌∷◌}
use Prim.Native.Nat.{ℕ, ◌+◌, ◌≤◌, ◌<◌}
use lib.Dec.{eqb}
use lib.ListN.{length, drop}
use Rattle.std.proofs.lemmas.Bool.{eq-eqb, ne_eqb, le-ltb, lt-ltb, or_from}
use Rattle.reason.specs.Answer.{accepted, refused}
use Rattle.reason.specs.Order.{check, first_of}
use Rattle.reason.proofs.OrderLaws.{accepted_only_if, refused_then, accepted_then, skip, stop, none_left}
use Rattle.positions.specs.Map.{map_size}
use Rattle.reception.specs.Reception.{Reception, PieceData, wrong_length, short_space}
use Rattle.reception.specs.Adding.{of_reception, agrees}
use Rattle.reception.specs.Opening.{opening_checks, opening}
use Rattle.reception.specs.Taking.{disagrees, taking_checks, taking, taken_new}
use Rattle.reception.specs.Joining.{joining, joined_new}
use Rattle.reception.proofs.OfferLaws.{enough_space}

-- ---- opening
module _ (l : ℕ) (map buffer : List ℕ) where
  pub opens : wrong_length l ≡ false → short_space l map buffer ≡ false → opening l map buffer ≡ accepted tt
  unfolding opening
  opens right e = skip 7 _ _ right ∙ skip 12 _ _ e ∙ none_left tt

  -- what an accepted opening says
  pub opens_only_if : opening l map buffer ≡ accepted tt → (wrong_length l ≡ false) × (short_space l map buffer ≡ false)
  unfolding opening
  opens_only_if e = let w = (accepted_only_if (opening_checks l map buffer) tt tt e).0 in (w.0, w.1.0)

  -- .. so there is room for the file
  pub opens_in : opening l map buffer ≡ accepted tt → (map_size l ≤ length map) × (l ≤ length buffer)
  opens_in e = enough_space l map buffer (opens_only_if e).1

-- ---- taking: refused first for what opening is refused for
module _ (s : Reception) (x : PieceData) where
  pub takes_first : (n : ℕ) → opening s.length s.map s.buffer ≡ refused n → taking s x ≡ refused n
  unfolding taking opening
  takes_first n e = refused_then (opening_checks s.length s.map s.buffer) (drop 2 (taking_checks s x)) tt (taken_new s x) n e

  module _ (room : opening s.length s.map s.buffer ≡ accepted tt) where
    then : taking s x ≡ first_of (drop 2 (taking_checks s x)) (taken_new s x)
    unfolding taking opening
    then = accepted_then (opening_checks s.length s.map s.buffer) (drop 2 (taking_checks s x)) tt tt (taken_new s x) room

    pub takes_9 : (s.number ≡ x.number → ⊥) → taking s x ≡ refused 9
    takes_9 d = then ∙ stop 9 _ _ (ap not (ne_eqb s.number x.number d))

    module _ (same : s.number ≡ x.number) where
      here : taking s x ≡ first_of (drop 3 (taking_checks s x)) (taken_new s x)
      here = then ∙ skip 9 _ _ (ap not (eq-eqb s.number x.number same))

      pub takes_10 : s.length < x.offset + length x.bytes → taking s x ≡ refused 10
      takes_10 h = here ∙ stop 10 _ _ (lt-ltb s.length (x.offset + length x.bytes) h)

      module _ (fits : x.offset + length x.bytes ≤ s.length) where
        last : taking s x ≡ first_of (check (disagrees s x) 11 ∷ []) (taken_new s x)
        last = here ∙ skip 10 _ _ (le-ltb s.length (x.offset + length x.bytes) fits)

        pub takes_11 : disagrees s x ≡ true → taking s x ≡ refused 11
        takes_11 e = last ∙ stop 11 _ _ e

        pub takes : disagrees s x ≡ false → taking s x ≡ accepted (taken_new s x)
        takes e = last ∙ skip 11 _ _ e ∙ none_left _

-- ---- joining
module _ (s t : Reception) where
  pub joins_7 : (wrong_length s.length || wrong_length t.length) ≡ true → joining s t ≡ refused 7
  unfolding joining
  joins_7 e = stop 7 _ _ e

  module _ (right : wrong_length s.length ≡ false) (also_right : wrong_length t.length ≡ false) where
    pub joins_12 : (short_space s.length s.map s.buffer || short_space t.length t.map t.buffer) ≡ true → joining s t ≡ refused 12
    unfolding joining
    joins_12 e = skip 7 _ _ (or_from _ _ right also_right) ∙ stop 12 _ _ e

    module _ (room : short_space s.length s.map s.buffer ≡ false) (also_room : short_space t.length t.map t.buffer ≡ false) where
      pub joins_9 : (eqb s.number t.number && eqb s.length t.length) ≡ false → joining s t ≡ refused 9
      unfolding joining
      joins_9 e = skip 7 _ _ (or_from _ _ right also_right) ∙ skip 12 _ _ (or_from _ _ room also_room) ∙ stop 9 _ _ (ap not e)

      module _ (same : (eqb s.number t.number && eqb s.length t.length) ≡ true) where
        rest : joining s t ≡ first_of (check (not (agrees s (of_reception t))) 11 ∷ []) (joined_new s t)
        unfolding joining
        rest = skip 7 _ _ (or_from _ _ right also_right) ∙ skip 12 _ _ (or_from _ _ room also_room) ∙ skip 9 _ _ (ap not same)

        pub joins_11 : agrees s (of_reception t) ≡ false → joining s t ≡ refused 11
        joins_11 e = rest ∙ stop 11 _ _ (ap not e)

        pub joins : agrees s (of_reception t) ≡ true → joining s t ≡ accepted (joined_new s t)
        joins e = rest ∙ skip 11 _ _ (ap not e) ∙ none_left _
