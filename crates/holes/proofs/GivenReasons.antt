-- Which answer listing gives: a law for each reason, in the section of what precedes it.
-- Assumes nothing.
use mathlib.Core.Path.{◌≡◌, ◌∙◌}
use mathlib.Core.Bool.{true, false}
use mathlib.Core.List.{List}
use Prim.Native.Nat.{ℕ, ◌≤◌, ◌<◌}
use lib.ListN.{length}
use borrow.Author.Tests.{le-leb, lt-leb, le-ltb, lt-ltb}
use Rattle.reason.specs.Answer.{accepted, refused}
use Rattle.reason.proofs.OrderLaws.{skip, stop, none_left}
use Rattle.positions.specs.Map.{map_size}
use Rattle.reception.specs.Reception.{wrong_length}
use Rattle.holes.specs.Holes.{hole_start, hole_from}
use Rattle.holes.specs.Listing.{listing}

module _ (l : ℕ) (map : List ℕ) (place : ℕ) where
  pub lists_7 : wrong_length l ≡ true → listing l map place ≡ refused 7
  unfolding listing
  lists_7 e = stop 7 _ _ e

  module _ (right : wrong_length l ≡ false) where
    pub lists_12 : length map < map_size l → listing l map place ≡ refused 12
    unfolding listing
    lists_12 h = skip 7 _ _ right ∙ stop 12 _ _ (lt-ltb (length map) (map_size l) h)

    module _ (room : map_size l ≤ length map) where
      pub lists_15 : l ≤ hole_start l map place → listing l map place ≡ refused 15
      unfolding listing
      lists_15 h = skip 7 _ _ right ∙ skip 12 _ _ (le-ltb (length map) (map_size l) room) ∙ stop 15 _ _ (le-leb l (hole_start l map place) h)

      pub lists : hole_start l map place < l → listing l map place ≡ accepted (hole_from l map place)
      unfolding listing
      lists h = skip 7 _ _ right ∙ skip 12 _ _ (le-ltb (length map) (map_size l) room) ∙ skip 15 _ _ (lt-leb l (hole_start l map place) h) ∙ none_left _
