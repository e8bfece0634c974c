-- Spare bits, set or clear, change no answer of listing.
-- Assumes nothing.
use mathlib.Core.Path.{◌≡◌, refl, sym, ap₂}
use mathlib.Core.Bool.{Bool, not, ◌&&◌}
use mathlib.Core.List.{List}
use Prim.Native.Nat.{ℕ, zero, suc, ◌-◌, ◌<◌}
use native.Mathlib.Omega.{arith}
use Rattle.positions.specs.Map.{held}
use Rattle.positions.proofs.SpanLaws.{first_same}
use Rattle.reception.specs.Spare.{SameBelow}
use Rattle.holes.specs.Holes.{held_before, starts_hole, hole_start, hole_end, hole_from}
use Rattle.holes.specs.Listing.{listing}

module _ (l : ℕ) (map map' : List ℕ) (below : SameBelow l map map') where
  before_same : (p : ℕ) → p < l → held_before map p ≡ held_before map' p
  before_same zero g = refl
  before_same (suc p) g = below.same p (omega arith)

  start_same : (place : ℕ) → hole_start l map place ≡ hole_start l map' place
  start_same place =
      first_same (starts_hole map) (starts_hole map') place (l - place)
      (λ p low g. ap₂ (λ (a b : Bool). not a && b) (below.same p (omega arith)) (before_same p (omega arith)))

  end_same : (start : ℕ) → hole_end l map start ≡ hole_end l map' start
  end_same start = first_same (held map) (held map') start (l - start) (λ p low g. below.same p (omega arith))

  hole_same : (place : ℕ) → hole_from l map place ≡ hole_from l map' place
  hole_same place = rw (start_same place, end_same (hole_start l map' place))

  pub listing_same : (place : ℕ) → listing l map place ≡ listing l map' place
  unfolding listing
  listing_same place = let e = below.long in rw (sym e, hole_same place, start_same place)
