-- Listing gives each of its reasons exactly when it is the first that holds (demand 1).
-- Assumes nothing.
use mathlib.Core.List.{List}
use Prim.Native.Nat.{ℕ}
use Rattle.reason.specs.Order.{Exactly}
use Rattle.reason.proofs.OrderLaws.{exactly}
use Rattle.holes.specs.Holes.{hole_from}
use Rattle.holes.specs.Listing.{listing_checks, listing}

pub list_in_order : (l : ℕ) (map : List ℕ) (place : ℕ) → Exactly (listing_checks l map place) (hole_from l map place) (listing l map place)
unfolding listing
list_in_order l map place = exactly (listing_checks l map place) (hole_from l map place)
