-- How much room writing a fill request needs at most: a target for a frame of the most holes is never too short.
-- Assumes nothing.
use mathlib.Core.Path.{◌≡◌, refl, sym, ap, ◌∙◌}
use mathlib.Core.Bool.{false}
use mathlib.Core.List.{List, [], ◌∷◌, ◌++◌}
use Prim.Native.Nat.{ℕ, ◌≤◌}
use native.Mathlib.Omega.{arith}
use lib.ListN.{length}
use borrow.Author.Tests.{le-ltb}
use Rattle.reason.specs.Answer.{Answer, accepted, refused}
use Rattle.reason.specs.Order.{Check, check, first_of}
use Rattle.reason.proofs.OrderLaws.{accepted_only_if, refused_then, accepted_then, skip, none_left}
use Rattle.holes.specs.Listing.{listing_checks}
use Rattle.holes.specs.EveryHole.{last_end}
use Rattle.holes.proofs.ListedLaws.{listed_most, listed_fewer}
use Rattle.request.specs.declared.Asks.TheVariants.{Holes}
use Rattle.request.specs.declared.Written.{Written}
use Rattle.request.specs.Request.{most_holes, frame_length}
use Rattle.request.specs.Writing.{Wanted, bad_address, short_target, holes_from, filling, fill_frame}
use Rattle.request.proofs.SentLaws.{frame_long}

-- The request from a place has no more holes than the one from 0, so a target that takes the first of a run takes all.
pub first_is_longest : (w : Wanted) (target : List ℕ) → frame_length (length (holes_from w 0)) ≤ length target → (place : ℕ)
    → frame_length (length (holes_from w place)) ≤ length target
first_is_longest w target room place =
    let few = listed_fewer most_holes w.length w.map 0 place (omega arith) in omega (arith, few, room)

module _ (w : Wanted) (place : ℕ) where
  abbrev Count : ℕ
  Count = length (holes_from w place)

  abbrev Told : Written
  Told = record { count = Count; end = last_end place (holes_from w place) }

  -- the reasons before that of the target: 2, 7, 12 (map), 15
  abbrev Before : List Check
  Before = check (bad_address w.head) 2 ∷ listing_checks w.length w.map place

  -- No frame is longer than one of the most holes.
  pub no_frame_is_longer : length (fill_frame w place) ≤ frame_length most_holes
  no_frame_is_longer =
      let most = listed_most most_holes w.length w.map place in
      omega (arith, most, frame_long w.head Holes w.number (holes_from w place))

  -- So in a target of that length the request is refused for another reason or written: 12 (target) is never given.
  pub never_too_short : (target : List ℕ) → frame_length most_holes ≤ length target → filling w place target ≡ first_of Before Told
  unfolding filling
  never_too_short target room = by (first_of Before Told) refl
    where
      last : List Check
      last = check (short_target target Count) 12 ∷ []

      long_enough : short_target target Count ≡ false
      long_enough = let most = listed_most most_holes w.length w.map place in le-ltb (length target) (frame_length Count) (omega (arith, most, room))

      by : (x : Answer Written) → first_of Before Told ≡ x → first_of (Before ++ last) Told ≡ x
      by (accepted x) e =
          accepted_then Before last Told x Told e ∙ skip 12 [] Told long_enough ∙ none_left Told ∙ ap accepted (sym (accepted_only_if Before Told x e).1)
      by (refused n) e = refused_then Before last Told Told n e
