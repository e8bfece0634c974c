-- Laws of writing requests: the runs that make a frame, and which answer is given.
-- Assumes nothing.
use mathlib.Core.Path.{◌≡◌, refl, sym, ap, ◌∙◌}
use mathlib.Core.Bool.{Bool, true, false, not, ◌&&◌}
use mathlib.Core.List.{List, [], ◌∷◌, ◌++◌, append_assoc}
use Prim.Native.Nat.{ℕ, ◌+◌, ◌*◌, ◌≤◌, ◌<◌}
use native.Mathlib.Omega.{arith}
use lib.ListN.{length, take, length-append}
use borrow.Author.Tests.{lt-ltb, le-ltb}
use Rattle.std.specs.Prelude.{Result, Ok, Err}
use Rattle.reason.specs.declared.Reason.{Reason}
use Rattle.reason.specs.declared.Reason.TheVariants.{Address, Space}
use Rattle.reason.specs.Reasons.{number_of}
use Rattle.reason.specs.Answer.{Writes, accepted, refused}
use Rattle.reason.specs.Order.{check, first_of}
use Rattle.reason.proofs.OrderLaws.{skip, stop, none_left, refused_then, accepted_then}
use Rattle.reason.proofs.Writing.{writes_refused, writes_accepted, when_accepted, tells_refused, tells_accepted}
use Rattle.octets.specs.Runs.{put_in, Put}
use Rattle.octets.proofs.RunLaws.{put_more, put_part}
use Rattle.ax25.specs.declared.Address as ax
use Rattle.ax25.specs.declared.Head.{Head}
use Rattle.ax25.specs.Address.{is_writable}
use Rattle.ax25.specs.Head.{head_length, head_bytes, write_head}
use Rattle.ax25.specs.Information.{file_protocol}
use Rattle.ax25.proofs.WriteLaws.{head_written}
use Rattle.holes.specs.declared.Hole.{Hole}
use Rattle.holes.specs.Holes.{hole_from}
use Rattle.holes.specs.Listing.{listing, listing_checks}
use Rattle.holes.specs.EveryHole.{last_end}
use Rattle.request.specs.declared.Asks.{Asks}
use Rattle.request.specs.declared.Asks.TheVariants.{Start}
use Rattle.request.specs.declared.Written.{Written}
use Rattle.request.specs.Request.{before_holes, bytes_per_hole, frame_length, request_before, hole_bytes, holes_bytes, request_frame}
use Rattle.request.specs.Writing.{Wanted, short_target, holes_from, filling, fill_frame, Fills, starting}

-- how many bytes holes take
pub holes_long : (holes : List Hole) → length (holes_bytes holes) ≡ length holes * bytes_per_hole
holes_long [] = refl
holes_long (hole ∷ holes) = omega (arith, length-append (hole_bytes hole) (holes_bytes holes), holes_long holes)

-- ---- the runs of a frame
module _ (target : List ℕ) (d s : ax.Address) where
  -- the head, and the seven bytes behind it
  pub head_and_seven : (is_writable d && is_writable s) ≡ true → head_length + before_holes ≤ length target
      → (seven before after run : List ℕ) (r : Result Unit Reason) (q : Bool)
      → length run ≡ before_holes → seven ≡ run → Writes target (write_head target d s file_protocol) r before → Put before head_length seven q after
      → after ≡ put_in target 0 (head_bytes d s file_protocol ++ run)
  unfolding head_bytes
  head_and_seven good room seven before after run r q size is wrote put =
      put_more target 0 (head_bytes d s file_protocol) run before q after
      (when_accepted target (write_head target d s file_protocol) r before _ wrote (head_written target d s file_protocol good (omega arith))).1
      (rw is at put) (omega arith)

  -- .. and the holes behind both
  pub and_holes : (asks : Asks) (number : ℕ) (holes : List Hole) (entries part before after : List ℕ) (q : Bool)
      → frame_length (length holes) ≤ length target
      → length holes * bytes_per_hole ≤ length entries
      → part ≡ take (length holes * bytes_per_hole) (put_in entries 0 (holes_bytes holes))
      → before ≡ put_in target 0 (head_bytes d s file_protocol ++ request_before asks number) → Put before (head_length + before_holes) part q after
      → after ≡ put_in target 0 (request_frame (record { destination = d; source = s }) asks number holes)
  unfolding request_frame head_bytes
  and_holes asks number holes entries part before after q room space is e put =
      let run : part ≡ holes_bytes holes =
      is
      ∙ ap (λ (n : ℕ). take n (put_in entries 0 (holes_bytes holes))) (sym (holes_long holes))
      ∙ put_part entries 0 (holes_bytes holes) (omega (arith, holes_long holes)) in
      put_more target 0 (head_bytes d s file_protocol ++ request_before asks number) (holes_bytes holes) before q after e (rw run at put)
      (omega (arith, holes_long holes))
      ∙ ap (put_in target 0) (append_assoc (head_bytes d s file_protocol) (request_before asks number) (holes_bytes holes))

-- ---- a request for the start
module _ (head : Head) (number : ℕ) (target : List ℕ) where
  pub start_2 : (is_writable head.destination && is_writable head.source) ≡ false
      → Writes target (starting head number target) (Err Address) target
  unfolding starting
  start_2 g = writes_refused target (starting head number target) target Address (stop _ _ _ (ap not g)) refl

  module _ (good : (is_writable head.destination && is_writable head.source) ≡ true) where
    pub start_12 : length target < head_length + before_holes → Writes target (starting head number target) (Err Space) target
    unfolding starting
    start_12 h = writes_refused target (starting head number target) target Space (skip _ _ _ (ap not good) ∙ stop _ _ _ (lt-ltb _ _ h)) refl

    pub start_written : head_length + before_holes ≤ length target → (left : List ℕ)
        → left ≡ put_in target 0 (head_bytes head.destination head.source file_protocol ++ request_before Start number)
        → Writes target (starting head number target) (Ok tt) left
    unfolding starting request_frame
    start_written h left e =
        writes_accepted target (starting head number target) left _ (skip _ _ _ (ap not good) ∙ skip _ _ _ (le-ltb _ _ h) ∙ none_left _) e

-- ---- a request for holes
module _ (w : Wanted) (place : ℕ) (target : List ℕ) where
  -- how many holes it lists
  abbrev Count : ℕ
  Count = length (holes_from w place)

  -- what it tells
  abbrev Told : Written
  Told = record { count = Count; end = last_end place (holes_from w place) }

  pub fills_2 : (is_writable w.head.destination && is_writable w.head.source) ≡ false → filling w place target ≡ refused 2
  unfolding filling
  fills_2 g = stop _ _ _ (ap not g)

  module _ (good : (is_writable w.head.destination && is_writable w.head.source) ≡ true) where
    -- a reason of listing is the request's
    pub fills_refused : (n : ℕ) → listing w.length w.map place ≡ refused n → filling w place target ≡ refused n
    unfolding filling listing
    fills_refused n e =
        skip _ _ _ (ap not good)
        ∙ refused_then (listing_checks w.length w.map place) (check (short_target target Count) 12 ∷ [])
        (hole_from w.length w.map place) Told n e

    module _ (hole : Hole) (listed : listing w.length w.map place ≡ accepted hole) where
      past_15 : filling w place target ≡ first_of (check (short_target target Count) 12 ∷ []) Told
      unfolding filling listing
      past_15 =
          skip _ _ _ (ap not good)
          ∙ accepted_then (listing_checks w.length w.map place) (check (short_target target Count) 12 ∷ [])
          (hole_from w.length w.map place) hole Told listed

      pub fills_12 : length target < frame_length Count → filling w place target ≡ refused 12
      fills_12 h = past_15 ∙ stop _ _ _ (lt-ltb _ _ h)

      pub fills : frame_length Count ≤ length target → filling w place target ≡ accepted Told
      fills h = past_15 ∙ skip _ _ _ (le-ltb _ _ h) ∙ none_left _

  -- the promise of `write_fill`, by its answer
  pub fill_refused : (reason : Reason) → filling w place target ≡ refused (number_of reason) → Fills w place target (Err reason) target
  fill_refused reason e = tells_refused target (filling w place target) (λ x. put_in target 0 (fill_frame w place)) target (number_of reason) e refl

  pub fill_accepted : (x : Written) (left : List ℕ) → filling w place target ≡ accepted x → left ≡ put_in target 0 (fill_frame w place)
      → Fills w place target (Ok x) left
  fill_accepted x left e l = tells_accepted target (filling w place target) (λ y. put_in target 0 (fill_frame w place)) left x e l
