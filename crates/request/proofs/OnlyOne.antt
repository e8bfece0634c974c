-- No second answer meets a promise of this crate, and no other bytes in a lent target.
-- Assumes nothing.
use mathlib.Core.Path.{◌≡◌}
use mathlib.Core.List.{List}
use Prim.Native.Nat.{ℕ}
use Rattle.std.specs.Prelude.{Result}
use Rattle.reason.specs.declared.Reason.{Reason}
use Rattle.reason.specs.Answer.{answer_of, Writes}
use Rattle.reason.proofs.OnlyOne.{only_one, only_one_answer, only_one_written, only_one_told}
use Rattle.octets.specs.Runs.{put_in}
use Rattle.ax25.specs.declared.Head.{Head}
use Rattle.holes.specs.declared.Hole.{Hole}
use Rattle.request.specs.declared.Asks.{Asks}
use Rattle.request.specs.declared.Request.{Request}
use Rattle.request.specs.declared.Written.{Written}
use Rattle.request.specs.Request.{flags_of}
use Rattle.request.specs.Reading.{AsksBy, read_request, hole_read, hole_at}
use Rattle.request.specs.Writing.{Wanted, filling, fill_frame, Fills, starting}

-- `write_fill`
pub only_one_fill : (w : Wanted) (place : ℕ) (target : List ℕ) (r q : Result Written Reason) (left also : List ℕ) → Fills w place target r left
    → Fills w place target q also → (r ≡ q) × (left ≡ also)
only_one_fill w place target r q left also d e =
    only_one_told target (filling w place target) (λ x. put_in target 0 (fill_frame w place)) r q left also d e

-- `write_start`
pub only_one_start : (head : Head) (number : ℕ) (target : List ℕ) (r q : Result Unit Reason) (left also : List ℕ)
    → Writes target (starting head number target) r left
    → Writes target (starting head number target) q also → (r ≡ q) × (left ≡ also)
only_one_start head number target r q left also d e = only_one_written target (starting head number target) r q left also d e

-- `read_request`
pub only_one_read : (frame : List ℕ) (r q : Result Request Reason) → answer_of r ≡ read_request frame → answer_of q ≡ read_request frame → r ≡ q
only_one_read frame r q = only_one_answer r q

-- `Asks::try_from`, and `u8::from` of what is asked for
pub only_one_asks : (flags : ℕ) (r q : Result Asks Reason) → AsksBy flags r → AsksBy flags q → r ≡ q
only_one_asks flags r q = only_one_answer r q

pub only_one_flags : (asks : Asks) (r q : ℕ) → r ≡ flags_of asks → q ≡ flags_of asks → r ≡ q
only_one_flags asks r q = only_one r q

-- `hole_at` and `hole_of`
pub only_one_hole_at : (frame : List ℕ) (index : ℕ) (r q : Hole) → r ≡ hole_at frame index → q ≡ hole_at frame index → r ≡ q
only_one_hole_at frame index r q = only_one r q

pub only_one_hole_of : (frame : List ℕ) (read : Result Request Reason) (index : ℕ) (r q : Hole) → r ≡ hole_read (answer_of read) frame index
    → q ≡ hole_read (answer_of read) frame index → r ≡ q
only_one_hole_of frame read index r q = only_one r q
