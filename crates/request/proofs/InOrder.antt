-- Each operation of this crate gives each of its reasons exactly when it is the first that holds (demand 1).
-- Assumes nothing.
use mathlib.Core.Bool.{not}
use mathlib.Core.List.{List, [], ◌∷◌}
use Prim.Native.Nat.{ℕ}
use lib.ListN.{length}
use Rattle.reason.specs.Order.{check, first_of, Exactly}
use Rattle.reason.proofs.OrderLaws.{exactly}
use Rattle.octets.specs.Runs.{put_in}
use Rattle.ax25.specs.declared.Head.{Head}
use Rattle.holes.specs.EveryHole.{last_end}
use Rattle.request.specs.declared.Asks.TheVariants.{Start}
use Rattle.request.specs.Request.{request_frame}
use Rattle.request.specs.Reading.{flags_allowed, asks_by, request_order, request_of, read_request}
use Rattle.request.specs.Writing.{Wanted, holes_from, fill_checks, filling, start_checks, starting}

pub read_request_in_order : (frame : List ℕ) → Exactly (request_order frame) (request_of frame) (read_request frame)
unfolding read_request
read_request_in_order frame = exactly (request_order frame) (request_of frame)

-- the flags alone
pub read_flags_in_order : (flags : ℕ) → let checks = check (not (flags_allowed flags)) 5 ∷ [] in
    Exactly checks (asks_by flags) (first_of checks (asks_by flags))
read_flags_in_order flags = exactly (check (not (flags_allowed flags)) 5 ∷ []) (asks_by flags)

pub write_fill_in_order : (w : Wanted) (place : ℕ) (target : List ℕ)
    → Exactly (fill_checks w place target) (record { count = length (holes_from w place); end = last_end place (holes_from w place) })
    (filling w place target)
unfolding filling
write_fill_in_order w place target = exactly (fill_checks w place target) _

pub write_start_in_order : (head : Head) (number : ℕ) (target : List ℕ)
    → Exactly (start_checks head target) (put_in target 0 (request_frame head Start number [])) (starting head number target)
unfolding starting
write_start_in_order head number target = exactly (start_checks head target) _
