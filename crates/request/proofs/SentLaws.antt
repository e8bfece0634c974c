-- A written request is read back: its fields and its holes (demand 2).
-- Assumes nothing.
use mathlib.Core.Path.{◌≡◌, refl, sym, ap, ◌∙◌}
use mathlib.Core.Bool.{true, ◌&&◌}
use mathlib.Core.List.{List, [], ◌∷◌}
use Prim.Native.Nat.{ℕ, suc, ◌^◌, ◌≤◌, ◌<◌}
use native.Mathlib.Omega.{arith}
use lib.Dec.{leb}
use lib.ListN.{length, take, length-append}
use borrow.Author.Tests.{ltb-false, le-leb, not-false}
use Rattle.reason.specs.Answer.{accepted, leaving}
use Rattle.reason.specs.Order.{NoneHolds}
use Rattle.reason.proofs.Bools.{and_left, and_right, and_both}
use Rattle.reason.proofs.OrderLaws.{accepted_only_if, accepted_if}
use Rattle.octets.specs.Lists.{Each}
use Rattle.octets.specs.Runs.{put_in}
use Rattle.octets.proofs.RunLaws.{put_part}
use Rattle.ax25.specs.declared.Head.{Head}
use Rattle.ax25.specs.Address.{is_writable}
use Rattle.ax25.specs.Head.{head_bytes}
use Rattle.ax25.specs.Information.{file_protocol}
use Rattle.holes.specs.declared.Hole.{Hole}
use Rattle.reception.specs.Reception.{longest}
use Rattle.holes.specs.Holes.{hole_from, IsHole}
use Rattle.holes.specs.Listing.{listing, listing_checks}
use Rattle.holes.specs.EveryHole.{end_of, last_end, Ascending}
use Rattle.reception.proofs.OfferLaws.{right_length}
use Rattle.holes.proofs.HoleLaws.{all_are_holes, ascending}
use Rattle.holes.proofs.ListedLaws.{listed_more, listed_most}
use Rattle.request.specs.declared.Asks.{Asks}
use Rattle.request.specs.declared.Asks.TheVariants.{Start, Holes}
use Rattle.request.specs.declared.Written.{Written}
use Rattle.std.specs.Prelude.{Ok}
use Rattle.request.specs.Request.{most_holes, frame_length, request_before, holes_bytes, information, request_frame, hole_right, holes_right}
use Rattle.request.specs.Reading.{read_request, holes_of}
use Rattle.request.specs.Writing.{Wanted, holes_from, fill_checks, filling, fill_frame, Fills, start_checks, starting}
use Rattle.request.specs.Making.{MakeableRequest}
use Rattle.request.specs.Run.{sent}
use Rattle.request.proofs.WritingLaws.{holes_long}
use Rattle.request.proofs.RoundTrip.{made_request_is_read, made_holes_are_read}

-- holes that ascend from a place ascend from an earlier one
pub ascend_earlier : (low place : ℕ) (holes : List Hole) → low ≤ place → Ascending place holes → Ascending low holes
ascend_earlier low place [] h up = tt
ascend_earlier low place (hole ∷ holes) h up = (omega (arith, up.0), up.1)

-- holes of a reception are right in a request
pub holes_are_right : (l : ℕ) (map : List ℕ) (low : ℕ) (holes : List Hole) → l ≤ longest → Ascending low holes → Each (IsHole l map) holes
    → holes_right low holes ≡ true
unfolding holes_right
holes_are_right l map low [] h up are = refl
holes_are_right l map low (hole ∷ holes) h up are =
    and_both (hole_right low hole) (holes_right (suc (end_of hole)) holes)
    (and_both (leb low hole.start && leb 1 hole.length) (leb (end_of hole) longest)
    (and_both (leb low hole.start) (leb 1 hole.length) (le-leb low hole.start up.0) (le-leb 1 hole.length are.0.some))
    (le-leb (end_of hole) longest (omega (arith, are.0.below))))
    (holes_are_right l map (suc (end_of hole)) holes h up.1 are.1)

-- how many bytes a request's frame has
pub frame_long : (head : Head) (asks : Asks) (number : ℕ) (holes : List Hole)
    → length (request_frame head asks number holes) ≡ frame_length (length holes)
unfolding request_frame head_bytes
frame_long head asks number holes =
    omega
    (arith, length-append (head_bytes head.destination head.source file_protocol) (information asks number holes), length-append (request_before asks number) (holes_bytes holes), holes_long holes)

-- the first bytes of a target into which a frame was written are the frame
frame_stands : (target run : List ℕ) (n : ℕ) → length run ≡ n → n ≤ length target → take n (put_in target 0 run) ≡ run
frame_stands target run n e h = ap (λ (k : ℕ). take k (put_in target 0 run)) (sym e) ∙ put_part target 0 run (omega arith)

-- What `write_fill` leaves where it accepts: the frame stands in the first bytes of the target.
pub left_is_sent : (w : Wanted) (place : ℕ) (target : List ℕ) (x : Written) (left : List ℕ) → Fills w place target (Ok x) left
    → (filling w place target ≡ accepted x) × (take (frame_length x.count) left ≡ sent w place target x)
left_is_sent w place target x left f =
    let e = sym f.answers in
    (e, ap (take (frame_length x.count)) (f.bytes ∙ ap (leaving (λ y. put_in target 0 (fill_frame w place)) target) e))

-- ---- a request for holes that was written
module _ (w : Wanted) (place : ℕ) (target : List ℕ) (x : Written) (written : filling w place target ≡ accepted x) where
  abbrev Told : Written
  Told = record { count = length (holes_from w place); end = last_end place (holes_from w place) }

  none_held : NoneHolds (fill_checks w place target) × (x ≡ Told)
  unfolding filling
  none_held = accepted_only_if (fill_checks w place target) Told x written

  -- both addresses can be written, a hole was listed, and the target has room
  pub can_write : (is_writable w.head.destination && is_writable w.head.source) ≡ true
  can_write = not-false _ none_held.0.0

  pub listed : listing w.length w.map place ≡ accepted (hole_from w.length w.map place)
  unfolding listing
  listed =
      let all = none_held.0.1 in
      accepted_if (listing_checks w.length w.map place) (hole_from w.length w.map place) (all.0, (all.1.0, (all.1.1.0, tt)))

  pub tells : x ≡ Told
  tells = none_held.1

  room : frame_length (length (holes_from w place)) ≤ length target
  room = ltb-false (length target) (frame_length (length (holes_from w place))) none_held.0.1.1.1.1.0

  not_too_long : w.length ≤ longest
  not_too_long = (right_length w.length none_held.0.1.0).1

  -- it lists 1 to 49 holes
  pub lists_some : (1 ≤ length (holes_from w place)) × (length (holes_from w place) ≤ most_holes)
  lists_some =
      let one = ap length (listed_more w.length w.map place 48 (hole_from w.length w.map place) listed) in
      (omega (arith, one), listed_most most_holes w.length w.map place)

  -- the frame stands in the first bytes of the target
  pub sent_is : sent w place target x ≡ fill_frame w place
  sent_is =
      ap (λ (y : Written). sent w place target y) tells
      ∙ frame_stands target (fill_frame w place) (frame_length (length (holes_from w place)))
      (frame_long w.head Holes w.number (holes_from w place)) room

  module _ (number : w.number < 256 ^ 4) where
    fill_is_makeable : MakeableRequest w.head Holes w.number (holes_from w place)
    fill_is_makeable = record {
      destination = and_left (is_writable w.head.destination) (is_writable w.head.source) can_write;
      source = and_right (is_writable w.head.destination) (is_writable w.head.source) can_write;
      number_fits = number;
      as_many =
          and_both (leb 1 (length (holes_from w place))) (leb (length (holes_from w place)) most_holes) (le-leb _ _ lists_some.0)
          (le-leb _ _ lists_some.1);
      right = holes_are_right w.length w.map 0 (holes_from w place) not_too_long
          (ascend_earlier 0 place (holes_from w place) (omega arith) (ascending w.length w.map most_holes place))
          (all_are_holes w.length w.map most_holes place);
    }

    -- A written request is read as what was written: its addresses, its number and the count that was returned ..
    pub written_fill_is_read : read_request (sent w place target x) ≡ accepted
        (record { head = w.head; asks = Holes; number = w.number; count = x.count })
    written_fill_is_read =
        ap read_request sent_is
        ∙ made_request_is_read w.head Holes w.number (holes_from w place) fill_is_makeable
        ∙ ap (λ (y : Written). accepted (record { head = w.head; asks = Holes; number = w.number; count = y.count })) (sym tells)

    -- .. and the holes of the reception, from the place on.
    pub written_holes_are_read : holes_of (sent w place target x) ≡ holes_from w place
    written_holes_are_read = ap holes_of sent_is ∙ made_holes_are_read w.head Holes w.number (holes_from w place) fill_is_makeable

-- A written request for the start is read as such.
pub written_start_is_read : (head : Head) (number : ℕ) (target left : List ℕ) → starting head number target ≡ accepted left → number < 256 ^ 4
    → read_request (take (frame_length 0) left) ≡ accepted (record { head = head; asks = Start; number = number; count = 0 })
unfolding starting holes_right
written_start_is_read head number target left e small =
    let all = accepted_only_if (start_checks head target) (put_in target 0 (request_frame head Start number [])) left e in
    let both = not-false _ all.0.0 in
    let stands : take (frame_length 0) left ≡ request_frame head Start number [] =
    ap (take (frame_length 0)) all.1
    ∙ frame_stands target (request_frame head Start number []) (frame_length 0) (frame_long head Start number [])
    (ltb-false (length target) (frame_length 0) all.0.1.0) in
    ap read_request stands
    ∙ made_request_is_read head Start number []
    (record {
      destination = and_left (is_writable head.destination) (is_writable head.source) both;
      source = and_right (is_writable head.destination) (is_writable head.source) both;
      number_fits = small;
      as_many = refl;
      right = refl;
    })
