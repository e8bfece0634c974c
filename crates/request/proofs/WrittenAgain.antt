-- An accepted request is what the writers write (demand 2): a start request by its addresses and number, and a list of holes from the map
-- of a file of 32,768 bytes of which everything is held but these holes.
-- Assumes nothing.
use mathlib.Core.Path.{◌≡◌, refl, sym, ap, ap₂, ◌∙◌}
use mathlib.Core.Bool.{Bool, true, false, not, ◌&&◌, ◌||◌, true≢false}
use mathlib.Core.Logic.{◌⊎◌, inl, inr, ⊎_elim}
use mathlib.Core.List.{List, [], ◌∷◌}
use Prim.Native.Nat.{ℕ, zero, suc, ◌≤◌, ◌<◌}
use native.Mathlib.Omega.{arith}
use lib.Dec.{leb}
use lib.ListN.{length}
use borrow.Author.Tests.{leb-true, le-ltb, eqb-true, not-false}
use Rattle.reason.specs.Answer.{accepted, refused}
use Rattle.reason.proofs.Bools.{and_left, and_right, and_both, le_or_lt}
use Rattle.reason.proofs.OrderLaws.{skip, none_left}
use Rattle.octets.specs.Numbers.{AllBytes}
use Rattle.octets.specs.Runs.{put_in}
use Rattle.positions.specs.Map.{held, map_size}
use Rattle.positions.proofs.SpanLaws.{in_span, before_span, behind_span}
use Rattle.positions.proofs.MapLaws.{held_map, map_long}
use Rattle.ax25.specs.Address.{is_writable}
use Rattle.holes.specs.declared.Hole.{Hole}
use Rattle.reception.specs.Reception.{longest}
use Rattle.holes.specs.Holes.{hole_start, hole_from, IsHole}
use Rattle.holes.specs.Listing.{listing}
use Rattle.holes.specs.EveryHole.{end_of, listed_from, last_end, Ascending}
use Rattle.holes.proofs.GivenReasons.{lists_15, lists}
use Rattle.holes.proofs.HoleLaws.{hole_is, hole_first, hole_fixed, none_if, none_only_if}
use Rattle.holes.proofs.ListedLaws.{listed_none, listed_more, some_listed}
use Rattle.request.specs.declared.Asks.{Asks}
use Rattle.request.specs.declared.Asks.TheVariants.{Start, Holes}
use Rattle.request.specs.declared.Request.{Request}
use Rattle.request.specs.Request.{most_holes, holes_of_kind, frame_length, request_frame, hole_right, holes_right}
use Rattle.request.specs.Reading.{read_request, holes_of}
use Rattle.request.specs.Writing.{Wanted, holes_from, filling, fill_frame, starting}
use Rattle.request.specs.Making.{MakeableRequest}
use Rattle.request.specs.Run.{names, all_but}
use Rattle.request.proofs.WritingLaws.{fills}
use Rattle.request.proofs.Naming.{none_before}
use Rattle.request.proofs.RoundTrip.{accepted_request_is_made, accepted_request_can_be_made}

-- ---- holes that keep the rules of a request, as the holes of a map
holds_all_but : (holes : List Hole) (p : ℕ) → p < longest → held (all_but holes) p ≡ not (names holes p)
holds_all_but holes p h = held_map (λ q. not (names holes q)) (map_size longest) p (omega arith)

-- what the rule of one hole says
hole_says : (low : ℕ) (hole : Hole) → hole_right low hole ≡ true → (low ≤ hole.start) × (1 ≤ hole.length) × (end_of hole ≤ longest)
hole_says low hole e =
    let two = and_left (leb low hole.start && leb 1 hole.length) (leb (end_of hole) longest) e in (
      leb-true low hole.start (and_left (leb low hole.start) (leb 1 hole.length) two),
      leb-true 1 hole.length (and_right (leb low hole.start) (leb 1 hole.length) two),
      leb-true (end_of hole) longest (and_right (leb low hole.start && leb 1 hole.length) (leb (end_of hole) longest) e),
    )

-- right holes ascend, and before the first of them there is none
right_ascends : (low : ℕ) (holes : List Hole) → holes_right low holes ≡ true → Ascending low holes
unfolding holes_right
right_ascends low [] right = tt
right_ascends low (hole ∷ holes) right = (
  (hole_says low hole (and_left (hole_right low hole) (holes_right (suc (end_of hole)) holes) right)).0,
  right_ascends (suc (end_of hole)) holes (and_right (hole_right low hole) (holes_right (suc (end_of hole)) holes) right),
)

none_earlier : (low : ℕ) (holes : List Hole) (p : ℕ) → holes_right low holes ≡ true → p < low → names holes p ≡ false
none_earlier low holes p right h = none_before low holes p (right_ascends low holes right) h

-- a position that they name is not before the first
first_named : (low : ℕ) (hole : Hole) (holes : List Hole) (p : ℕ) → holes_right low (hole ∷ holes) ≡ true → names (hole ∷ holes) p ≡ true
    → hole.start ≤ p
unfolding holes_right
first_named low hole holes p right e =
    ⊎_elim (λ w. w)
    (λ w.
    let rest = none_earlier (suc (end_of hole)) holes p (and_right (hole_right low hole) (holes_right (suc (end_of hole)) holes) right) (omega arith) in
    absurd (true≢false (sym e ∙ ap₂ (λ (a b : Bool). a || b) (before_span hole.start hole.length p w) rest)))
    (le_or_lt hole.start p)

-- ---- they are listed, one after the other
module _ (all : List Hole) where
  abbrev M : List ℕ
  M = all_but all

  long : map_size longest ≤ length M
  long = let e = map_long (λ p. not (names all p)) (map_size longest) in omega arith

  -- what is left from a place on: from there on the map holds all but these, and where holes came before, one position stands between
  pub record Left (place low : ℕ) (holes : List Hole) : Type 0 where
    pub right : holes_right low holes ≡ true
    pub behind : (place ≡ 0) ⊎ (suc place ≡ low)
    pub same : (p : ℕ) → place ≤ p → names all p ≡ names holes p

  module _ (place low : ℕ) (hole : Hole) (holes : List Hole) (left : Left place low (hole ∷ holes)) where
    here : hole_right low hole ≡ true
    unfolding holes_right
    here = and_left (hole_right low hole) (holes_right (suc (end_of hole)) holes) left.right

    rest_right : holes_right (suc (end_of hole)) holes ≡ true
    unfolding holes_right
    rest_right = and_right (hole_right low hole) (holes_right (suc (end_of hole)) holes) left.right

    says : (low ≤ hole.start) × (1 ≤ hole.length) × (end_of hole ≤ longest)
    says = hole_says low hole here

    from_place : place ≤ hole.start
    from_place = ⊎_elim (λ e. omega arith) (λ e. omega (arith, says.0)) left.behind

    held_by : (p : ℕ) (b : Bool) → place ≤ p → p < longest → names (hole ∷ holes) p ≡ b → held M p ≡ not b
    held_by p b from low e = holds_all_but all p low ∙ ap not (left.same p from ∙ e)

    first_is_a_hole : IsHole longest M hole
    first_is_a_hole = record {
      some = says.1;
      below = says.2;
      unheld = λ p from to. held_by p true (omega (arith, from_place)) (omega (arith, says.2))
          (ap (λ (b : Bool). b || names holes p) (in_span hole.start hole.length p from to));
      no_longer_before = λ p e.
          held_by p false (⊎_elim (λ z. omega arith) (λ z. omega (arith, says.0)) left.behind) (omega (arith, says))
          (ap₂ (λ (a b : Bool). a || b) (before_span hole.start hole.length p (omega arith)) (none_earlier (suc (end_of hole)) holes p rest_right (omega arith)));
      no_longer_behind = λ h.
          held_by (end_of hole) false (omega (arith, from_place)) h
          (ap₂ (λ (a b : Bool). a || b) (behind_span hole.start hole.length (end_of hole) (omega arith)) (none_earlier (suc (end_of hole)) holes (end_of hole) rest_right (omega arith)));
    }

    -- a hole of the map from the place on starts at the first or later
    not_earlier : (other : Hole) → IsHole longest M other → place ≤ other.start → hole.start ≤ other.start
    not_earlier other is from =
        let free = is.unheld other.start (omega arith) (omega (arith, is.some)) in
        let named : names (hole ∷ holes) other.start ≡ true =
        sym (left.same other.start from) ∙ not-false _ (sym (holds_all_but all other.start (omega (arith, is.some, is.below))) ∙ free) in
        first_named low hole holes other.start left.right named

    first_is_listed : listing longest M place ≡ accepted hole
    first_is_listed =
        ⊎_elim
        (λ w. absurd (none_only_if longest M place (lists_15 longest M place refl long w) hole first_is_a_hole from_place))
        (λ w.
        let found = lists longest M place refl long w in
        let g = hole_from longest M place in
        let is = hole_is longest M place g found in
        let least = hole_first longest M place g found in
        let start : g.start ≡ hole.start = omega (arith, least.1 hole first_is_a_hole from_place, not_earlier g is least.0) in
        found ∙ ap accepted (hole_fixed longest M g hole is first_is_a_hole start))
        (le_or_lt longest (hole_start longest M place))

    next_left : Left (end_of hole) (suc (end_of hole)) holes
    next_left = record {
      right = rest_right;
      behind = inr refl;
      same = λ p from. left.same p (omega (arith, from_place))
          ∙ ap (λ (b : Bool). b || names holes p) (behind_span hole.start hole.length p from);
    }

  -- where none is left, none is listed
  nothing_left : (place low : ℕ) → Left place low [] → listing longest M place ≡ refused 15
  nothing_left place low left =
      none_if longest M refl long place
      (λ other is from.
      let free = is.unheld other.start (omega arith) (omega (arith, is.some)) in
      true≢false
      (sym (not-false _ (sym (holds_all_but all other.start (omega (arith, is.some, is.below))) ∙ free)) ∙ left.same other.start from))

  all_are_listed : (n place low : ℕ) (holes : List Hole) → length holes ≤ n → Left place low holes → listed_from n longest M place ≡ holes
  all_are_listed n place low [] h left = listed_none longest M place n 15 (nothing_left place low left)
  all_are_listed zero place low (hole ∷ holes) h left = absurd (omega arith)
  all_are_listed (suc n) place low (hole ∷ holes) h left =
      listed_more longest M place n hole (first_is_listed place low hole holes left)
      ∙ ap (λ (l : List Hole). hole ∷ l) (all_are_listed n (end_of hole) (suc (end_of hole)) holes (omega arith) (next_left place low hole holes left))

-- Right holes, up to 49, are the holes of that map.
pub right_holes_are_listed : (holes : List Hole) → holes_right 0 holes ≡ true → length holes ≤ most_holes
    → listed_from most_holes longest (all_but holes) 0 ≡ holes
right_holes_are_listed holes right few =
    all_are_listed holes most_holes 0 0 holes few (record { right = right; behind = inl refl; same = λ p from. refl })

-- ---- what the writers write
no_holes : (holes : List Hole) → holes_of_kind Start (length holes) ≡ true → holes ≡ []
no_holes [] e = refl
no_holes (hole ∷ holes) e = let z = eqb-true (length (hole ∷ holes)) 0 e in absurd (omega arith)

module _ (frame : List ℕ) (bytes : AllBytes frame) (r : Request) (read : read_request frame ≡ accepted r) where
  can : MakeableRequest r.head r.asks r.number (holes_of frame)
  can = accepted_request_can_be_made frame bytes r read

  both : (is_writable r.head.destination && is_writable r.head.source) ≡ true
  both = and_both (is_writable r.head.destination) (is_writable r.head.source) can.destination can.source

  -- An accepted request for the start is what writing its addresses and its number gives.
  pub accepted_start_is_written : (target : List ℕ) → r.asks ≡ Start → frame_length 0 ≤ length target
      → starting r.head r.number target ≡ accepted (put_in target 0 frame)
  unfolding starting
  accepted_start_is_written target e room =
      let none : holes_of frame ≡ [] = no_holes (holes_of frame) (ap (λ (a : Asks). holes_of_kind a (length (holes_of frame))) (sym e) ∙ can.as_many) in
      skip _ _ _ (ap not both)
      ∙ skip _ _ _ (le-ltb _ _ room)
      ∙ none_left _
      ∙ ap (λ (x : List ℕ). accepted (put_in target 0 x))
      (ap₂ (λ (a : Asks) (holes : List Hole). request_frame r.head a r.number holes) (sym e) (sym none) ∙ accepted_request_is_made frame bytes r read)

  -- what a station wants that misses just the holes of the frame
  abbrev Missing : Wanted
  Missing = record { head = r.head; number = r.number; length = longest; map = all_but (holes_of frame) }

  module _ (e : r.asks ≡ Holes) where
    counts : (1 ≤ length (holes_of frame)) × (length (holes_of frame) ≤ most_holes)
    counts =
        let k = ap (λ (a : Asks). holes_of_kind a (length (holes_of frame))) (sym e) ∙ can.as_many in
        let n = length (holes_of frame) in
        (leb-true 1 n (and_left (leb 1 n) (leb n most_holes) k), leb-true n most_holes (and_right (leb 1 n) (leb n most_holes) k))

    holes_are : holes_from Missing 0 ≡ holes_of frame
    holes_are = right_holes_are_listed (holes_of frame) can.right counts.1

    -- An accepted list of holes is the frame of a request that asks, from 0, for the holes of a file that misses just these ..
    pub accepted_list_is_made : fill_frame Missing 0 ≡ frame
    accepted_list_is_made =
        ap₂ (λ (a : Asks) (holes : List Hole). request_frame r.head a r.number holes) (sym e) holes_are
        ∙ accepted_request_is_made frame bytes r read

    -- .. and writing that request is accepted by any target that has room for it.
    pub accepted_list_is_written : (target : List ℕ) → frame_length (length (holes_of frame)) ≤ length target
        → filling Missing 0 target ≡ accepted (record { count = length (holes_of frame); end = last_end 0 (holes_of frame) })
    accepted_list_is_written target room =
        let some = some_listed longest (all_but (holes_of frame)) 0 most_holes (omega (arith, ap length holes_are, counts.0)) in
        fills Missing 0 target both some.0 some.1 (omega (arith, ap length holes_are, room))
        ∙ ap (λ (holes : List Hole). accepted (record { count = length holes; end = last_end 0 holes })) holes_are
