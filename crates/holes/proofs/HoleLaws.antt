-- The theorems of listing holes: what is listed are the holes, each once, in ascending order, and reason 15 when none is left.
-- Assumes nothing.
use mathlib.Core.Path.{◌≡◌, refl, sym, ap, ap₂, ◌∙◌}
use mathlib.Core.Bool.{Bool, true, false, not, true≢false}
use mathlib.Core.Logic.{inl, inr, ⊎_elim}
use mathlib.Core.List.{List, [], ◌∷◌}
use Prim.Native.Nat.{ℕ, zero, suc, ◌+◌, ◌-◌, ◌≤◌, ◌<◌}
use native.Mathlib.Omega.{arith}
use lib.ListN.{length}
use borrow.Author.Tests.{leb-true, leb-false, not-true, not-false}
use Rattle.reason.specs.Answer.{Answer, accepted, refused}
use Rattle.reason.specs.Order.{check, First}
use Rattle.reason.proofs.Bools.{and_left, and_right, and_both, le_or_lt}
use Rattle.reason.proofs.OrderLaws.{accepted_only_if, refused_only_if, not_both}
use Rattle.octets.specs.Lists.{OneOf, Each}
use Rattle.positions.specs.Map.{held, map_size}
use Rattle.positions.proofs.SpanLaws.{first_from, first_by, passed_over, found, first_is, no_between}
use Rattle.holes.specs.declared.Hole.{Hole}
use Rattle.reception.specs.Reception.{wrong_length}
use Rattle.holes.specs.Holes.{held_before, starts_hole, hole_start, hole_end, hole_from, IsHole}
use Rattle.holes.specs.Listing.{listing_checks, listing}
use Rattle.holes.specs.EveryHole.{end_of, go_on, listed_from, last_end, Ascending, AllHoles, InHole}
use Rattle.holes.proofs.HoleSteps.{start_is_unheld}
use Rattle.holes.proofs.GivenReasons.{lists, lists_15}

-- ---- lists that go on
-- a property of the list, by the two answers
by_answer : (P : List Hole → Type 0) (x : Answer Hole) (more : Hole → List Hole) → ((hole : Hole) → x ≡ accepted hole → P (hole ∷ more hole))
    → ((n : ℕ) → x ≡ refused n → P []) → P (go_on x more)
by_answer P (accepted hole) more go end = go hole refl
by_answer P (refused n) more go end = end n refl

go_on_same : (x : Answer Hole) (f g : Hole → List Hole) → ((hole : Hole) → x ≡ accepted hole → f hole ≡ g hole) → go_on x f ≡ go_on x g
go_on_same (accepted hole) f g same = ap (λ (holes : List Hole). hole ∷ holes) (same hole refl)
go_on_same (refused n) f g same = refl

-- each of a list that ascends from a place starts there or later
later : (place : ℕ) (hole : Hole) (holes : List Hole) → Ascending place holes → OneOf hole holes → place ≤ hole.start
later place hole [] up one = absurd one
later place hole (h ∷ holes) up one =
    ⊎_elim
    (λ e. rw e up.0)
    (λ w. let k = later (suc (end_of h)) hole holes up.1 w in omega (arith, up.0))
    one

-- A hole of a list that ascends does not come again behind itself.
pub comes_once : (place : ℕ) (hole : Hole) (holes : List Hole) → Ascending place (hole ∷ holes) → OneOf hole holes → ⊥
comes_once place hole holes up one = let k = later (suc (end_of hole)) hole holes up.1 one in omega arith

-- reason 15 is the last of the three
third : (a b c : Bool) → First 15 (check a 7 ∷ check b 12 ∷ check c 15 ∷ []) → c ≡ true
third a b c (inl w) = absurd (omega (arith, w.1))
third a b c (inr (_, inl w)) = absurd (omega (arith, w.1))
third a b c (inr (_, inr (_, inl w))) = w.0
third a b c (inr (_, inr (_, inr w))) = absurd w.1

module _ (l : ℕ) (map : List ℕ) where
  -- ---- a hole, and where one starts
  -- where a hole starts, it ends at the first held position or at l
  hole_at : (start : ℕ) → start < l → starts_hole map start ≡ true → IsHole l map (record { start = start; length = hole_end l map start - start })
  hole_at start low starts =
      let end = hole_end l map start in
      let from = first_from (held map) start (l - start) in
      let by = first_by (held map) start (l - start) in
      let whole : start + (end - start) ≡ end = omega arith in
      let free : held map start ≡ false = not-true (held map start) (and_left (not (held map start)) (held_before map start) starts) in
      record {
        some = ⊎_elim
            (λ g. let e : end ≡ start = omega arith in
            absurd (true≢false (sym (found (held map) start (l - start) (omega arith)) ∙ ap (held map) e ∙ free)))
            (λ g. omega arith)
            (le_or_lt end start);
        below = omega arith;
        unheld = λ p h k. passed_over (held map) start (l - start) p h (omega arith);
        no_longer_before = λ p is. ap (held_before map) is ∙ and_right (not (held map start)) (held_before map start) starts;
        no_longer_behind = λ k. ap (held map) whole ∙ found (held map) start (l - start) (omega arith);
      }

  before_by : (start : ℕ) → ((p : ℕ) → suc p ≡ start → held map p ≡ true) → held_before map start ≡ true
  before_by zero h = refl
  before_by (suc p) h = h p refl

  starts_hole_lem : (hole : Hole) → IsHole l map hole → starts_hole map hole.start ≡ true
  starts_hole_lem hole is =
      and_both (not (held map hole.start)) (held_before map hole.start)
      (ap not (is.unheld hole.start (omega arith) (omega (arith, is.some))))
      (before_by hole.start is.no_longer_before)

  start_below : (hole : Hole) → IsHole l map hole → hole.start < l
  start_below hole is = omega (arith, is.some, is.below)

  ends_hole : (hole : Hole) → IsHole l map hole → hole_end l map hole.start ≡ end_of hole
  ends_hole hole is =
      let low = is.below in
      first_is (held map) hole.start (l - hole.start) (end_of hole) (omega arith) (omega arith) is.unheld (λ k. is.no_longer_behind (omega arith))

  -- a hole starts no earlier than the search finds one
  found_first : (place : ℕ) (hole : Hole) → IsHole l map hole → place ≤ hole.start → hole_start l map place ≤ hole.start
  found_first place hole is from =
      ⊎_elim (λ g. g)
      (λ g. absurd (true≢false (sym (starts_hole_lem hole is) ∙ passed_over (starts_hole map) place (l - place) hole.start from g)))
      (le_or_lt (hole_start l map place) hole.start)

  found_hole : (place : ℕ) → hole_start l map place < l → IsHole l map (hole_from l map place)
  found_hole place low =
      let from = first_from (starts_hole map) place (l - place) in
      hole_at (hole_start l map place) low (found (starts_hole map) place (l - place) (omega arith))

  -- Two holes that start at the same position are the same hole.
  pub hole_fixed : (a b : Hole) → IsHole l map a → IsHole l map b → a.start ≡ b.start → a ≡ b
  hole_fixed a b is_a is_b same =
      let e : end_of a ≡ end_of b = sym (ends_hole a is_a) ∙ ap (hole_end l map) same ∙ ends_hole b is_b in
      let k : a.length ≡ b.length = omega arith in
      ap₂ (λ (start length : ℕ). record { start = start; length = length }) same k

  -- Of two holes, the one that starts later starts behind the other's end.
  pub hole_behind : (a b : Hole) → IsHole l map a → IsHole l map b → a.start < b.start → end_of a < b.start
  hole_behind a b is_a is_b less =
      ⊎_elim
      (λ g. absurd (true≢false
      (sym (is_b.no_longer_before (b.start - 1) (omega arith)) ∙ is_a.unheld (b.start - 1) (omega arith) (omega arith))))
      (λ g. g)
      (le_or_lt b.start (end_of a))

  begins : (p : ℕ) → p < l → starts_hole map p ≡ true → InHole l map p
  begins p low starts = let is = hole_at p low starts in (_, (is, (omega arith, omega (arith, is.some))))

  goes_on : (p : ℕ) → suc p < l → held map (suc p) ≡ false → InHole l map p → InHole l map (suc p)
  goes_on p low free (hole, (is, (from, to))) =
      ⊎_elim
      (λ g. let e : end_of hole ≡ suc p = omega arith in absurd (true≢false (sym (is.no_longer_behind (omega arith)) ∙ ap (held map) e ∙ free)))
      (λ g. (hole, (is, (omega arith, g))))
      (le_or_lt (end_of hole) (suc p))

  -- Every unheld position below l stands in a hole.
  pub in_a_hole : (p : ℕ) → p < l → held map p ≡ false → InHole l map p
  in_a_hole zero low free = begins zero low (rw free)
  in_a_hole (suc p) low free = by (held map p) refl (λ f. in_a_hole p (omega arith) f)
    where
      by : (b : Bool) → held map p ≡ b → (held map p ≡ false → InHole l map p) → InHole l map (suc p)
      by true e before = begins (suc p) low (rw (free, e))
      by false e before = goes_on p low free (before e)

  -- ---- one question
  module _ (place : ℕ) where
    answered_by : (hole : Hole) → listing l map place ≡ accepted hole → (hole_start l map place < l) × (hole ≡ hole_from l map place)
    unfolding listing
    answered_by hole e =
        let all = accepted_only_if (listing_checks l map place) (hole_from l map place) hole e in
        (leb-false l (hole_start l map place) all.0.1.1.0, all.1)

    -- What is listed is a hole.
    pub hole_is : (hole : Hole) → listing l map place ≡ accepted hole → IsHole l map hole
    hole_is hole e = let given = answered_by hole e in rw given.1 (found_hole place given.0)

    -- It starts at the place or later, and no other that does starts before it.
    pub hole_first : (hole : Hole) → listing l map place ≡ accepted hole
        → (place ≤ hole.start) × ((other : Hole) → IsHole l map other → place ≤ other.start → hole.start ≤ other.start)
    hole_first hole e = rw (answered_by hole e).1 (first_from (starts_hole map) place (l - place), λ other is from. found_first place other is from)

  -- reason 15 says that the search found none below l
  told_15 : (place : ℕ) → listing l map place ≡ refused 15 → l ≤ hole_start l map place
  unfolding listing
  told_15 place e = leb-true l (hole_start l map place) (third _ _ _ (refused_only_if 15 (listing_checks l map place) (hole_from l map place) e))

  -- Where the answer is reason 15, no hole starts at the place or later.
  pub none_only_if : (place : ℕ) → listing l map place ≡ refused 15 → (hole : Hole) → IsHole l map hole → place ≤ hole.start → ⊥
  none_only_if place e hole is from =
      no_between l hole.start (omega (arith, told_15 place e, found_first place hole is from)) (start_below hole is)

  -- ---- one question after the other
  -- What is listed are holes.
  pub all_are_holes : (n place : ℕ) → Each (IsHole l map) (listed_from n l map place)
  all_are_holes zero place = tt
  all_are_holes (suc n) place =
      by_answer (Each (IsHole l map)) (listing l map place) (λ hole. listed_from n l map (end_of hole))
      (λ hole e. (hole_is place hole e, all_are_holes n (end_of hole)))
      (λ k e. tt)

  -- the hole listed from the end of one starts behind that end
  next_behind : (hole next : Hole) → IsHole l map hole → listing l map (end_of hole) ≡ accepted next → suc (end_of hole) ≤ next.start
  next_behind hole next is e =
      hole_behind hole next is (hole_is (end_of hole) next e) (omega (arith, is.some, (hole_first (end_of hole) next e).0))

  ascending_from : (n place low : ℕ) → ((hole : Hole) → listing l map place ≡ accepted hole → low ≤ hole.start)
      → Ascending low (listed_from n l map place)
  ascending_from zero place low from = tt
  ascending_from (suc n) place low from =
      by_answer (Ascending low) (listing l map place) (λ hole. listed_from n l map (end_of hole))
      (λ hole e. (from hole e, ascending_from n (end_of hole) (suc (end_of hole)) (λ next f. next_behind hole next (hole_is place hole e) f)))
      (λ k e. tt)

  -- They ascend from the place on, with at least one position between neighbours.
  pub ascending : (n place : ℕ) → Ascending place (listed_from n l map place)
  ascending n place = ascending_from n place place (λ hole e. (hole_first place hole e).0)

  module _ (right : wrong_length l ≡ false) (room : map_size l ≤ length map) where
    -- Where no hole starts at the place or later, the answer is reason 15.
    pub none_if : (place : ℕ) → ((hole : Hole) → IsHole l map hole → place ≤ hole.start → ⊥) → listing l map place ≡ refused 15
    none_if place none =
        lists_15 l map place right room
        (⊎_elim (λ g. g)
        (λ g. absurd (none (hole_from l map place) (found_hole place g) (first_from (starts_hole map) place (l - place))))
        (le_or_lt l (hole_start l map place)))

    -- from l on there is none
    none_beyond : (place : ℕ) → l ≤ place → listing l map place ≡ refused 15
    none_beyond place h = lists_15 l map place right room (omega (arith, first_from (starts_hole map) place (l - place)))

    -- where a hole starts at the place or later, the answer is a hole
    some_listed : (place : ℕ) (hole : Hole) → IsHole l map hole → place ≤ hole.start → listing l map place ≡ accepted (hole_from l map place)
    some_listed place hole is from = lists l map place right room (omega (arith, found_first place hole is from, start_below hole is))

    -- Every hole that starts at the place or later is listed, where as many questions are asked as positions stand from there to l.
    pub every_hole : (n place : ℕ) → l ≤ n + place → (hole : Hole) → IsHole l map hole → place ≤ hole.start → OneOf hole (listed_from n l map place)
    every_hole zero place all hole is from = no_between l hole.start (omega arith) (start_below hole is)
    every_hole (suc n) place all hole is from =
        by_answer (OneOf hole) (listing l map place) (λ h. listed_from n l map (end_of h))
        (λ h e.
        let is_h = hole_is place h e in
        let least = hole_first place h e in
        ⊎_elim
        (λ (g : hole.start ≤ h.start). inl (hole_fixed hole h is is_h (omega (arith, least.1 hole is from))))
        (λ (g : h.start < hole.start). inr (every_hole n (end_of h) (omega (arith, least.0, is_h.some)) hole is (omega (arith, hole_behind h hole is_h is g))))
        (le_or_lt hole.start h.start))
        (λ k e. not_both (hole_from l map place) k (some_listed place hole is from) e)

    -- The question after the last of them is answered by reason 15.
    pub ends_with_15 : (n place : ℕ) → l ≤ n + place → listing l map (last_end place (listed_from n l map place)) ≡ refused 15
    ends_with_15 zero place all = none_beyond place (omega arith)
    ends_with_15 (suc n) place all =
        by_answer (λ holes. listing l map (last_end place holes) ≡ refused 15) (listing l map place) (λ hole. listed_from n l map (end_of hole))
        (λ hole e. ends_with_15 n (end_of hole) (omega (arith, (hole_first place hole e).0, (hole_is place hole e).some)))
        (λ k e. none_if place (λ hole is from. not_both (hole_from l map place) k (some_listed place hole is from) e))

    -- One question more lists nothing more.
    pub no_more : (n place : ℕ) → l ≤ n + place → listed_from (suc n) l map place ≡ listed_from n l map place
    no_more zero place all = ap (λ (x : Answer Hole). go_on x (λ hole. [])) (none_beyond place (omega arith))
    no_more (suc n) place all =
        go_on_same (listing l map place) (λ hole. listed_from (suc n) l map (end_of hole)) (λ hole. listed_from n l map (end_of hole))
        (λ hole e. no_more n (end_of hole) (omega (arith, (hole_first place hole e).0, (hole_is place hole e).some)))

    -- Asked from 0 and then each time from the end of the last hole, until reason 15: every hole once, ascending. As many questions as
    -- there are positions are enough ..
    pub all_holes_by : (n : ℕ) → l ≤ n → AllHoles l map (listed_from n l map 0)
    all_holes_by n enough = record {
      are_holes = all_are_holes n 0;
      ascend = ascending n 0;
      every_one = λ hole is. every_hole n 0 (omega arith) hole is (omega arith);
      then_15 = ends_with_15 n 0 (omega arith);
    }

    -- .. and with so many:
    pub all_holes : AllHoles l map (listed_from l l map 0)
    all_holes = all_holes_by l (omega arith)

    -- Where every position is held, the answer from 0 is reason 15.
    pub none_left_if : ((p : ℕ) → p < l → held map p ≡ true) → listing l map 0 ≡ refused 15
    none_left_if all =
        none_if 0
        (λ hole is from. true≢false (sym (all hole.start (start_below hole is)) ∙ is.unheld hole.start (omega arith) (omega (arith, is.some))))

  -- Where the answer from 0 is reason 15, every position is held.
  pub none_left_only_if : listing l map 0 ≡ refused 15 → (p : ℕ) → p < l → held map p ≡ true
  none_left_only_if e p low =
      not-false (held map p)
      (passed_over (λ q. not (held map q)) 0 (l - 0) p (omega arith) (omega (arith, told_15 0 e, start_is_unheld map 0 (l - 0) (λ _. refl))))
