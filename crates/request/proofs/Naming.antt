-- A request names only bytes that are not held, and in a whole run of requests every byte that is not held is named by exactly one
-- (01, "Fill request"): a station that takes the map the wrong way round, and asks for what it has, is ruled out.
-- Assumes nothing.
use mathlib.Core.Path.{◌≡◌, refl, sym, ap, ap₂, ◌∙◌}
use mathlib.Core.Bool.{Bool, true, false, cond, ◌&&◌, ◌||◌, true≢false}
use mathlib.Core.Logic.{⊎_elim}
use mathlib.Core.List.{List, [], ◌∷◌, ◌++◌}
use Prim.Native.Nat.{ℕ, suc, ◌+◌, ◌^◌, ◌≤◌, ◌<◌}
use native.Mathlib.Nat.{zero-add, add-zero, add_assoc}
use native.Mathlib.Omega.{arith}
use lib.Dec.{leb, ltb}
use lib.ListN.{length}
use borrow.Author.Tests.{leb-true, ltb-true}
use Rattle.reason.specs.Answer.{accepted}
use Rattle.reason.proofs.Bools.{and_left, and_right, or_cases, or_none}
use Rattle.octets.specs.Lists.{OneOf, Each}
use Rattle.positions.specs.Spans.{within}
use Rattle.positions.specs.Map.{held, map_size}
use Rattle.positions.proofs.SpanLaws.{in_span, before_span}
use Rattle.ax25.specs.Address.{is_writable}
use Rattle.holes.specs.declared.Hole.{Hole}
use Rattle.reception.specs.Reception.{wrong_length}
use Rattle.holes.specs.Holes.{IsHole}
use Rattle.holes.specs.Listing.{listing}
use Rattle.holes.specs.EveryHole.{end_of, Ascending}
use Rattle.holes.proofs.HoleLaws.{all_are_holes, in_a_hole}
use Rattle.request.specs.declared.Written.{Written}
use Rattle.request.specs.Request.{most_holes, frame_length}
use Rattle.request.specs.Reading.{holes_of}
use Rattle.request.specs.Writing.{Wanted, holes_from, filling}
use Rattle.request.specs.Run.{sent, sent_from, together, names, naming}
use Rattle.request.proofs.SentLaws.{written_holes_are_read}
use Rattle.request.proofs.WholeRun.{each_ascends, whole_run}

-- ---- what stands in holes of a map
-- a position in holes of a map is not held, and below the length
in_holes_unheld : (l : ℕ) (map : List ℕ) (holes : List Hole) (p : ℕ) → Each (IsHole l map) holes → names holes p ≡ true
    → (p < l) × (held map p ≡ false)
in_holes_unheld l map [] p are e = absurd (true≢false (sym e))
in_holes_unheld l map (hole ∷ holes) p are e =
    ⊎_elim
    (λ h.
    let from = leb-true hole.start p (and_left (leb hole.start p) (ltb p (end_of hole)) h) in
    let to = ltb-true p (end_of hole) (and_right (leb hole.start p) (ltb p (end_of hole)) h) in
    (omega (arith, are.0.below), are.0.unheld p from to))
    (λ h. in_holes_unheld l map holes p are.1 h)
    (or_cases (within hole.start hole.length p) (names holes p) e)

-- a position of one of the holes stands in them
in_one : (hole : Hole) (holes : List Hole) (p : ℕ) → OneOf hole holes → hole.start ≤ p → p < end_of hole → names holes p ≡ true
in_one hole [] p one from to = absurd one
in_one hole (h ∷ holes) p one from to =
    ⊎_elim
    (λ e. ap (λ (x : Hole). within x.start x.length p || names holes p) (sym e) ∙ ap (λ (b : Bool). b || names holes p) (in_span hole.start hole.length p from to))
    (λ o. ap (λ (b : Bool). within h.start h.length p || b) (in_one hole holes p o from to) ∙ or_true (within h.start h.length p))
    one
  where
    or_true : (b : Bool) → (b || true) ≡ true
    or_true true = refl
    or_true false = refl

-- ---- a request names only bytes that are not held
-- Every position that a written request names, as it is read, is below the length and not held.
pub names_only_unheld : (w : Wanted) (place : ℕ) (target : List ℕ) (x : Written) → filling w place target ≡ accepted x → w.number < 256 ^ 4
    → (p : ℕ) → names (holes_of (sent w place target x)) p ≡ true → (p < w.length) × (held w.map p ≡ false)
names_only_unheld w place target x written number p e =
    in_holes_unheld w.length w.map (holes_from w place) p (all_are_holes w.length w.map most_holes place)
    (ap (λ (holes : List Hole). names holes p) (sym (written_holes_are_read w place target x written number)) ∙ e)

-- ---- how many name a position
-- how many of the holes a position stands in
times : List Hole → ℕ → ℕ
times [] p = 0
times (hole ∷ holes) p = cond (within hole.start hole.length p) 1 0 + times holes p

times_both : (a b : List Hole) (p : ℕ) → times (a ++ b) p ≡ times a p + times b p
unfolding times
times_both [] b p = sym (zero-add (times b p))
times_both (hole ∷ a) b p =
    ap (λ (n : ℕ). cond (within hole.start hole.length p) 1 0 + n) (times_both a b p)
    ∙ sym (add_assoc (cond (within hole.start hole.length p) 1 0) (times a p) (times b p))

-- before the first hole that ascends from a place, none
pub none_before : (low : ℕ) (holes : List Hole) (p : ℕ) → Ascending low holes → p < low → names holes p ≡ false
none_before low [] p up h = refl
none_before low (hole ∷ holes) p up h =
    ap₂ (λ (a b : Bool). a || b)
    (before_span hole.start hole.length p (omega (arith, up.0)))
    (none_before (suc (end_of hole)) holes p up.1 (omega (arith, up.0)))

-- no times, where none is named
not_named : (holes : List Hole) (p : ℕ) → names holes p ≡ false → times holes p ≡ 0
unfolding times
not_named [] p e = refl
not_named (hole ∷ holes) p e =
    let none = or_none (within hole.start hole.length p) (names holes p) e in
    ap₂ (λ (a : Bool) (n : ℕ). cond a 1 0 + n) none.0 (not_named holes p none.1)

-- of holes that ascend a position stands in one at most
once : (low : ℕ) (holes : List Hole) (p : ℕ) → Ascending low holes → times holes p ≡ cond (names holes p) 1 0
unfolding times
once low [] p up = refl
once low (hole ∷ holes) p up = by (within hole.start hole.length p) refl (once (suc (end_of hole)) holes p up.1)
  where
    by : (b : Bool) → within hole.start hole.length p ≡ b → times holes p ≡ cond (names holes p) 1 0
        → cond b 1 0 + times holes p ≡ cond (b || names holes p) 1 0
    by true e rest =
        let to = ltb-true p (end_of hole) (and_right (leb hole.start p) (ltb p (end_of hole)) e) in
        ap (λ (n : ℕ). 1 + n) (not_named holes p (none_before (suc (end_of hole)) holes p up.1 (omega arith))) ∙ add-zero 1
    by false e rest = zero-add (times holes p) ∙ rest

-- how many frames name it is how many of their holes it stands in
frames_times : (frames : List (List ℕ)) (p : ℕ) → Each (λ frame. Ascending 0 (holes_of frame)) frames
    → naming frames p ≡ times (together frames) p
unfolding times
frames_times [] p up = refl
frames_times (frame ∷ frames) p up =
    ap₂ (λ (a b : ℕ). a + b) (sym (once 0 (holes_of frame) p up.0)) (frames_times frames p up.1)
    ∙ sym (times_both (holes_of frame) (together frames) p)

module _ (w : Wanted) (target : List ℕ) (good : (is_writable w.head.destination && is_writable w.head.source) ≡ true)
    (number : w.number < 256 ^ 4)
    (room : (place : ℕ) (hole : Hole) → listing w.length w.map place ≡ accepted hole → frame_length (length (holes_from w place)) ≤ length target) (right : wrong_length w.length ≡ false) (long : map_size w.length ≤ length w.map) where
  -- the frames of a whole run
  abbrev Frames : List (List ℕ)
  Frames = sent_from w.length w target 0

  by_names : (p : ℕ) → naming Frames p ≡ cond (names (together Frames) p) 1 0
  by_names p =
      frames_times Frames p (each_ascends w target good number room w.length 0)
      ∙ once 0 (together Frames) p (whole_run w target good number room right long).all.ascend

  -- Every position that is not held is named by exactly one request of the run ..
  pub unheld_is_named_once : (p : ℕ) → p < w.length → held w.map p ≡ false → naming Frames p ≡ 1
  unheld_is_named_once p low free =
      let hole = in_a_hole w.length w.map p low free in
      by_names p
      ∙ ap (λ (b : Bool). cond b 1 0)
      (in_one hole.0 (together Frames) p ((whole_run w target good number room right long).all.every_one hole.0 hole.1.0) hole.1.1.0 hole.1.1.1)

  none_names : (p : ℕ) → (names (together Frames) p ≡ true → ⊥) → naming Frames p ≡ 0
  none_names p not = by_names p ∙ by (names (together Frames) p) refl
    where
      by : (b : Bool) → names (together Frames) p ≡ b → ◌≡◌ {A = ℕ} (cond b 1 0) 0
      by true e = absurd (not e)
      by false e = refl

  -- .. a position that is held by none ..
  pub held_is_never_named : (p : ℕ) → held w.map p ≡ true → naming Frames p ≡ 0
  held_is_never_named p has =
      none_names p
      (λ e. true≢false
      (sym has ∙ (in_holes_unheld w.length w.map (together Frames) p (whole_run w target good number room right long).all.are_holes e).1))

  -- .. and one beyond the file by none.
  pub beyond_is_never_named : (p : ℕ) → w.length ≤ p → naming Frames p ≡ 0
  beyond_is_never_named p high =
      none_names p
      (λ e. let k = (in_holes_unheld w.length w.map (together Frames) p (whole_run w target good number room right long).all.are_holes e).0 in omega arith)
