-- Laws of the notes: what holds after each item of the walk, and that the notes of all items say what the definitions say.
-- Assumes nothing.
use mathlib.Core.Path.{◌≡◌, refl, sym, ap, ap₂, subst, ◌∙◌}
use mathlib.Core.Bool.{Bool, true, false, cond, ◌&&◌}
use mathlib.Core.List.{List, [], ◌∷◌}
use Prim.Native.Nat.{ℕ, ◌+◌, ◌%◌, ◌≤◌}
use native.Mathlib.Omega.{arith}
use Rattle.std.proofs.lemmas.Bool.Decides.{nat_tests}
use Rattle.std.proofs.lemmas.Grind.{common_steps}
use lib.Dec.{eqb}
use lib.ListN.{length, get_or, set, take, length-set}
use borrow.Author.Tests.{eqb-true}
use Rattle.std.specs.Prelude.{sum, Some, None}
use Rattle.std.specs.List.{list_all}
use Rattle.reason.proofs.Bools.{and_right}
use Rattle.octets.specs.Runs.{put_in}
use Rattle.header.specs.declared.Meaning.{Meaning}
use Rattle.header.specs.declared.Meaning.TheVariants.{HeaderSum, UploadTime}
use Rattle.header.specs.declared.Item.{Item}
use Rattle.header.specs.declared.Cursor.{Cursor}
use Rattle.header.specs.declared.Step.{Step}
use Rattle.header.specs.declared.Step.TheVariants.{Found, Ended, Broken}
use Rattle.header.specs.declared.notes.Note.{Note}
use Rattle.header.specs.declared.notes.Notes.{Notes}
use Rattle.header.specs.Items.{mandatory_items, known_items, decision_of, step_at, Items, item, items_from, items, count_of, last_of, start_of, size_of, comes_to_end, behind_end}
use Rattle.header.specs.Header.{header_length, mandatory, once, header_sum, values_by, header_of, all_once}
use Rattle.header.specs.Notes.{place_of, places, no_note, note_of, by_id, counts, sizes, starts, Placed, Noted, Walks}
use Rattle.header.proofs.MeaningLaws.{place_below, same_place}
use Rattle.header.proofs.TableLaws.{each, every_same, each_placed, sum_listed}
use Rattle.header.proofs.ItemLaws.{Next, items_by, found_by_told, ended_by_told, last_more}

-- the notes with that of a meaning changed, and with one item more
abbrev pub with_note : List Note → Meaning → Note → List Note
with_note notes m v = set notes (place_of m) v

abbrev pub noting : List Note → Item → List Note
noting notes i = with_note notes i.meaning (record { count = (note_of notes i.meaning).count + 1; size = i.size; start = i.start })

-- a list of notes after one is changed: its length, and what stands at each place and at each id
module _ (notes : List Note) (long : length notes ≡ places) (m : Meaning) (v : Note) where
  pub note_long : length (with_note notes m v) ≡ places
  note_long = length-set notes (place_of m) v ∙ long

  set_at : (k : ℕ) → get_or (with_note notes m v) k no_note ≡ cond (eqb (place_of m) k) v (get_or notes k no_note)
  set_at k = grind (arith, nat_tests, common_steps, place_below m)

  pub note_at : (id k : ℕ) → m ≡ (decision_of id).meaning → Placed k → by_id (with_note notes m v) k ≡ cond (eqb id k) v (by_id notes k)
  note_at id k e h =
      set_at (place_of (decision_of k).meaning)
      ∙ ap (λ (x : Meaning). cond (eqb (place_of x) (place_of (decision_of k).meaning)) v (by_id notes k)) e
      ∙ ap (λ (b : Bool). cond b v (by_id notes k)) (same_place id k h)

-- what the notes say when the cursor is at a place: with the items from there on, what all items say
pub record SoFar (s : List ℕ) (at : ℕ) (notes : List Note) : Type 0 where
  pub counted : (k : ℕ) → Placed k → counts notes k + count_of (items_from s at) k ≡ count_of (items s) k
  pub sized : (k : ℕ) → Placed k → last_of (λ (i : Item). i.size) (sizes notes k) k (items_from s at) ≡ size_of (items s) k
  pub started : (k : ℕ) → Placed k → last_of (λ (i : Item). i.start) (starts notes k) k (items_from s at) ≡ start_of (items s) k
  pub few : (k : ℕ) → (get_or notes k no_note).count ≤ at
  pub within : (k : ℕ) → Placed k → starts notes k + sizes notes k ≤ at
  pub ending : comes_to_end (items_from s at) ≡ comes_to_end (items s)
  pub reaching : behind_end (items_from s at) ≡ header_length s
  pub long : length notes ≡ places

either : (g : Note → ℕ) (b : Bool) (x y : Note) → g (cond b x y) ≡ cond b (g x) (g y)
either g true x y = refl
either g false x y = refl

module _ (s : List ℕ) (at : ℕ) (notes : List Note) (sofar : SoFar s at notes) where
  -- one item more
  module _ (r : Step) (i : Item) (c : Cursor) (told : r ≡ Found i c) (stepped : r ≡ step_at s at) where
    here : items_from s at ≡ item i (items_from s c.at)
    here = items_by s at told stepped

    next : Next s at i c
    next = found_by_told s at told stepped

    abbrev More : List Note
    More = noting notes i

    at_id : (g : Note → ℕ) (k : ℕ) → Placed k
        → g (by_id More k) ≡ cond (eqb i.id k) (g (record { count = (note_of notes i.meaning).count + 1; size = i.size; start = i.start })) (g (by_id notes k))
    at_id g k h = ap g (note_at notes sofar.long i.meaning _ i.id k next.means h) ∙ either g (eqb i.id k) _ (by_id notes k)

    counted_by : (k : ℕ) (b : Bool) → eqb i.id k ≡ b → counts More k ≡ cond b ((note_of notes i.meaning).count + 1) (counts notes k)
        → counts notes k + (cond b 1 0 + count_of (items_from s c.at) k) ≡ count_of (items s) k
        → counts More k + count_of (items_from s c.at) k ≡ count_of (items s) k
    counted_by k true e new old =
        let same : (note_of notes i.meaning).count ≡ counts notes k = ap (λ (m : Meaning). (note_of notes m).count) next.means ∙ ap (counts notes) (eqb-true i.id k e) in omega arith
    counted_by k false e new old = omega arith

    few_by : (k : ℕ) (b : Bool) → (get_or More k no_note).count ≡ cond b ((note_of notes i.meaning).count + 1) (get_or notes k no_note).count → (get_or More k no_note).count ≤ c.at
    few_by k true new = omega (arith, next.next, sofar.few (place_of i.meaning))
    few_by k false new = omega (arith, next.next, sofar.few k)

    within_by : (k : ℕ) (b : Bool) → starts More k ≡ cond b i.start (starts notes k) → sizes More k ≡ cond b i.size (sizes notes k)
        → starts notes k + sizes notes k ≤ at → starts More k + sizes More k ≤ c.at
    within_by k true x y old = omega (arith, next.next, next.starts)
    within_by k false x y old = omega (arith, next.next)

    last_noted : (f : Item → ℕ) (k new old total : ℕ) → new ≡ cond (eqb i.id k) (f i) old → last_of f old k (items_from s at) ≡ total
        → last_of f new k (items_from s c.at) ≡ total
    last_noted f k new old total e all = ap (λ (d : ℕ). last_of f d k (items_from s c.at)) e ∙ last_more s at told stepped f old k ∙ all

    one_more : SoFar s c.at More
    one_more = record {
      counted = λ k h. counted_by k (eqb i.id k) refl (at_id (λ n. n.count) k h) (ap (λ (is : Items). counts notes k + count_of is k) (sym here) ∙ sofar.counted k h);
      sized = λ k h. last_noted (λ (j : Item). j.size) k _ _ _ (at_id (λ n. n.size) k h) (sofar.sized k h);
      started = λ k h. last_noted (λ (j : Item). j.start) k _ _ _ (at_id (λ n. n.start) k h) (sofar.started k h);
      few = λ k. few_by k (eqb (place_of i.meaning) k) (ap (λ (n : Note). n.count) (set_at notes sofar.long i.meaning _ k) ∙ either (λ n. n.count) (eqb (place_of i.meaning) k) _ _);
      within = λ k h. within_by k (eqb i.id k) (at_id (λ n. n.start) k h) (at_id (λ n. n.size) k h) (sofar.within k h);
      ending = sym (ap comes_to_end here) ∙ sofar.ending;
      reaching = sym (ap behind_end here) ∙ sofar.reaching;
      long = note_long notes sofar.long i.meaning _;
    }

    -- the same for the place that the code works out
    pub one_more_at : (place : ℕ) → place ≡ place_of i.meaning
        → SoFar s c.at (set notes place (record { count = (get_or notes place no_note).count + 1; size = i.size; start = i.start }))
    one_more_at place e = rw e one_more

  -- at the end item no item is left, so the notes say it all
  noted_all : (r : Step) (c : Cursor) → r ≡ Ended c → r ≡ step_at s at → Noted s (record { notes = notes; end = c.at })
  noted_all r c told stepped =
      let here = items_by s at told stepped in
      let place = ended_by_told s at told stepped in
      record {
        ends = sym sofar.ending ∙ ap comes_to_end here;
        reaches = sym (ap behind_end here) ∙ sofar.reaching;
        counted = λ k h. omega (arith, ap (λ (is : Items). count_of is k) here, sofar.counted k h);
        sized = λ k h. ap (last_of (λ (i : Item). i.size) (sizes notes k) k) (sym here) ∙ sofar.sized k h;
        started = λ k h. ap (last_of (λ (i : Item). i.start) (starts notes k) k) (sym here) ∙ sofar.started k h;
        within = λ k h. omega (arith, place.0, sofar.within k h);
        inside = omega (arith, place.0, place.1);
      }

  -- what the walk answers there, and where the items break off
  pub at_end : (r : Step) (c : Cursor) → r ≡ Ended c → r ≡ step_at s at → Walks (Some (record { notes = notes; end = c.at })) s
  at_end r c told stepped = record {
    ended = λ n e. let is : ◌≡◌ {A = Notes} (record { notes = notes; end = c.at }) n = cc in subst (Noted s) is (noted_all r c told stepped);
    broken = λ e. cc;
  }

  pub at_break : (r : Step) → r ≡ Broken → r ≡ step_at s at → Walks None s
  at_break r told stepped = record { ended = λ n e. cc; broken = λ e. sym sofar.ending ∙ ap comes_to_end (items_by s at told stepped) }

-- the notes of all items say what the definitions say
module _ (s : List ℕ) (n : Notes) (noted : Noted s n) where
  pub once_by_notes : list_all (once (counts n.notes) (sizes n.notes)) mandatory ≡ all_once s
  once_by_notes =
      every_same (once (counts n.notes) (sizes n.notes)) (once (count_of (items s)) (size_of (items s))) mandatory
      (λ p m. ap₂ (λ (x y : ℕ). eqb x 1 && eqb y p.size) (noted.counted p.id (each_placed p m)) (noted.sized p.id (each_placed p m)))

  pub values_by_notes : values_by (counts n.notes) (starts n.notes) n.end s ≡ header_of s
  unfolding header_of decision_of known_items mandatory_items
  values_by_notes =
      rw (
        noted.reaches,
        noted.counted 0x12 (omega arith),
        noted.started 0x01 (omega arith),
        noted.started 0x02 (omega arith),
        noted.started 0x03 (omega arith),
        noted.started 0x04 (omega arith),
        noted.started 0x05 (omega arith),
        noted.started 0x06 (omega arith),
        noted.started 0x07 (omega arith),
        noted.started 0x08 (omega arith),
        noted.started 0x09 (omega arith),
        noted.started 0x0A (omega arith),
        noted.started 0x0B (omega arith),
        noted.started 0x12 (omega arith),
      )

  pub uploads_by_notes : (note_of n.notes UploadTime).count ≡ count_of (items s) 0x12
  unfolding decision_of known_items mandatory_items
  uploads_by_notes = noted.counted 0x12 (omega arith)

  pub sum_by_notes : (at : ℕ) → at ≡ (note_of n.notes HeaderSum).start → sum (put_in (take n.end s) at (0 ∷ 0 ∷ [])) % 65536 ≡ header_sum s
  unfolding header_sum decision_of known_items mandatory_items
  sum_by_notes at is = ap₂ (λ (e a : ℕ). sum (put_in (take e s) a (0 ∷ 0 ∷ [])) % 65536) noted.reaches (is ∙ noted.started 0x0A (omega arith))

  -- item 0A, which has two bytes, is in the header
  pub sum_in_header : list_all (once (counts n.notes) (sizes n.notes)) mandatory ≡ true → (note_of n.notes HeaderSum).start + 2 ≤ n.end
  unfolding decision_of known_items mandatory_items
  sum_in_header e =
      let two : (note_of n.notes HeaderSum).size ≡ 2 = eqb-true _ _ (and_right (eqb (note_of n.notes HeaderSum).count 1) _ (each (once (counts n.notes) (sizes n.notes)) mandatory e (record { id = 0x0A; size = 2 }) sum_listed)) in
      omega (arith, noted.within 0x0A (omega arith))
