-- Laws of the cursor's step and of the items: what a step says that finds something, and the items from a place on as one
-- step and the items from the next place on.
-- Assumes nothing.
use mathlib.Core.Path.{◌≡◌, refl, sym, ap, ◌∙◌}
use mathlib.Core.Bool.{Bool, true, false, not, cond, false≢true}
use mathlib.Core.List.{List}
use mathlib.Core.Logic.{◌⊎◌, inl, inr, ⊎_elim}
use Prim.Native.Nat.{ℕ, zero, suc, ◌+◌, ◌≤◌, ◌<◌}
use native.Mathlib.Omega.{arith}
use lib.Dec.{ltb, eqb}
use lib.ListN.{length}
use borrow.Author.Tests.{lt-ltb, ltb-false, eqb-true, not-false}
use Rattle.octets.specs.Numbers.{byte_at, number_at}
use Rattle.header.specs.declared.Size as sizes
use Rattle.header.specs.declared.Size.TheVariants.{Exactly}
use Rattle.header.specs.declared.Item.{Item}
use Rattle.header.specs.declared.Cursor.{Cursor}
use Rattle.header.specs.declared.Step.{Step}
use Rattle.header.specs.declared.Step.TheVariants.{Found, Ended, Broken}
use Rattle.header.specs.Items.{mandatory_items, known_items, decision_of, allows_size, step_with, step_at, Items, item, after, steps, items_from, items, count_of, last_of, start_of, size_of, comes_to_end, behind_end}

-- what a step says that finds an item: it stands at the cursor, and the next cursor is behind it, within the list
pub record Next (s : List ℕ) (at : ℕ) (i : Item) (c : Cursor) : Type 0 where
  pub means : i.meaning ≡ (decision_of i.id).meaning
  pub starts : i.start ≡ at + 3
  pub next : c.at ≡ at + 3 + i.size
  pub within : c.at ≤ length s
  pub allowed : allows_size (decision_of i.id).size i.size ≡ true

-- the tests that a step went by, by what it found
found_by : (a b d e : Bool) (l : Cursor) (i j : Item) (c k : Cursor)
    → cond a Broken (cond b Broken (cond d (Ended l) (cond e Broken (Found j k)))) ≡ Found i c → (e ≡ false) × (j ≡ i) × (k ≡ c) × (b ≡ false)
found_by false false false false l i j c k h = (refl, (cc), (cc), refl)
found_by false false false true l i j c k h = cc
found_by false false true e l i j c k h = cc
found_by false true d e l i j c k h = cc
found_by true b d e l i j c k h = cc

ended_by : (a b d e : Bool) (l c k : Cursor) (j : Item)
    → cond a Broken (cond b Broken (cond d (Ended l) (cond e Broken (Found j k)))) ≡ Ended c → (a ≡ false) × (l ≡ c)
ended_by false false true e l c k j h = (refl, (cc))
ended_by false false false false l c k j h = cc
ended_by false false false true l c k j h = cc
ended_by false true d e l c k j h = cc
ended_by true b d e l c k j h = cc

module _ (s : List ℕ) (at : ℕ) where
  abbrev Id : ℕ
  Id = number_at 2 s at

  abbrev Count : ℕ
  Count = byte_at s (at + 2)

  abbrev Here : Item
  Here = record { id = Id; meaning = (decision_of Id).meaning; start = at + 3; size = Count }

  abbrev Behind : Cursor
  Behind = record { at = at + 3 + Count }

  pub found : (i : Item) (c : Cursor) → step_at s at ≡ Found i c → Next s at i c
  unfolding step_at step_with
  found i c h =
      let r = found_by (ltb (length s) (at + 3)) (not (allows_size (decision_of Id).size Count)) (eqb Id 0) (ltb (length s) (at + 3 + Count)) (record { at = at + 3 }) i Here c Behind h in
      let start : at + 3 ≡ i.start = ap (λ (j : Item). j.start) r.1 in
      let size : Count ≡ i.size = ap (λ (j : Item). j.size) r.1 in
      let next : at + 3 + Count ≡ c.at = ap (λ (d : Cursor). d.at) r.2 in
      let room : at + 3 + Count ≤ length s = ltb-false (length s) (at + 3 + Count) r.0 in
      record {
        means = sym (ap (λ (j : Item). j.meaning) r.1) ∙ ap (λ (j : Item). (decision_of j.id).meaning) r.1;
        starts = omega arith;
        next = omega arith;
        within = omega arith;
        allowed = ap (λ (j : Item). allows_size (decision_of j.id).size j.size) (sym r.1) ∙ not-false _ r.3;
      }

  pub ends : (c : Cursor) → step_at s at ≡ Ended c → (c.at ≡ at + 3) × (at + 3 ≤ length s)
  unfolding step_at step_with
  ends c h =
      let r = ended_by (ltb (length s) (at + 3)) (not (allows_size (decision_of Id).size Count)) (eqb Id 0) (ltb (length s) (at + 3 + Count)) (record { at = at + 3 }) c Behind Here h in
      (sym (ap (λ (d : Cursor). d.at) r.1), ltb-false (length s) (at + 3) r.0)

  -- where no three bytes are left nothing is found
  pub past : length s < at + 3 → step_at s at ≡ Broken
  unfolding step_at step_with
  past h = simp (lt-ltb (length s) (at + 3) h)

-- more steps than the list has bytes change nothing
more_after : (k : ℕ) (s : List ℕ) (at : ℕ) → length s ≤ at + suc k → ((b : ℕ) → length s ≤ b + k → steps k s b ≡ steps (suc k) s b)
    → (t : Step) → step_at s at ≡ t → after t (steps k s) ≡ after t (steps (suc k) s)
more_after k s at h ih (Found i c) e =
    let r = found s at i c e in
    ap (item i) (ih c.at (omega arith))
more_after k s at h ih (Ended c) e = refl
more_after k s at h ih Broken e = refl

more : (k : ℕ) (s : List ℕ) (at : ℕ) → length s ≤ at + k → steps k s at ≡ steps (suc k) s at
more zero s at h = rw (past s at (omega arith))
more (suc k) s at h = more_after k s at h (more k s) (step_at s at) refl

-- the items from a place on are a step and, where it finds an item, the items from the next place on; r is what the step
-- answered, and t what a match told of it
pub items_by : (s : List ℕ) (at : ℕ) {r t : Step} → r ≡ t → r ≡ step_at s at → items_from s at ≡ after t (items_from s)
unfolding items_from
items_by s at {r} {t} told e = more (length s) s at (omega arith) ∙ ap (λ (u : Step). after u (steps (length s) s)) (sym e ∙ told)

pub found_by_told : (s : List ℕ) (at : ℕ) {r : Step} {i : Item} {c : Cursor} → r ≡ Found i c → r ≡ step_at s at → Next s at i c
found_by_told s at {r} {i} {c} told e = found s at i c (sym e ∙ told)

pub ended_by_told : (s : List ℕ) (at : ℕ) {r : Step} {c : Cursor} → r ≡ Ended c → r ≡ step_at s at → (c.at ≡ at + 3) × (at + 3 ≤ length s)
ended_by_told s at {r} {c} told e = ends s at c (sym e ∙ told)

-- the last item with an id, of all from a place on, when the step there finds an item
pub last_more : (s : List ℕ) (at : ℕ) {r : Step} {i : Item} {c : Cursor} → r ≡ Found i c → r ≡ step_at s at → (f : Item → ℕ) (d id : ℕ)
    → last_of f (cond (eqb i.id id) (f i) d) id (items_from s c.at) ≡ last_of f d id (items_from s at)
last_more s at told e f d id = ap (last_of f d id) (sym (items_by s at told e))

-- .. and when it finds none, none is left
pub last_left : (s : List ℕ) (at : ℕ) (r : Step) → ((i : Item) (c : Cursor) → r ≡ Found i c → ⊥) → r ≡ step_at s at → (f : Item → ℕ) (d id : ℕ)
    → last_of f d id (items_from s at) ≡ d
last_left s at (Found i c) left e f d id = absurd (left i c refl)
last_left s at (Ended c) left e f d id = ap (last_of f d id) (items_by s at {t = Ended c} refl e)
last_left s at Broken left e f d id = ap (last_of f d id) (items_by s at {t = Broken} refl e)

-- the data of an item end within the list, and so does the header
abbrev Start : Item → ℕ
Start i = i.start

abbrev Size : Item → ℕ
Size i = i.size

either : (b : Bool) (n x y d e : ℕ) → x + y ≤ n → d + e ≤ n → cond b x d + cond b y e ≤ n
either true n x y d e h l = h
either false n x y d e h l = l

module _ (s : List ℕ) (id : ℕ) where
  within_after : (k at d e : ℕ)
      → ((b x y : ℕ) → x + y ≤ length s → last_of Start x id (steps k s b) + last_of Size y id (steps k s b) ≤ length s)
      → (t : Step) → step_at s at ≡ t → d + e ≤ length s → last_of Start d id (after t (steps k s)) + last_of Size e id (after t (steps k s)) ≤ length s
  within_after k at d e ih (Found i c) told h =
      let x = found s at i c told in
      ih c.at _ _ (either (eqb i.id id) (length s) i.start i.size d e (omega (arith, x.starts, x.next, x.within)) h)
  within_after k at d e ih (Ended c) told h = h
  within_after k at d e ih Broken told h = h

  within_steps : (k at d e : ℕ) → d + e ≤ length s → last_of Start d id (steps k s at) + last_of Size e id (steps k s at) ≤ length s
  within_steps zero at d e h = h
  within_steps (suc k) at d e h = within_after k at d e (within_steps k) (step_at s at) refl h

  pub item_within : start_of (items s) id + size_of (items s) id ≤ length s
  unfolding items_from
  item_within = within_steps (length s) 2 0 0 (omega arith)

module _ (s : List ℕ) where
  abbrev Within : Items → Type 0
  Within is = comes_to_end is ≡ true → behind_end is ≤ length s

  end_after : (k at : ℕ) → ((b : ℕ) → Within (steps k s b)) → (t : Step) → step_at s at ≡ t → Within (after t (steps k s))
  end_after k at ih (Found i c) told h = ih c.at h
  end_after k at ih (Ended c) told h = let x = ends s at c told in omega (arith, x.0, x.1)
  end_after k at ih Broken told h = absurd (false≢true h)

  end_steps : (k at : ℕ) → Within (steps k s at)
  end_steps zero at h = absurd (false≢true h)
  end_steps (suc k) at h = end_after k at (end_steps k) (step_at s at) refl h

  pub end_within : Within (items s)
  unfolding items_from
  end_within h = end_steps (length s) 2 h

-- an item whose length is fixed has that length: d is the length of the last one before the place, or one comes behind it
module _ (s : List ℕ) (id n : ℕ) (fixed : (decision_of id).size ≡ Exactly n) where
  abbrev Fixed : ℕ → ℕ → Type 0
  Fixed k at = (d : ℕ) → (d ≡ n) ⊎ (1 ≤ count_of (steps k s at) id) → last_of Size d id (steps k s at) ≡ n

  fixed_item : (i : Item) → allows_size (decision_of i.id).size i.size ≡ true → i.id ≡ id → i.size ≡ n
  fixed_item i a e =
      eqb-true i.size n (sym (ap (λ (z : sizes.Size). allows_size z i.size) (ap (λ (x : ℕ). (decision_of x).size) e ∙ fixed)) ∙ a)

  fixed_by : (k : ℕ) (i : Item) (c : Cursor) (b : Bool) → eqb i.id id ≡ b → allows_size (decision_of i.id).size i.size ≡ true → Fixed k c.at
      → (d : ℕ) → (d ≡ n) ⊎ (1 ≤ cond b 1 0 + count_of (steps k s c.at) id) → last_of Size (cond b i.size d) id (steps k s c.at) ≡ n
  fixed_by k i c true e a ih d h = ih i.size (inl (fixed_item i a (eqb-true i.id id e)))
  fixed_by k i c false e a ih d h = ih d (⊎_elim (λ x. inl x) (λ l. inr (omega arith)) h)

  fixed_after : (k at : ℕ) → ((b : ℕ) → Fixed k b) → (t : Step) → step_at s at ≡ t
      → (d : ℕ) → (d ≡ n) ⊎ (1 ≤ count_of (after t (steps k s)) id) → last_of Size d id (after t (steps k s)) ≡ n
  fixed_after k at ih (Found i c) told d h = fixed_by k i c (eqb i.id id) refl (found s at i c told).allowed (ih c.at) d h
  fixed_after k at ih (Ended c) told d h = ⊎_elim (λ x. x) (λ l. absurd (omega arith)) h
  fixed_after k at ih Broken told d h = ⊎_elim (λ x. x) (λ l. absurd (omega arith)) h

  fixed_steps : (k at : ℕ) → Fixed k at
  fixed_steps zero at d h = ⊎_elim (λ x. x) (λ l. absurd (omega arith)) h
  fixed_steps (suc k) at d h = fixed_after k at (fixed_steps k) (step_at s at) refl d h

  pub fixed_size : 1 ≤ count_of (items s) id → size_of (items s) id ≡ n
  unfolding items_from
  fixed_size h = fixed_steps (length s) 2 0 (inr h)

-- so an item 12 has 4 bytes
pub upload_sized : (s : List ℕ) → 1 ≤ count_of (items s) 0x12 → size_of (items s) 0x12 ≡ 4
unfolding decision_of known_items mandatory_items
upload_sized s h = fixed_size s 0x12 4 refl h
