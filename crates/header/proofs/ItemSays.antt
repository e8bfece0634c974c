-- What an accepted header tells for each of its items: the value of the item's meaning is what the item's data say.
-- Assumes nothing.
use mathlib.Core.Path.{◌≡◌, refl, sym, ap, ap₂, ◌∙◌, subst}
use mathlib.Core.Bool.{Bool, true, false, cond}
use mathlib.Core.List.{List, [], ◌∷◌}
use mathlib.Core.Logic.{⊎_elim}
use Prim.Native.Nat.{ℕ, zero, suc, ◌+◌, ◌≤◌, ◌<◌}
use native.Mathlib.Omega.{arith}
use lib.Dec.{eqb}
use lib.ListN.{length, get_or, take, drop}
use borrow.Author.Tests.{eqb-true, eq-eqb, ne_eqb}
use Rattle.std.specs.Prelude.{Some, None}
use Rattle.reason.specs.Answer.{accepted}
use Rattle.octets.specs.Lists.{OneOf}
use Rattle.octets.specs.Numbers.{number_at}
use Rattle.header.specs.declared.Meaning.{Meaning}
use Rattle.header.specs.declared.Meaning.TheVariants.{UploadTime, Other}
use Rattle.header.specs.declared.Size.TheVariants.{Exactly}
use Rattle.header.specs.declared.Item.{Item}
use Rattle.header.specs.declared.Step.{Step}
use Rattle.header.specs.declared.Step.TheVariants.{Found, Ended, Broken}
use Rattle.header.specs.declared.Pair.{Pair}
use Rattle.header.specs.declared.Header.{Header}
use Rattle.header.specs.Items.{Known, known, mandatory_items, known_items, look_up, decision_of, step_at, Items, item, ended, broken, after, steps, items_from, items, count_of, last_of}
use Rattle.header.specs.Header.{mandatory, read_header}
use Rattle.header.specs.Data.{data_of}
use Rattle.header.specs.Says.{HeaderSays}
use Rattle.header.specs.Told.{Among, Tells}
use Rattle.header.proofs.ItemLaws.{found}
use Rattle.header.proofs.TableLaws.{in_list, eleven}
use Rattle.header.proofs.Says.{header_says}

-- ---- an item whose id is there once is the last one with its id
none_by : (f : Item → ℕ) (id : ℕ) (i : Item) (rest : Items) (d : ℕ) → (count_of rest id ≡ 0 → last_of f d id rest ≡ d)
    → (b : Bool) → cond b 1 0 + count_of rest id ≡ 0 → last_of f (cond b (f i) d) id rest ≡ d
none_by f id i rest d ih true h = absurd (omega arith)
none_by f id i rest d ih false h = ih (omega arith)

none_last : (f : Item → ℕ) (id : ℕ) (is : Items) (d : ℕ) → count_of is id ≡ 0 → last_of f d id is ≡ d
none_last f id (item i rest) d h = none_by f id i rest d (none_last f id rest d) (eqb i.id id) h
none_last f id (ended e) d h = refl
none_last f id broken d h = refl

same_id : (i j : Item) → i ≡ j → eqb i.id j.id ≡ true
same_id i j e = eq-eqb i.id j.id (ap (λ (x : Item). x.id) e)

counts_one : (i j : Item) → i ≡ j → ◌≡◌ {A = ℕ} (cond (eqb i.id j.id) 1 0) 1
counts_one i j e = ap (λ (b : Bool). cond b 1 0) (same_id i j e)

pub among_counts : (j : Item) (is : Items) → Among j is → 1 ≤ count_of is j.id
among_counts j (item i rest) m =
    ⊎_elim
    (λ e. let z = counts_one i j e in omega (arith, z))
    (λ t. let z = among_counts j rest t in omega (arith, z))
    m
among_counts j (ended e) m = absurd m
among_counts j broken m = absurd m

module _ (f : Item → ℕ) (j i : Item) (rest : Items) (d : ℕ) where
  first_by : i ≡ j → cond (eqb i.id j.id) 1 0 + count_of rest j.id ≤ 1 → last_of f (cond (eqb i.id j.id) (f i) d) j.id rest ≡ f j
  first_by e h =
      let t = same_id i j e in
      let z = counts_one i j e in
      ap (λ (b : Bool). last_of f (cond b (f i) d) j.id rest) t ∙ none_last f j.id rest (f i) (omega (arith, z, h)) ∙ ap f e

  behind_by : 1 ≤ count_of rest j.id → (count_of rest j.id ≤ 1 → last_of f d j.id rest ≡ f j)
      → (b : Bool) → cond b 1 0 + count_of rest j.id ≤ 1 → last_of f (cond b (f i) d) j.id rest ≡ f j
  behind_by some ih true h = absurd (omega arith)
  behind_by some ih false h = ih (omega arith)

the_last : (f : Item → ℕ) (j : Item) (is : Items) (d : ℕ) → Among j is → count_of is j.id ≤ 1 → last_of f d j.id is ≡ f j
the_last f j (item i rest) d m h =
    ⊎_elim (λ e. first_by f j i rest d e h) (λ t. behind_by f j i rest d (among_counts j rest t) (the_last f j rest d t) (eqb i.id j.id) h) m
the_last f j (ended e) d m h = absurd m
the_last f j broken d m h = absurd m

-- ---- the meaning of an item is that of its id
module _ (s : List ℕ) (j : Item) where
  abbrev Means : Type 0
  Means = j.meaning ≡ (decision_of j.id).meaning

  means_after : (k at : ℕ) → ((b : ℕ) → Among j (steps k s b) → Means) → (t : Step) → step_at s at ≡ t → Among j (after t (steps k s)) → Means
  means_after k at ih (Found i c) told m =
      ⊎_elim
      (λ e. ap (λ (x : Item). x.meaning) (sym e) ∙ (found s at i c told).means ∙ ap (λ (x : Item). (decision_of x.id).meaning) e)
      (λ t. ih c.at t)
      m
  means_after k at ih (Ended c) told m = absurd m
  means_after k at ih Broken told m = absurd m

  means_among : (k at : ℕ) → Among j (steps k s at) → Means
  means_among zero at m = absurd m
  means_among (suc k) at m = means_after k at (means_among k) (step_at s at) refl m

  pub item_means : Among j (items s) → Means
  unfolding items_from
  item_means m = means_among (length s) 2 m

-- ---- what holds of each known id and its meaning, and of any id and `Other`, holds of every id and its meaning
abbrev Holds : (ℕ → Meaning → Type 0) → List Known → Type 0
Holds Q [] = Unit {0}
Holds Q (known one size m ∷ rest) = Q one m × Holds Q rest

module _ (Q : ℕ → Meaning → Type 0) (id : ℕ) where
  by_this : (one size : ℕ) (m : Meaning) (rest : List Known) → Q one m → Q id (look_up rest id).meaning → (b : Bool) → eqb id one ≡ b
      → Q id (cond b (record { meaning = m; size = Exactly size }) (look_up rest id)).meaning
  by_this one size m rest q ih true e = subst (λ (x : ℕ). Q x m) (sym (eqb-true id one e)) q
  by_this one size m rest q ih false e = ih

  by_known : (ks : List Known) → Holds Q ks → Q id Other → Q id (look_up ks id).meaning
  by_known [] all other = other
  by_known (known one size m ∷ rest) all other = by_this one size m rest all.0 (by_known rest all.1 other) (eqb id one) refl

-- ---- the header's values, item by item
module _ (s : List ℕ) (number : ℕ) (h : Header) (e : read_header s number ≡ accepted h) where
  abbrev Bytes : Item → List ℕ
  Bytes j = take j.size (drop j.start s)

  says : HeaderSays s number h
  says = header_says s number h e

  -- the items with an id tell the value of a meaning
  abbrev Told : ℕ → Meaning → Type 0
  Told id m = (j : Item) → Among j (items s) → j.id ≡ id → Tells h m (Bytes j)

  -- the data of the item with an id that is there at most once
  bytes_are : (id : ℕ) → count_of (items s) id ≤ 1 → (j : Item) → Among j (items s) → j.id ≡ id → data_of id s ≡ Bytes j
  unfolding data_of
  bytes_are id few j m is =
      let once : count_of (items s) j.id ≤ 1 = omega (arith, few, ap (count_of (items s)) is) in
      ap (λ (x : ℕ). data_of x s) (sym is)
      ∙ ap₂ (λ (n a : ℕ). take n (drop a s)) (the_last (λ (i : Item). i.size) j (items s) 0 m once) (the_last (λ (i : Item). i.start) j (items s) 0 m once)

  listed : (k id size : ℕ) → k < 11 → get_or mandatory k (record { id = 0; size = 0 }) ≡ record { id = id; size = size } → count_of (items s) id ≤ 1
  listed k id size l is =
      let once = says.ruled.each_once (record { id = id; size = size })
      (subst (λ (p : Pair). OneOf p mandatory) is (in_list mandatory (record { id = 0; size = 0 }) k (omega (arith, eleven)))) in
      omega (arith, once)

  uploaded : Told 0x12 UploadTime
  uploaded j m is =
      let some : 1 ≤ count_of (items s) 0x12 = omega (arith, among_counts j (items s) m, ap (count_of (items s)) is) in
      let there : eqb (count_of (items s) 0x12) 0 ≡ false = ne_eqb (count_of (items s) 0x12) 0 (λ z. omega (arith, z, some)) in
      says.upload
      ∙ ap (λ (b : Bool). cond b None (Some (number_at 4 (data_of 0x12 s) 0))) there
      ∙ ap (λ (d : List ℕ). Some (number_at 4 d 0)) (bytes_are 0x12 says.ruled.upload j m is)

  -- a value that is the bytes of its item's data, or their number
  spelled : (id : ℕ) (bytes : List ℕ) → bytes ≡ data_of id s → count_of (items s) id ≤ 1 → (j : Item) → Among j (items s) → j.id ≡ id → bytes ≡ Bytes j
  spelled id bytes told few j m is = told ∙ bytes_are id few j m is

  numbered : (n id v : ℕ) → v ≡ number_at n (data_of id s) 0 → count_of (items s) id ≤ 1
      → (j : Item) → Among j (items s) → j.id ≡ id → v ≡ number_at n (Bytes j) 0
  numbered n id v told few j m is = told ∙ ap (λ (d : List ℕ). number_at n d 0) (bytes_are id few j m is)

  all_told : Holds Told known_items
  unfolding known_items mandatory_items
  all_told =
      let number = numbered 4 0x01 _ says.number_item (listed 0 0x01 4 (omega arith) refl) in
      let name = spelled 0x02 _ says.name (listed 1 0x02 8 (omega arith) refl) in
      let extension = spelled 0x03 _ says.extension (listed 2 0x03 3 (omega arith) refl) in
      let whole = numbered 4 0x04 _ says.length (listed 3 0x04 4 (omega arith) refl) in
      let created = numbered 4 0x05 _ says.created (listed 4 0x05 4 (omega arith) refl) in
      let modified = numbered 4 0x06 _ says.modified (listed 5 0x06 4 (omega arith) refl) in
      let upset = numbered 1 0x07 _ says.upset (listed 6 0x07 1 (omega arith) refl) in
      let kind = numbered 1 0x08 _ says.kind (listed 7 0x08 1 (omega arith) refl) in
      let bodysum = numbered 2 0x09 _ says.bodysum (listed 8 0x09 2 (omega arith) refl) in
      let headersum = numbered 2 0x0A _ says.headersum (listed 9 0x0A 2 (omega arith) refl) in
      let body = numbered 2 0x0B _ says.body (listed 10 0x0B 2 (omega arith) refl) in
      (λ j m is. tt, (number, (name, (extension, (whole, (created, (modified, (upset, (kind, (bodysum, (headersum, (body, (uploaded, tt)))))))))))))

  -- An accepted header tells, for the meaning of each of its items, what the item's data say.
  pub item_says : (j : Item) → Among j (items s) → Tells h j.meaning (Bytes j)
  unfolding decision_of
  item_says j m =
      subst (λ (x : Meaning). Tells h x (Bytes j)) (sym (item_means s j m)) (by_known Told j.id known_items all_told (λ i a is. tt) j m refl)
