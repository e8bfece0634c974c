-- What an item's meaning is for: a meaning other than `Other` stands for one id, so an item can be found by either.
-- Assumes nothing.
use mathlib.Core.Path.{◌≡◌, refl, sym, ap, ◌∙◌}
use mathlib.Core.Bool.{Bool, true, false, cond}
use mathlib.Core.List.{List, [], ◌∷◌}
use Prim.Native.Nat.{ℕ, ◌<◌}
use native.Mathlib.Omega.{arith}
use lib.Dec.{eqb}
use borrow.Author.Tests.{eqb-true, eqb-false, eq-eqb, ne_eqb}
use Rattle.header.specs.declared.Meaning.{Meaning}
use Rattle.header.specs.declared.Meaning.TheVariants.{UploadTime, Other}
use Rattle.header.specs.declared.Size.TheVariants.{Exactly}
use Rattle.header.specs.Items.{Known, known, mandatory_items, known_items, look_up, decision_of}
use Rattle.header.specs.Notes.{place_of, places, Placed}

-- every meaning has a place, and every one but `Other` a place before the last
pub place_below : (m : Meaning) → place_of m < places
place_below m = grind arith

own_place : (m : Meaning) → (m ≡ Other → ⊥) → place_of m < place_of Other
own_place m d = grind arith

-- the id whose meaning has a place: the place itself but for item 12
abbrev id_at : ℕ → ℕ
id_at place = cond (eqb place (place_of UploadTime)) 0x12 place

-- it is the id of each known item of a list
abbrev Named : List Known → Type 0
Named [] = Unit {0}
Named (known id size m ∷ rest) = (id_at (place_of m) ≡ id) × Named rest

module _ (id : ℕ) where
  abbrev Place : List Known → ℕ
  Place ks = place_of (look_up ks id).meaning

  named_by : (one size : ℕ) (m : Meaning) (rest : List Known) → id_at (place_of m) ≡ one → (Place rest < place_of Other → id_at (Place rest) ≡ id)
      → (b : Bool) → eqb id one ≡ b
      → (let found = place_of (cond b (record { meaning = m; size = Exactly size }) (look_up rest id)).meaning in found < place_of Other → id_at found ≡ id)
  named_by one size m rest e ih true t h = e ∙ sym (eqb-true id one t)
  named_by one size m rest e ih false t h = ih h

  named_in : (ks : List Known) → Named ks → Place ks < place_of Other → id_at (Place ks) ≡ id
  named_in [] all h = absurd (omega arith)
  named_in (known one size m ∷ rest) all h = named_by one size m rest all.0 (named_in rest all.1) (eqb id one) refl h

-- so the place of an id's meaning tells the id
named : (id : ℕ) → Placed id → id_at (place_of (decision_of id).meaning) ≡ id
unfolding decision_of known_items mandatory_items
named id h =
    named_in id known_items
    (refl, (refl, (refl, (refl, (refl, (refl, (refl, (refl, (refl, (refl, (refl, (refl, (refl, tt)))))))))))))
    h

-- two ids have one place exactly if they are one, where one of them has a place of its own
module _ (id k : ℕ) (placed : Placed k) where
  abbrev P : ℕ → ℕ
  P j = place_of (decision_of j).meaning

  one_place : P id ≡ P k → id ≡ k
  one_place e = sym (named id (omega arith)) ∙ ap id_at e ∙ named k placed

  same_by : (b : Bool) → eqb id k ≡ b → eqb (P id) (P k) ≡ b
  same_by true e = eq-eqb (P id) (P k) (ap P (eqb-true id k e))
  same_by false e = ne_eqb (P id) (P k) (λ z. eqb-false id k e (one_place z))

  pub same_place : eqb (P id) (P k) ≡ eqb id k
  same_place = same_by (eqb id k) refl

-- Two ids of one meaning are the same id, unless the meaning is `Other`: an item is found by its meaning as by its id.
pub meaning_names_id : (id k : ℕ) → ((decision_of k).meaning ≡ Other → ⊥) → (decision_of id).meaning ≡ (decision_of k).meaning → id ≡ k
meaning_names_id id k d e = one_place id k (own_place (decision_of k).meaning d) (ap place_of e)
