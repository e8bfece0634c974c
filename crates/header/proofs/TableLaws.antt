-- Laws of the table of mandatory items: a test of every pair, pair by pair, and what the table lists.
-- Assumes nothing.
use mathlib.Core.Path.{◌≡◌, refl, ap, ap₂, ◌∙◌}
use mathlib.Core.Bool.{Bool, true, ◌&&◌}
use mathlib.Core.List.{List, [], ◌∷◌}
use mathlib.Core.Logic.{inl, inr}
use Prim.Native.Nat.{ℕ, zero, suc, ◌<◌}
use native.Mathlib.Omega.{arith}
use lib.Dec.{ltb}
use lib.ListN.{length, get_or}
use borrow.Author.Tests.{ltb-true}
use Rattle.reason.proofs.Bools.{and_left, and_right, and_both}
use Rattle.octets.specs.Lists.{OneOf}
use Rattle.header.specs.declared.Pair.{Pair}
use Rattle.header.specs.declared.Meaning.TheVariants.{Other}
use Rattle.header.specs.Items.{mandatory_items, known_items, decision_of}
use Rattle.std.specs.List.{list_all}
use Rattle.header.specs.Header.{mandatory}
use Rattle.header.specs.Notes.{place_of, Placed}

-- every pair passes a test exactly if each pair in the list does
pub each : (test : Pair → Bool) (ps : List Pair) → list_all test ps ≡ true → (p : Pair) → OneOf p ps → test p ≡ true
each test [] e p m = absurd m
each test (q ∷ ps) e p (inl s) = ap test s ∙ and_left (test q) (list_all test ps) e
each test (q ∷ ps) e p (inr m) = each test ps (and_right (test q) (list_all test ps) e) p m

pub all_pass : (test : Pair → Bool) (ps : List Pair) → ((p : Pair) → OneOf p ps → test p ≡ true) → list_all test ps ≡ true
all_pass test [] h = refl
all_pass test (q ∷ ps) h = and_both (test q) (list_all test ps) (h q (inl refl)) (all_pass test ps (λ p m. h p (inr m)))

-- two tests that agree on each pair agree on the list
pub every_same : (f g : Pair → Bool) (ps : List Pair) → ((p : Pair) → OneOf p ps → f p ≡ g p) → list_all f ps ≡ list_all g ps
every_same f g [] h = refl
every_same f g (q ∷ ps) h = ap₂ ◌&&◌ (h q (inl refl)) (every_same f g ps (λ p m. h p (inr m)))

-- the pair at a place of a list is in it
pub in_list : (ps : List Pair) (d : Pair) (k : ℕ) → k < length ps → OneOf (get_or ps k d) ps
in_list [] d k h = absurd (omega arith)
in_list (p ∷ ps) d zero h = inl refl
in_list (p ∷ ps) d (suc k) h = inr (in_list ps d k (omega arith))

-- the table has eleven pairs; the meaning of each id has a place of its own in the notes; item 0A is listed with two bytes
pub eleven : length mandatory ≡ 11
unfolding mandatory_items
eleven = refl

abbrev is_placed : Pair → Bool
is_placed p = ltb (place_of (decision_of p.id).meaning) (place_of Other)

all_placed : list_all is_placed mandatory ≡ true
unfolding decision_of known_items mandatory_items
all_placed = refl

pub each_placed : (p : Pair) → OneOf p mandatory → Placed p.id
each_placed p m = ltb-true (place_of (decision_of p.id).meaning) (place_of Other) (each is_placed mandatory all_placed p m)

pub sum_listed : OneOf (record { id = 0x0A; size = 2 }) mandatory
unfolding mandatory_items
sum_listed = in_list mandatory (record { id = 0; size = 0 }) 9 (omega arith)
