-- `header::item_bytes` meets its contract: with the items that are left, the last one met is the last of all.
-- Assumes nothing.
use Rattle.std.proofs.Common.{◌≡◌, sym, ap, ap₂, ◌∙◌, Bool, true, false, cond, eqb, List, ℕ, ◌+◌, ◌-◌, arith, take, drop}
use borrow.Author.Tests.{eq-eqb, ne_eqb}
use Rattle.header.specs.declared.Item.{Item}
use Rattle.header.specs.declared.Cursor.{Cursor}
use Rattle.header.specs.declared.Step.{Step}
use Rattle.header.specs.declared.Step.TheVariants.{Found}
use Rattle.header.specs.Items.{step_at, items_from, last_of}
use Rattle.header.specs.Data.{data_of}
use Rattle.header.proofs.ItemLaws.{found_by_told, last_more, last_left}
use Rattle.header.proofs.item_bytes.Invariants.{Start, Size, SoFar}
use Rattle.header.proofs.item_bytes.Goals as goal

module _ (s : List ℕ) (id at start size : ℕ) (sofar : SoFar s id at start size) where
  -- one item more: with the id, and with another
  module _ (r : Step) (i : Item) (c : Cursor) (told : r ≡ Found i c) (stepped : r ≡ step_at s at) where
    more : (f : Item → ℕ) (d : ℕ) (b : Bool) → eqb i.id id ≡ b → last_of f (cond b (f i) d) id (items_from s c.at) ≡ last_of f d id (items_from s at)
    more f d b e = ap (λ (x : Bool). last_of f (cond x (f i) d) id (items_from s c.at)) (sym e) ∙ last_more s at told stepped f d id

    taken : i.id ≡ id → SoFar s id c.at i.start i.size
    taken e =
        let x = found_by_told s at told stepped in
        let b = eq-eqb i.id id e in
        record {
          started = more Start start true b ∙ sofar.started;
          sized = more Size size true b ∙ sofar.sized;
          within = omega (arith, x.starts, x.next, x.within);
        }

    passed : (i.id ≡ id → ⊥) → SoFar s id c.at start size
    passed e =
        let b = ne_eqb i.id id e in
        record { started = more Start start false b ∙ sofar.started; sized = more Size size false b ∙ sofar.sized; within = sofar.within }

  -- where no item is left
  part : ((f : Item → ℕ) (d : ℕ) → last_of f d id (items_from s at) ≡ d) → take (start + size - start) (drop start s) ≡ data_of id s
  unfolding data_of
  part left =
      let n : start + size - start ≡ size = omega arith in
      ap₂ (λ (m k : ℕ). take m (drop k s)) (n ∙ sym (left Size size) ∙ sofar.sized) (sym (left Start start) ∙ sofar.started)

pub loop-item-smaller-then-item-id : goal.loop-item-smaller-then-item-id
loop-item-smaller-then-item-id c =
    let x = found_by_told _ _ c.in-Found.is c.step.ensures in
    omega (arith, x.next, x.within)

pub loop-item-preserved-then-item-id : goal.loop-item-preserved-then-item-id
loop-item-preserved-then-item-id c =
    taken _ _ _ _ _ c.loop-item.invariant _ _ _ c.in-Found.is c.step.ensures c.if-item-id.true

pub loop-item-smaller : goal.loop-item-smaller
loop-item-smaller c =
    let x = found_by_told _ _ c.in-Found.is c.step.ensures in
    omega (arith, x.next, x.within)

pub loop-item-preserved : goal.loop-item-preserved
loop-item-preserved c =
    passed _ _ _ _ _ c.loop-item.invariant _ _ _ c.in-Found.is c.step.ensures c.if-item-id.false

pub returns : goal.returns
returns c = part _ _ _ _ _ c.loop-item.invariant (λ f d. last_left _ _ _ c.in_default.not-Found c.step.ensures f d _)
