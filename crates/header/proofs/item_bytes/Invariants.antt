-- The loop's invariant: with the items from the cursor on, the last item met with the id is the last of all.
use Rattle.std.proofs.Common.{◌≡◌, List, ℕ, ◌+◌, ◌-◌, ◌≤◌, length}
use Rattle.header.specs.declared.Item.{Item}
use Rattle.header.specs.Items.{items_from, items, last_of, start_of, size_of}
use Rattle.header.proofs.item_bytes.Given as goal

abbrev pub Start : Item → ℕ
Start i = i.start

abbrev pub Size : Item → ℕ
Size i = i.size

-- what is known of the last item with the id when the cursor is at a place: with the items from there on it is the last of all
pub record SoFar (s : List ℕ) (id at start size : ℕ) : Type 0 where
  pub started : last_of Start start id (items_from s at) ≡ start_of (items s) id
  pub sized : last_of Size size id (items_from s at) ≡ size_of (items s) id
  pub within : start + size ≤ length s

abbrev pub invariant-loop-item : goal.invariant-loop-item
invariant-loop-item l = SoFar l.s l.id l.cursor.at l.start l.size

abbrev pub decreases-loop-item : goal.decreases-loop-item
decreases-loop-item l = length l.s - l.cursor.at
