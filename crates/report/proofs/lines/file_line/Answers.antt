-- `report::lines::file_line` meets its contract: four runs, one behind the other.
-- Assumes nothing.
use mathlib.Core.List.{List, ◌++◌}
use Prim.Native.Nat.{ℕ, ◌+◌, ◌≤◌}
use native.Mathlib.Omega.{arith}
use lib.ListN.{length}
use Rattle.report.specs.Decimal.{decimal}
use Rattle.report.specs.Text.{file_word, length_word, held_word, newline}
use Rattle.report.proofs.Writes.{Written, room_front, written_next}
use Rattle.report.proofs.lines.file_line.Goals as goal

-- four runs, and the room for all of them
module _ (out : List ℕ) (a b c d : List ℕ) (room : 0 + length (a ++ b ++ c ++ d) ≤ length out) where
  room3 : 0 + length (a ++ b ++ c) ≤ length out
  room3 = room_front 0 (a ++ b ++ c) d _ room

  room2 : 0 + length (a ++ b) ≤ length out
  room2 = room_front 0 (a ++ b) c _ room3

  four : (r1 r2 r3 r4 : ℕ) (o1 o2 o3 o4 : List ℕ) → Written out 0 a r1 o1 → Written o1 r1 b r2 o2 → Written o2 r2 c r3 o3 → Written o3 r3 d r4 o4
      → Written out 0 (a ++ b ++ c ++ d) r4 o4
  four r1 r2 r3 r4 o1 o2 o3 o4 one two three last =
      let w2 = written_next out 0 a b r1 o1 one room2 r2 o2 two in
      let w3 = written_next out 0 (a ++ b) c r2 o2 w2 room3 r3 o3 three in
      written_next out 0 (a ++ b ++ c) d r3 o3 w3 room r4 o4 last

pub returns-clause-out_after : goal.returns-clause-out_after
returns-clause-out_after c =
    let x = c.args in
    let one = c.put_both-a.ensures in
    let two = c.put_both-b.ensures in
    let three = c.put_both-c.ensures in
    let last = c.put_word.ensures in
    (four x.out.now (file_word ++ decimal x.file.number) (length_word ++ decimal x.file.length) (held_word ++ decimal x.held) newline (omega (arith, c.requires))
    _ _ _ _ _ _ _ _ (one.value, one.out_after) (two.value, two.out_after) (three.value, three.out_after) (last.value, last.out_after)).1
