-- `report::lines::hole_line` meets its contract: three runs, one behind the other.
-- Assumes nothing.
use mathlib.Core.List.{List, ◌++◌}
use Prim.Native.Nat.{ℕ, ◌+◌, ◌≤◌}
use lib.ListN.{length}
use Rattle.report.specs.Decimal.{decimal}
use Rattle.report.specs.Text.{space, newline}
use Rattle.report.proofs.Writes.{Written, room_front, written_next}
use Rattle.report.proofs.lines.hole_line.Goals as goal

-- three runs, and the room for all of them
three : (out : List ℕ) (at : ℕ) (a b c : List ℕ) (room : at + length (a ++ b ++ c) ≤ length out)
    (r1 r2 r3 : ℕ) (o1 o2 o3 : List ℕ) → Written out at a r1 o1 → Written o1 r1 b r2 o2 → Written o2 r2 c r3 o3
    → Written out at (a ++ b ++ c) r3 o3
three out at a b c room r1 r2 r3 o1 o2 o3 one two last =
    let w = written_next out at a b r1 o1 one (room_front at (a ++ b) c _ room) r2 o2 two in
    written_next out at (a ++ b) c r2 o2 w room r3 o3 last

pub returns-clause-out_after : goal.returns-clause-out_after
returns-clause-out_after c =
    let x = c.args in
    let one = c.put_number-a.ensures in
    let two = c.put_both-b.ensures in
    let last = c.put_word.ensures in
    (three x.out.now x.at (decimal x.hole.start) (space ++ decimal x.hole.length) newline c.requires
    _ _ _ _ _ _ (one.value, one.out_after) (two.value, two.out_after) (last.value, last.out_after)).1
