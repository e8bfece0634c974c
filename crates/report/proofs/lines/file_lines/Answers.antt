-- `report::lines::file_lines` meets its contract: every text of a file fits, and the lines of the holes are behind the first line.
-- Assumes nothing.
use mathlib.Core.Path.{◌≡◌}
use mathlib.Core.List.{List, ◌++◌}
use Prim.Native.Nat.{ℕ, ◌+◌, ◌≤◌}
use native.Mathlib.Omega.{arith}
use lib.ListN.{length}
use Rattle.reception.specs.Held.{held_count}
use Rattle.holes.specs.EveryHole.{listed_from}
use Rattle.report.specs.Text.{file_line, hole_lines}
use Rattle.report.proofs.Writes.{Written, room_front, room_behind, written_next}
use Rattle.report.proofs.TextLaws.{fits}
use Rattle.report.proofs.lines.file_lines.Goals as goal

-- the same of a count that is that of the held positions
line_room : (number l held count n : ℕ) → held ≡ count → 0 + length (file_line number l count) ≤ n → length (file_line number l held) ≤ n
line_room number l held count n e h = rw e (omega (arith, h))

line_written : (number l held count : ℕ) (out : List ℕ) (r : ℕ) (left : List ℕ) → held ≡ count → Written out 0 (file_line number l held) r left
    → Written out 0 (file_line number l count) r left
line_written number l held count out r left e w = rw e at w

pub file_line-at-requires : goal.file_line-at-requires
file_line-at-requires c =
    let x = c.args in
    let a = file_line x.file.number x.file.length (held_count x.file.length x.map.now) in
    let b = hole_lines (listed_from x.file.length x.file.length x.map.now 0) in
    let room : 0 + length (a ++ b) ≤ length x.out.now = omega (arith, c.requires.2, fits x.file.number x.file.length x.map.now c.requires.0) in
    line_room x.file.number x.file.length _ _ _ c.count_held-held.ensures (room_front 0 a b _ room)

pub hole_lines-requires : goal.hole_lines-requires
hole_lines-requires c =
    let x = c.args in
    let a = file_line x.file.number x.file.length (held_count x.file.length x.map.now) in
    let b = hole_lines (listed_from x.file.length x.file.length x.map.now 0) in
    let room : 0 + length (a ++ b) ≤ length x.out.now = omega (arith, c.requires.2, fits x.file.number x.file.length x.map.now c.requires.0) in
    let w = c.file_line-at.ensures in
    let first : Written x.out.now 0 a c.file_line-at.result c.file_line-at.new.out =
    line_written x.file.number x.file.length _ _ x.out.now _ _ c.count_held-held.ensures (omega (arith, w.value), w.out_after) in
    room_behind x.out.now 0 a b _ _ first room

pub returns-clause-out_after : goal.returns-clause-out_after
returns-clause-out_after c =
    let x = c.args in
    let a = file_line x.file.number x.file.length (held_count x.file.length x.map.now) in
    let b = hole_lines (listed_from x.file.length x.file.length x.map.now 0) in
    let room : 0 + length (a ++ b) ≤ length x.out.now = omega (arith, c.requires.2, fits x.file.number x.file.length x.map.now c.requires.0) in
    let w = c.file_line-at.ensures in
    let first : Written x.out.now 0 a c.file_line-at.result c.file_line-at.new.out =
    line_written x.file.number x.file.length _ _ x.out.now _ _ c.count_held-held.ensures (omega (arith, w.value), w.out_after) in
    let next = c.hole_lines.ensures in
    (written_next x.out.now 0 a b _ _ first room _ _ (next.value, next.out_after)).1
