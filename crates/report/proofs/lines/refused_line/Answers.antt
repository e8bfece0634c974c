-- `report::lines::refused_line` meets its contract: two runs, one behind the other.
-- Assumes nothing.
use mathlib.Core.List.{◌++◌}
use mathlib.Core.Path.{ap, ◌∙◌}
use Prim.Native.Nat.{ℕ, ◌+◌, ◌≤◌}
use Rattle.octets.specs.Runs.{put_in}
use native.Mathlib.Omega.{arith}
use lib.ListN.{length}
use Rattle.report.specs.Decimal.{decimal}
use Rattle.report.specs.Text.{refused_word, newline, refused_line}
use Rattle.report.proofs.Writes.{room_front, room_behind, written_next}
use Rattle.report.proofs.TextLaws.{refusal_fits}
use Rattle.report.proofs.lines.refused_line.Goals as goal

pub put_both-at-requires : goal.put_both-at-requires
put_both-at-requires c =
    let x = c.args in
    let room : 0 + length ((refused_word ++ decimal c.from-number.result) ++ newline) ≤ length x.out.now = omega (arith, c.requires, refusal_fits c.from-number.result) in
    omega (arith, room_front 0 (refused_word ++ decimal c.from-number.result) newline _ room)

pub put_word-requires : goal.put_word-requires
put_word-requires c =
    let x = c.args in
    let first = c.put_both-at.ensures in
    let room : 0 + length ((refused_word ++ decimal c.from-number.result) ++ newline) ≤ length x.out.now = omega (arith, c.requires, refusal_fits c.from-number.result) in
    omega (arith, room_behind x.out.now 0 (refused_word ++ decimal c.from-number.result) newline _ _ (first.value, first.out_after) room)

pub returns-clause-out_after : goal.returns-clause-out_after
returns-clause-out_after c =
    let x = c.args in
    let first = c.put_both-at.ensures in
    let last = c.put_word.ensures in
    let room : 0 + length ((refused_word ++ decimal c.from-number.result) ++ newline) ≤ length x.out.now = omega (arith, c.requires, refusal_fits c.from-number.result) in
    (written_next x.out.now 0 (refused_word ++ decimal c.from-number.result) newline _ _ (first.value, first.out_after) room _ _ (last.value, last.out_after)).1
    ∙ ap (λ (k : ℕ). put_in x.out.now 0 (refused_line k)) c.from-number.ensures
