-- `report::number::put_both` meets its contract: the number is written right behind the word.
-- Assumes nothing.
use mathlib.Core.List.{◌++◌}
use Prim.Native.Nat.{◌+◌, ◌≤◌}
use native.Mathlib.Omega.{arith}
use lib.ListN.{length, length-append}
use Rattle.report.specs.Decimal.{decimal}
use Rattle.report.proofs.Writes.{written_next}
use Rattle.report.proofs.number.put_both.Goals as goal

pub returns : goal.returns
returns c =
    let a = c.args in
    let room : a.at + length (a.word.now ++ decimal a.n) ≤ length a.out.now = omega (arith, c.requires, length-append a.word.now (decimal a.n)) in
    let first = c.put_word-next.ensures in
    let next = c.put_number.ensures in
    let w = written_next a.out.now a.at a.word.now (decimal a.n) _ _ (first.value, first.out_after) room _ _ (next.value, next.out_after) in
    record { value = w.0; out_after = w.1 }
