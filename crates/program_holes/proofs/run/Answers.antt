-- `program_holes::run` is safe and ends: the size that is told is within the lent slice.
-- Assumes what the kit says of standard input and output, as every program does that reads and prints.
use mathlib.Core.Path.{sym}
use mathlib.Core.List.{List}
use Prim.Native.Nat.{ℕ, ◌≤◌}
use native.Mathlib.Omega.{arith}
use lib.ListN.{length, take}
use lib.Seq.{take_all, length-take-le}
use Rattle.report.proofs.WholeInput.{told_within}
use Rattle.program_holes.proofs.run.Goals as goal

-- the size told is that of the text of what was read, taken for the whole input
pub slice_bounds-text-end : goal.slice_bounds-text-end
slice_bounds-text-end g c =
    let f = c.read_full-n in
    let r = c.report_all in
    let read : List ℕ = take f.result f.new.space in
    let all = take_all (length f.new.space) read (omega (arith, f.ensures.bound, length-take-le f.result f.new.space f.ensures.bound)) in
    told_within read _ r.result _ c.in-Ok.size (r.ensures read all) c.in-Ok.is

pub slice_bounds-write_all-end : goal.slice_bounds-write_all-end
slice_bounds-write_all-end g c =
    let f = c.read_full-n in
    let r = c.report_all in
    let read : List ℕ = take f.result f.new.space in
    let all = take_all (length f.new.space) read (omega (arith, f.ensures.bound, length-take-le f.result f.new.space f.ensures.bound)) in
    let fits : c.in-Ok.size ≤ length r.new.text = told_within read _ r.result _ c.in-Ok.size (r.ensures read all) c.in-Ok.is in
    sym (length-take-le _ _ fits)
