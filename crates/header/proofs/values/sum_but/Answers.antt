-- `header::values::sum_but` meets its contract: two zeros between the two parts add nothing.
-- Assumes nothing.
use Rattle.std.proofs.Common.{◌≡◌, ap, ◌+◌, ◌-◌, arith, take, drop, sum, length, length-drop}
use Rattle.std.proofs.lemmas.List.Sums.{sum_by-append}
use Rattle.std.proofs.Math.Seq.{take_all}
use Rattle.octets.specs.Runs.{put_in}
use Rattle.header.proofs.values.sum_but.Goals as goal

pub returns : goal.returns
unfolding put_in
returns c =
    let s = c.args.s.now in
    let at = c.args.at in
    let rest : take (length s - (at + 2)) (drop (at + 2) s) ≡ drop (at + 2) s = take_all (length s - (at + 2)) (drop (at + 2) s) (simp length-drop (omega arith)) in
    let e = ap sum rest in
    simp sum_by-append (omega arith)
