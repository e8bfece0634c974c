-- The loop's invariant: from place i on the last digits stand, and `rest` is what is left behind them.
use Rattle.std.proofs.Common.{length, ◌≡◌, ◌≤◌, ◌+◌, ◌-◌, ◌/◌, ◌^◌}
use Rattle.octets.specs.Runs.{put_in}
use Rattle.report.specs.Decimal.{digits}
use Rattle.report.proofs.number.put_digits.Given as goal

abbrev pub invariant-loop-i : goal.invariant-loop-i
invariant-loop-i l =
    (l.i ≤ l.k) × (length l.out ≡ length l.initial.out)
    × (l.rest ≡ l.n / 10 ^ (l.k - l.i)) × (l.out ≡ put_in l.initial.out (l.at + l.i) (digits (l.k - l.i) l.n))
