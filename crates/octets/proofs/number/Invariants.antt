use Rattle.std.proofs.Common.{◌≡◌, ◌<◌, ◌^◌, min, ◌+◌, ◌-◌, ◌≤◌}
use Rattle.octets.specs.Numbers.{number_at}
use Rattle.octets.proofs.number.Given as goal

-- the bytes from k on are read
abbrev pub invariant-loop-k : goal.invariant-loop-k
invariant-loop-k g l =
    (l.k ≤ min g.row.N 8)
    × (l.number ≡ number_at (min g.row.N 8 - l.k) l.s (l.at + l.k))
    × (l.number < 256 ^ (min g.row.N 8 - l.k))
