use Rattle.std.proofs.Common.{◌≡◌, length}
use Rattle.std.specs.Prelude.{take}
use Rattle.octets.specs.Numbers.{byte_at}
use Rattle.octets.specs.Values.{values_from}
use Rattle.octets.proofs.array.Given as goal

-- the bytes that are read
abbrev pub invariant-loop-k : goal.invariant-loop-k
invariant-loop-k g l = (length l.byte-items ≡ g.row.N) × (take l.k l.byte-items ≡ values_from (byte_at l.s) l.at l.k)
