use Rattle.std.proofs.Common.{◌≡◌, ◌++◌, ◌-◌, length}
use Rattle.std.specs.Prelude.{take}
use Rattle.octets.specs.Numbers.{bytes_of}
use Rattle.octets.proofs.bytes.Given as goal

-- the bytes that are made, and behind them those of the rest
abbrev pub invariant-loop-byte : goal.invariant-loop-byte
invariant-loop-byte g l = (length l.byte-items ≡ g.row.N)
    × (take l.byte-index l.byte-items ++ bytes_of (g.row.N - l.byte-index) l.rest ≡ bytes_of g.row.N l.fn.number)
