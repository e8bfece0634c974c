-- `address_of` meets its contract: the address of the number's eight bytes.
-- Assumes nothing.
use mathlib.Core.Path.{sym, ap, ◌∙◌}
use mathlib.Core.List.{List, [], ◌∷◌}
use Prim.Native.Nat.{ℕ, ◌^◌, ◌<◌}
use native.Mathlib.Omega.{arith}
use Rattle.octets.specs.Numbers.{byte_at}
use Rattle.ax25.specs.declared.Address.{Address}
use Rattle.station.specs.AddressNumber.{address_of}
use Rattle.station.proofs.AddressLaws.{told_bytes}
use Rattle.station.proofs.addresses.address_of.Goals as goal

-- the address with given bytes
with_bytes : List ℕ → Address
with_bytes s = record {
  characters = byte_at s 0 ∷ byte_at s 1 ∷ byte_at s 2 ∷ byte_at s 3 ∷ byte_at s 4 ∷ byte_at s 5 ∷ [];
  number = byte_at s 6;
  bit7 = byte_at s 7;
}

pub returns : goal.returns
unfolding with_bytes address_of
returns c =
    let below : c.args.n < 256 ^ 8 = omega arith in
    ap with_bytes (c.bytes.ensures ∙ sym (told_bytes c.args.n below))
