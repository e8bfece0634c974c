-- `positions::mark` meets its contract: of all positions, one becomes held.
-- Assumes nothing.
use mathlib.Core.Path.{◌≡◌, refl, sym, ap, ◌∙◌}
use mathlib.Core.List.{List}
use mathlib.Core.Bool.{Bool, ◌||◌, or-false}
use Prim.Native.Nat.{ℕ, ◌*◌, ◌/◌, ◌%◌, ◌^◌, ◌≤◌, ◌<◌}
use native.Mathlib.Omega.{arith}
use lib.ListN.{length, set, length-set}
use lib.Dec.{eqb}
use lib.Bits.{bit_or, or_lt}
use lib.Pow.{pow-lt}
use borrow.Author.Tests.{ne_eqb}
use Rattle.std.proofs.lemmas.Nat.{one_shl}
use Rattle.octets.specs.Numbers.{byte_at, AllBytes}
use Rattle.positions.specs.Map.{held, map_of}
use Rattle.positions.proofs.MapLaws.{held_mark, map_is, set_bytes}
use Rattle.positions.proofs.mark.Goals as goal

-- a position beyond the map is none of its own
other : (m : List ℕ) (p q : ℕ) → length m ≤ p / 8 → q < length m * 8 → q ≡ p → ⊥
other m p q h l e = omega arith

beyond : (m : List ℕ) (p : ℕ) → length m ≤ p / 8 → AllBytes m → m ≡ map_of (λ q. held m q || eqb q p) (length m)
beyond m p h all =
    map_is (λ q. held m q || eqb q p) m (length m) all refl
    (λ q l. sym (or-false (held m q)) ∙ ap (λ (b : Bool). held m q || b) (sym (ne_eqb q p (other m p q h l))))

-- the map with one bit more is the map that holds one position more
marked : (m : List ℕ) (p : ℕ) → p / 8 < length m → AllBytes m
    → set m (p / 8) (bit_or (byte_at m (p / 8)) (1 * 2 ^ (p % 8) % 256)) ≡ map_of (λ q. held m q || eqb q p) (length m)
marked m p h all =
    let new = bit_or (byte_at m (p / 8)) (2 ^ (p % 8)) in
    ap (λ (x : ℕ). set m (p / 8) (bit_or (byte_at m (p / 8)) x)) (one_shl (p % 8) 8 (omega arith))
    ∙ map_is (λ q. held m q || eqb q p) (set m (p / 8) new) (length m)
    (set_bytes m (p / 8) new h all (or_lt 8 (byte_at m (p / 8)) (2 ^ (p % 8)) (all (p / 8)) (pow-lt {j = 8} (omega arith))))
    (length-set m (p / 8) new)
    (λ q _. held_mark m p q h)

pub returns-then-p-map : goal.returns-then-p-map
returns-then-p-map c = marked c.args.map.now c.args.p c.if-p-map.true (λ i. (c.slice_known-1.given i).fits)

pub returns-else-p-map : goal.returns-else-p-map
returns-else-p-map c = beyond c.args.map.now c.args.p c.if-p-map.false (λ i. (c.type_inv.map i).fits)
