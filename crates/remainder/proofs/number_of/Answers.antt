-- `remainder::number_of` meets its contract.
-- Assumes nothing.
use Rattle.std.proofs.Common.{◌≡◌, ℕ, ◌+◌, ◌*◌, ◌^◌, ◌<◌, List, refl, sym, subst, ◌∙◌, arith}
use Rattle.std.proofs.Math.Nat.{lt_of_lt_of_le, zero-add}
use Rattle.std.proofs.Math.Numerals.{add-one}
use Rattle.std.proofs.Math.Pow.{pow_mono}
use Rattle.octets.specs.Numbers.{byte_at, AllBytes}
use Rattle.remainder.specs.Inner.{high_first}
use Rattle.remainder.proofs.Reading.{high_below}
use Rattle.remainder.proofs.number_of.Goals as goal

-- fewer than eight bytes leave room for one more
room : (k : ℕ) (s : List ℕ) → AllBytes s → k < 8 → high_first k s 0 < 2 ^ 56
room k s all h = lt_of_lt_of_le (high_below k s 0 all) (pow_mono {i = 8 * k} {j = 56} (omega arith))

more : (k : ℕ) (s : List ℕ) (number : ℕ) → number ≡ high_first k s 0 → number * 256 + byte_at s k ≡ high_first (k + 1) s 0
unfolding high_first
more k s number e = rw (add-one, e, zero-add)

pub loop-b-init : goal.loop-b-init
unfolding high_first
loop-b-init c = refl

pub byte_behind-number-requires : goal.byte_behind-number-requires
byte_behind-number-requires c =
    let h = room c.loop-b.b-index c.args.s.now (λ i. (c.type_inv.s i).fits) (omega arith) in
    subst (λ (n : ℕ). n < 2 ^ 56) (sym c.loop-b.invariant) h

pub loop-b-preserved : goal.loop-b-preserved
loop-b-preserved c = c.byte_behind-number.ensures ∙ more c.loop-b.b-index c.args.s.now c.loop-b.number c.loop-b.invariant
