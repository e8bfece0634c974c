use Rattle.std.proofs.Common.{◌≡◌, ◌<◌, ◌^◌, min, ℕ, suc, ◌+◌, ◌-◌, ◌*◌, ◌≤◌, List, sym, ◌∙◌, refl}
use native.Mathlib.Omega.{arith}
use Rattle.std.proofs.Math.Nat.{pow-le-pow_right, pow-suc, one-le-pow}
use Rattle.octets.specs.Numbers.{byte_at, number_at}
use Rattle.octets.proofs.NumberLaws.{number_beyond}
use Rattle.octets.proofs.number.Goals as goal

-- a number of fewer than eight bytes, and a byte in front
fits_more : (n number b : ℕ) → n < 8 → number < 256 ^ n → b < 256 → number * 256 + b < 2 ^ 64
fits_more n number b h l f = omega (arith, pow-le-pow_right {n = 256} (omega arith) {i = n} {j = 7} (omega arith))

-- with a byte in front it has one more
more : (m k at : ℕ) (s : List ℕ) (number b : ℕ) → 0 < k → k ≤ m → number ≡ number_at (m - k) s (at + k) → b ≡ byte_at s (at + (k - 1))
    → number * 256 + b ≡ number_at (m - (k - 1)) s (at + (k - 1))
more m k at s number b p h e d =
    let n : m - (k - 1) ≡ suc (m - k) = omega arith in
    let i : at + (k - 1) + 1 ≡ at + k = omega arith in
    rw (n, i, ← e, ← d) (omega arith)

below : (m k number b : ℕ) → 0 < k → k ≤ m → number < 256 ^ (m - k) → b < 256 → number * 256 + b < 256 ^ (m - (k - 1))
below m k number b p h l f =
    let n : m - (k - 1) ≡ suc (m - k) = omega arith in
    rw n (omega (arith, pow-suc 256 (m - k)))

-- with none in front it is the number itself
all : (m k at : ℕ) (s : List ℕ) → k ≡ 0 → number_at (m - k) s (at + k) ≡ number_at m s at
all m k at s e =
    let n : m - k ≡ m = omega arith in
    let i : at + k ≡ at = omega arith in
    rw (n, i) refl

pub returns-then-s-at-clause-value : goal.returns-then-s-at-clause-value
returns-then-s-at-clause-value g c = sym (number_beyond (min g.row.N 8) c.args.s.now c.args.at c.if-s-at.true)

pub returns-then-s-at-clause-upper_bound : goal.returns-then-s-at-clause-upper_bound
returns-then-s-at-clause-upper_bound g c = one-le-pow (min g.row.N 8) 256 (omega arith)

pub loop-k-init : goal.loop-k-init
loop-k-init g c =
    let n : min g.row.N 8 - c.min-k.result ≡ 0 = omega (arith, c.min-k.ensures) in
    rw n (omega (arith, c.min-k.ensures), refl, (omega arith))

pub overflow_mul-number : goal.overflow_mul-number
overflow_mul-number g c = record { fits = omega (arith, fits_more (min g.row.N 8 - c.loop-k.k) c.loop-k.number 0 (omega arith) c.loop-k.invariant.2 (omega arith)) }

pub overflow_add-number : goal.overflow_add-number
overflow_add-number g c = record { fits = omega (arith, fits_more (min g.row.N 8 - c.loop-k.k) c.loop-k.number c.from.result (omega arith) c.loop-k.invariant.2 (omega (arith, c.from.ensures, c.byte.type_inv))) }

pub loop-k-preserved : goal.loop-k-preserved
loop-k-preserved g c = (
  omega (arith, c.loop-k.invariant.0),
  more (min g.row.N 8) c.loop-k.k c.args.at c.args.s.now c.loop-k.number c.from.result c.loop-k-test.true c.loop-k.invariant.0 c.loop-k.invariant.1 (c.from.ensures ∙ c.byte.ensures),
  below (min g.row.N 8) c.loop-k.k c.loop-k.number c.from.result c.loop-k-test.true c.loop-k.invariant.0 c.loop-k.invariant.2 (omega (arith, c.from.ensures, c.byte.type_inv)),
)

pub returns-clause-value : goal.returns-clause-value
returns-clause-value g c =
    let k : c.loop-k.k ≡ 0 = omega (arith, c.loop-k-test.false) in
    c.loop-k.invariant.1 ∙ all (min g.row.N 8) c.loop-k.k c.args.at c.args.s.now k

pub returns-clause-upper_bound : goal.returns-clause-upper_bound
returns-clause-upper_bound g c =
    let k : min g.row.N 8 - c.loop-k.k ≡ min g.row.N 8 = omega (arith, c.loop-k-test.false) in
    rw k at c.loop-k.invariant.2
