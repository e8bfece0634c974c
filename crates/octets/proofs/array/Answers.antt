use Rattle.std.proofs.Common.{◌≡◌, ℕ, zero, suc, ◌+◌, ◌<◌, ◌≤◌, List, [], ◌∷◌, ◌++◌, length, slice_set, take, replicate, refl, sym, ap, ap₂, ◌∙◌}
use native.Mathlib.Omega.{arith}
use lib.Seq.{take-suc-set}
use lib.ListN.{get_or-eq_default}
use Rattle.std.proofs.lemmas.List.{length-replicate, length-set, take_all}
use Rattle.octets.specs.Numbers.{byte_at}
use Rattle.octets.specs.Values.{values_from}
use Rattle.octets.proofs.ValueLaws.{values_more}
use Rattle.octets.proofs.array.Goals as goal

-- beyond the end all are 0
none : (n : ℕ) (s : List ℕ) (at : ℕ) → length s ≤ at → replicate n 0 ≡ values_from (byte_at s) at n
none zero s at h = refl
none (suc n) s at h = ap₂ ◌∷◌ (sym (get_or-eq_default s 0 h)) (none n s (suc at) (omega arith))

-- one byte more is read
next : (n k at b : ℕ) (s read : List ℕ) → k < n → length read ≡ n → take k read ≡ values_from (byte_at s) at k → b ≡ byte_at s (at + k)
    → take (k + 1) (slice_set read k b) ≡ values_from (byte_at s) at (k + 1)
next n k at b s read h l e d =
    let step : k + 1 ≡ suc k = omega arith in
    ap (λ (i : ℕ). take i (slice_set read k b)) step
    ∙ take-suc-set read k b (omega (arith, l))
    ∙ ap₂ (λ (xs : List ℕ) (x : ℕ). xs ++ x ∷ []) e d
    ∙ values_more (byte_at s) at k

pub loop-k-init : goal.loop-k-init
loop-k-init g c = (length-replicate g.row.N 0, refl)

pub loop-k-preserved : goal.loop-k-preserved
loop-k-preserved g c = (
  length-set c.loop-k.byte-items c.loop-k.k _ ∙ c.loop-k.invariant.0,
  next g.row.N c.loop-k.k c.args.at c.byte.result c.args.s.now c.loop-k.byte-items c.loop-k-test.true c.loop-k.invariant.0 c.loop-k.invariant.1 c.byte.ensures,
)

pub returns-after-loop-k : goal.returns-after-loop-k
returns-after-loop-k g c =
    let k : c.loop-k.k ≡ g.row.N = omega (arith, c.loop-k-test.false, c.loop-k.auto.k-end) in
    sym (take_all c.loop-k.k c.loop-k.byte-items (omega (arith, c.loop-k.invariant.0)))
    ∙ c.loop-k.invariant.1
    ∙ ap (values_from (byte_at c.args.s.now) c.args.at) k

pub returns-else-at-s : goal.returns-else-at-s
returns-else-at-s g c = none g.row.N c.args.s.now c.args.at c.if-at-s.false
