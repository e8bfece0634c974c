use Rattle.std.proofs.Common.{◌≡◌, ℕ, suc, ◌+◌, ◌-◌, ◌/◌, ◌%◌, ◌<◌, ◌≤◌, List, ◌++◌, length, slice_set, take, sym, ap, ap₂, ◌∙◌}
use native.Mathlib.Omega.{arith}
use lib.Seq.{take-suc-set, append_snoc}
use Rattle.std.proofs.lemmas.List.{length-replicate, length-set, take_all, append-nil}
use Rattle.octets.specs.Numbers.{bytes_of}
use Rattle.octets.proofs.bytes.Goals as goal

-- one byte more is made
next : (n i v : ℕ) (made all : List ℕ) → i < n → length made ≡ n → take i made ++ bytes_of (n - i) v ≡ all
    → take (i + 1) (slice_set made i (v % 256)) ++ bytes_of (n - (i + 1)) (v / 256) ≡ all
next n i v made all h l e =
    let more : n - i ≡ suc (n - (i + 1)) = omega arith in
    let step : i + 1 ≡ suc i = omega arith in
    ap (λ (k : ℕ). take k (slice_set made i (v % 256)) ++ bytes_of (n - (i + 1)) (v / 256)) step
    ∙ ap (λ (xs : List ℕ). xs ++ bytes_of (n - (i + 1)) (v / 256)) (take-suc-set made i (v % 256) (omega (arith, l)))
    ∙ append_snoc (take i made) (v % 256) (bytes_of (n - (i + 1)) (v / 256))
    ∙ ap (λ (k : ℕ). take i made ++ bytes_of k v) (sym more)
    ∙ e

-- all are made
done : (n i v : ℕ) (made all : List ℕ) → n ≤ i → length made ≡ n → take i made ++ bytes_of (n - i) v ≡ all → made ≡ all
done n i v made all h l e =
    let none : n - i ≡ 0 = omega arith in
    sym (append-nil made) ∙ ap₂ (λ (xs : List ℕ) (k : ℕ). xs ++ bytes_of k v) (sym (take_all i made (omega (arith, l)))) (sym none) ∙ e

pub loop-byte-init : goal.loop-byte-init
loop-byte-init g c = (length-replicate g.row.N 0, ap (λ (k : ℕ). bytes_of k c.args.number) (omega arith))

pub loop-byte-preserved : goal.loop-byte-preserved
loop-byte-preserved g c = (
  length-set c.loop-byte.byte-items c.loop-byte.byte-index _ ∙ c.loop-byte.invariant.0,
  next g.row.N c.loop-byte.byte-index c.loop-byte.rest c.loop-byte.byte-items _ c.loop-byte-test.true c.loop-byte.invariant.0 c.loop-byte.invariant.1,
)

pub returns : goal.returns
returns g c = done g.row.N c.loop-byte.byte-index c.loop-byte.rest c.loop-byte.byte-items _ c.loop-byte-test.false c.loop-byte.invariant.0 c.loop-byte.invariant.1
