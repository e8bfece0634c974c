-- `report::number::put_digits` meets its contract: from place i on the last digits stand, and `rest` is what is left behind them.
-- Assumes nothing.
use mathlib.Core.Path.{◌≡◌, refl, sym, ap, ap₂, ◌∙◌}
use mathlib.Core.List.{List}
use Prim.Native.Nat.{ℕ, suc, ◌+◌, ◌-◌, ◌/◌, ◌%◌, ◌^◌, ◌≤◌, ◌<◌}
use native.Mathlib.Nat.{div-one}
use native.Mathlib.Omega.{arith}
use lib.ListN.{length, set, length-set}
use Rattle.octets.specs.Runs.{put_in}
use Rattle.report.specs.Decimal.{digits}
use Rattle.report.proofs.DigitLaws.{digits_long, digits_first, rest_more}
use Rattle.octets.proofs.RunLaws.{put_nothing, put_front}
use Rattle.report.proofs.number.put_digits.Goals as goal

-- the last d digits stand from a place on, and what is left
abbrev Stand : List ℕ → ℕ → ℕ → ℕ → List ℕ → ℕ → Type 0
Stand out₀ at d n out rest = (rest ≡ n / 10 ^ d) × (out ≡ put_in out₀ at (digits d n))

-- no digit yet
begin : (out : List ℕ) (at k n : ℕ) → Stand out (at + k) (k - k) n out n
begin out at k n = let e : k - k ≡ 0 = omega arith in rw e (sym (div-one n), sym (put_nothing out (at + k)))

-- one digit more
more : (out₀ : List ℕ) (at d n : ℕ) (out : List ℕ) (rest : ℕ) → suc at + d ≤ length out₀ → Stand out₀ (suc at) d n out rest
    → Stand out₀ at (suc d) n (set out at (48 + rest % 10)) (rest / 10)
more out₀ at d n out rest h (left, stands) = (
  ap (λ (r : ℕ). r / 10) left ∙ rest_more n d,
  ap₂ (λ (o : List ℕ) (r : ℕ). set o at (48 + r % 10)) stands left
      ∙ put_front out₀ at (digits d n) (48 + n / 10 ^ d % 10) (omega (arith, digits_long d n))
      ∙ ap (put_in out₀ at) (sym (digits_first d n)),
)

-- .. as a turn of the loop writes it
turn : (out₀ : List ℕ) (at k n i : ℕ) (out : List ℕ) (rest : ℕ) → at + k ≤ length out₀ → 0 < i → i ≤ k → Stand out₀ (at + i) (k - i) n out rest
    → Stand out₀ (at + (i - 1)) (k - (i - 1)) n (set out (at + (i - 1)) (48 + rest % 10)) (rest / 10)
turn out₀ at k n i out rest h some by s =
    let a : at + i ≡ suc (at + (i - 1)) = omega arith in
    let b : k - (i - 1) ≡ suc (k - i) = omega arith in
    rw b (more out₀ (at + (i - 1)) (k - i) n out rest (omega arith) (rw a at s))

-- all digits
all : (out₀ : List ℕ) (at k n i : ℕ) (out : List ℕ) (rest : ℕ) → i ≡ 0 → Stand out₀ (at + i) (k - i) n out rest
    → out ≡ put_in out₀ at (digits k n)
all out₀ at k n i out rest e s =
    let a : at + i ≡ at = omega arith in
    let b : k - i ≡ k = omega arith in
    s.1 ∙ ap₂ (λ (p d : ℕ). put_in out₀ p (digits d n)) a b

pub loop-i-init : goal.loop-i-init
loop-i-init c = let a = c.args in let s = begin a.out.now a.at a.k a.n in (omega arith, refl, s.0, s.1)

pub loop-i-preserved : goal.loop-i-preserved
loop-i-preserved c =
    let a = c.args in
    let l = c.loop-i in
    let s = turn a.out.now a.at a.k a.n l.i l.out l.rest c.requires (omega arith) (omega arith) (l.invariant.2, l.invariant.3) in
    (omega arith, simp length-set l.invariant.1, s.0, s.1)

pub returns : goal.returns
returns c =
    let a = c.args in
    let l = c.loop-i in
    let none : l.i ≡ 0 = omega arith in
    all a.out.now a.at a.k a.n l.i l.out l.rest none (l.invariant.2, l.invariant.3)
