-- Steps of runs of positions that become held: a run told of fewer positions, and one more behind those so far.
-- Assumes nothing.
use mathlib.Core.Path.{◌≡◌, refl, sym, ap, ap₂, ◌∙◌, subst}
use mathlib.Core.Bool.{Bool, not, ◌&&◌, ◌||◌, and_assoc}
use mathlib.Core.List.{List}
use Prim.Native.Nat.{ℕ, ◌+◌, ◌-◌, ◌≤◌, ◌<◌}
use native.Mathlib.Nat.{add-zero, zero-add}
use native.Mathlib.Omega.{arith}
use Rattle.positions.specs.Spans.{within, count}
use Rattle.positions.specs.Map.{held}
use Rattle.positions.proofs.SpanLaws.{in_span, before_span, behind_span, by_span, count_zero, count_split, count_same}
use Rattle.runs.specs.Inner.{MapRun}
use Rattle.runs.proofs.MarkLaws.{run_then, run_most}

-- ---- how many of some positions within others
count_within : (t : ℕ → Bool) (p n a k : ℕ) → p ≤ a → a + k ≤ p + n → count (λ q. within a k q && t q) p n ≡ count t a k
count_within t p n a k low high =
    let u : ℕ → Bool = λ q. within a k q && t q in
    let front : n ≡ (a - p) + (k + (p + n - (a + k))) = omega arith in
    let place : p + (a - p) ≡ a = omega arith in
    ap (count u p) front
    ∙ count_split u p (a - p) (k + (p + n - (a + k)))
    ∙ ap₂ (λ (x y : ℕ). x + y)
    (count_zero u p (a - p) (λ q l g. rw (before_span a k q (omega arith)) refl))
    (ap (λ (q : ℕ). count u q (k + (p + n - (a + k)))) place ∙ count_split u a k (p + n - (a + k)) ∙ ap₂ (λ (x y : ℕ). x + y)
    (count_same u t a k (λ q l g. rw (in_span a k q l g) refl))
    (count_zero u (a + k) (p + n - (a + k)) (λ q l g. rw (behind_span a k q l) refl)) ∙ add-zero (count t a k))
    ∙ zero-add (count t a k)

-- a run that tells only some of its positions is a run of these
pub run_narrow : (m : List ℕ) (has : ℕ → Bool) (p n : ℕ) (m' : List ℕ) (r : ℕ) → MapRun m has p n m' r
    → (also : ℕ → Bool) (a k : ℕ) → p ≤ a → a + k ≤ p + n → ((q : ℕ) → p ≤ q → q < p + n → has q ≡ (within a k q && also q))
    → MapRun m also a k m' r
run_narrow m has p n m' r run also a k low high same = record {
  long = run.long;
  bytes = run.bytes;
  holds = λ q h. run.holds q h ∙ by_span p n q
      (λ l g. rw (in_span p n q l g) (ap (λ (b : Bool). held m q || b) (same q l g)))
      (λ g. rw (before_span p n q g, before_span a k q (omega arith)) refl)
      (λ g. rw (behind_span p n q g, behind_span a k q (omega arith)) refl);
  new =
      run.new
      ∙ count_same (λ q. has q && not (held m q)) (λ q. within a k q && (also q && not (held m q))) p n
      (λ q l g. ap (λ (b : Bool). b && not (held m q)) (same q l g) ∙ and_assoc (within a k q) (also q) (not (held m q)))
      ∙ count_within (λ q. also q && not (held m q)) p n a k low high;
}

-- ---- some more behind those so far, as a loop meets them
module _ (m : List ℕ) (has : ℕ → Bool) (at n : ℕ) (m' : List ℕ) (r : ℕ) (run : MapRun m has at n m' r) (p k l : ℕ) (a : at + n ≡ p) (e : n + k ≡ l) where
  pub runs_on : (m'' : List ℕ) (r' : ℕ) → MapRun m' has p k m'' r' → MapRun m has at l m'' (r + r')
  runs_on m'' r' next =
      subst (λ (i : ℕ). MapRun m has at i m'' (r + r')) e
      (run_then m has at n m' r run k m'' r' (subst (λ (q : ℕ). MapRun m' has q k m'' r') (sym a) next))

  pub runs_most : (m'' : List ℕ) (r' : ℕ) → MapRun m' has p k m'' r' → r + r' ≤ l
  runs_most m'' r' next = run_most m has at l m'' (r + r') (runs_on m'' r' next)
