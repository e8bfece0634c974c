use Rattle.std.proofs.Common.{◌≡◌, ℕ, List, [], ◌∷◌, ◌++◌, refl, subst, rules}
use Rattle.std.proofs.lemmas.Fn.{fold_over, slice_gives, fronts}
use Rattle.program_tools.specs.Made.{summed_with, sum_from}
use Rattle.program_tools.proofs.made.sum.Goals as goal

-- with one byte more at the end
more : (s : List ℕ) (total b : ℕ) → sum_from total (s ++ b ∷ []) ≡ summed_with (sum_from total s) b
more [] total b = refl
more (a ∷ s) total b = more s (summed_with total a) b

pub returns : goal.returns
returns c =
    subst (λ s. c.fold.result ≡ sum_from 0 s) c.iter.ensures.rest
    (fold_over fronts (λ y. y.now) _ (λ s total. total ≡ sum_from 0 s) _
    (λ s total b next f' j k. let last = more s 0 b.now in search rules)
    _ _ _ _ (slice_gives c.iter.result) refl c.fold.ensures.ran)
