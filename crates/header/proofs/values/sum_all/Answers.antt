-- `header::values::sum_all` meets its contract: the sum that wraps at each byte is the sum of all modulo 65,536.
-- Assumes nothing.
use Rattle.std.proofs.Common.{◌≡◌, refl, ◌∙◌, ℕ, ◌+◌, ◌%◌, arith, rules}
use Rattle.std.specs.List.{fold}
use Rattle.std.proofs.lemmas.List.Folds.{fold_along}
use Rattle.header.proofs.values.sum_all.Goals as goal

abbrev wrapping : ℕ → ℕ → ℕ
wrapping n b = (n + b) % 65536

pub returns : goal.returns
returns c =
    let turns : c.fold.result ≡ fold wrapping 0 c.args.s.now = search rules in
    turns ∙ fold_along wrapping ◌+◌ (λ m n. m ≡ n % 65536) (λ m n b e. omega arith) 0 0 c.args.s.now refl
