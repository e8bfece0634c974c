-- What flags ask for, by a match on them, is what the definition says.
-- Assumes nothing.
use native.Mathlib.Omega.{arith}
use borrow.Author.Tests.{ne_eqb}
use Rattle.reason.specs.Order.{first_of}
use Rattle.request.proofs.AsksTryFromU8.try_from.Goals as goal

pub returns-in-16 : goal.returns-in-16
unfolding first_of
returns-in-16 c = simp c.in-16.is

pub returns-in-17 : goal.returns-in-17
unfolding first_of
returns-in-17 c = simp c.in-17.is

pub returns-in_default : goal.returns-in_default
unfolding first_of
returns-in_default c = simp (ne_eqb c.args.flags 16 (λ e. omega arith), ne_eqb c.args.flags 17 (λ e. omega arith))
