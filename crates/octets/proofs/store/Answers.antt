-- `octets::store` meets its contract.
-- Assumes nothing.
use Rattle.std.proofs.Common.{◌≡◌, ℕ, ◌≤◌, ◌<◌, ◌+◌, List, length, get_or, set, length-set, sym, ap, ◌∙◌, arith, add-one}
use Rattle.std.proofs.Math.Seq.{paste, paste-suc, take-length}
use Rattle.octets.specs.Runs.{put_in}
use Rattle.octets.proofs.store.Goals as goal

turn : (out : List ℕ) (at : ℕ) (run o : List ℕ) (i : ℕ) → o ≡ paste out at run i → at + length run ≤ length out → i < length run
    → set o (at + i) (get_or run i 0) ≡ paste out at run (i + 1)
turn out at run o i e r h = ap (λ (l : List ℕ). set l (at + i) (get_or run i 0)) e ∙ paste-suc out at run i 0 (omega arith) h ∙ ap (paste out at run) (sym (add-one i))

done : (out : List ℕ) (at : ℕ) (run : List ℕ) (i : ℕ) → i ≡ length run → paste out at run i ≡ put_in out at run
unfolding put_in
done out at run i e = rw (e, take-length)

pub loop-k-preserved : goal.loop-k-preserved
loop-k-preserved c =
    let a = c.args in
    (turn a.out.now a.at a.run.now c.loop-k.out c.loop-k.k c.loop-k.invariant.0 c.requires (omega arith), simp length-set c.loop-k.invariant.1)

pub returns : goal.returns
returns c =
    let a = c.args in
    c.loop-k.invariant.0 ∙ done a.out.now a.at a.run.now c.loop-k.k (omega arith)
