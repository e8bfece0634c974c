-- `program_tools::input::read_full` meets its contract: each read goes behind what is read, and is what the reader gives next.
-- Assumes nothing.
use Rattle.std.proofs.Common.{◌≡◌, ℕ, ◌+◌, ◌-◌, ◌≤◌, List, ◌++◌, rules, length, take, sym, ap, ◌∙◌, subst, le_refl, drop_at, length-take-le}
use Rattle.std.proofs.lemmas.Slice.{take-put_mid_below}
use Rattle.std.specs.Io.KnownBytes.{Consumes}
use Rattle.std.proofs.KnownBytes.{Consumes-trans}
use borrow.Rule.Slice.PartMut.{put_mid, post_of}
use lib.Seq.{take-add, take-append-le}
use Rattle.program_tools.proofs.input.read_full.Goals as goal

-- the first bytes, and behind them those of a part that is put there
joined : (at k n : ℕ) (xs ys : List ℕ) → at ≤ length xs → n ≤ length ys → take at xs ++ take n ys ≡ take (at + n) (put_mid at k xs ys)
joined at k n xs ys within fits =
    let after = post_of at k xs in
    let new = put_mid at k xs ys in
    ap (λ (l : List ℕ). l ++ take n ys) (sym (take-put_mid_below _ _ _ _ _ (le_refl _) within))
    ∙ ap (λ (l : List ℕ). take at new ++ l) (sym (ap (take n) (drop_at (take at xs) (ys ++ after) at (length-take-le at xs within)) ∙ take-append-le n ys after fits))
    ∙ sym (take-add at n new)

pub loop-n-preserved : goal.loop-n-preserved
loop-n-preserved g c =
    let n = c.loop-n.n in
    let room = length c.loop-n.space - n in
    let within = c.loop-n.invariant.0 in (
      search rules,
      subst (Consumes _ _) (joined n room c.in-Ok.more c.loop-n.space c.read.new.buf within c.in-Ok.ensures.bound.0)
          (Consumes-trans _ _ _ _ _ c.loop-n.invariant.1 c.in-Ok.ensures.bytes.0),
    )
