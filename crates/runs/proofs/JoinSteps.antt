-- Joining, a map byte at a time.
-- Assumes nothing.
use mathlib.Core.Path.{◌≡◌, sym, ap, ap₂, ◌∙◌, subst}
use mathlib.Core.Bool.{Bool, true, false, not, ◌&&◌, ◌||◌}
use mathlib.Core.Logic.{⊎_elim}
use mathlib.Core.List.{List}
use Prim.Native.Nat.{ℕ, ◌+◌, ◌-◌, ◌*◌, ◌/◌, ◌%◌, ◌^◌, ◌≤◌, ◌<◌}
use native.Mathlib.Nat.{sub-zero, zero-add}
use native.Mathlib.Omega.{arith}
use lib.Bits.{bit_and}
use lib.Count.{ones}
use lib.Pow.{pow_pos}
use lib.Dec.{eqb}
use lib.ListN.{length}
use borrow.Author.Tests.{not-true}
use Rattle.reason.proofs.Bools.{le_or_lt}
use Rattle.std.specs.List.{between}
use Rattle.std.proofs.lemmas.List.Edits.{length-between, get_or-between}
use Rattle.octets.specs.Numbers.{byte_at}
use Rattle.positions.specs.Spans.{within, every}
use Rattle.positions.specs.Map.{is_set, held}
use Rattle.positions.proofs.BitLaws.{set_none, set_and, set_low, set_high}
use Rattle.positions.proofs.SpanLaws.{in_span, behind_span, every_same, part_fails}
use Rattle.positions.proofs.MapLaws.{bit_of}
use Rattle.runs.proofs.Steps.{every_join, part_agrees}
use Rattle.runs.specs.Inner.{bit_agrees, both_agree, MapRun, BufferRun}
use Rattle.runs.proofs.MarkLaws.{later_same}
use Rattle.runs.proofs.RunSteps.{run_narrow}
use Rattle.runs.proofs.CopyLaws.{copy_nothing, copy_then, copy_told}

-- ---- agreeing
module _ (m b o d : List ℕ) where
  pub byte_agrees : (from end : ℕ) → from % 8 ≡ 0 → from ≤ end → end ≤ from + 8
      → every (bit_agrees (bit_and (byte_at m (from / 8)) (byte_at o (from / 8))) b 0 d from) from (end - from) ≡ every (both_agree m b o d) from (end - from)
  byte_agrees from end a low high =
      every_same (bit_agrees (bit_and (byte_at m (from / 8)) (byte_at o (from / 8))) b 0 d from) (both_agree m b o d) from (end - from)
      (λ q l g. ap₂ (λ (w : Bool) (x : ℕ). not w || eqb (byte_at b q) (byte_at d x)) (set_and (byte_at m (from / 8)) (byte_at o (from / 8)) (q - from) ∙ ap₂ ◌&&◌ (bit_of m from q a l (omega arith)) (bit_of o from q a l (omega arith))) (sub-zero q))

  -- where a call answered that they do not, no more positions do
  pub byte_fails : (from end n : ℕ) → from % 8 ≡ 0 → from ≤ end → end ≤ from + 8 → end ≤ n
      → (r : Bool) → r ≡ every (bit_agrees (bit_and (byte_at m (from / 8)) (byte_at o (from / 8))) b 0 d from) from (end - from) → not r ≡ true
      → every (both_agree m b o d) 0 n ≡ false
  byte_fails from end n a low high h r e f =
      part_fails (both_agree m b o d) 0 n from (end - from) (omega arith) (omega arith) (sym (byte_agrees from end a low high) ∙ sym e ∙ not-true r f)

  -- .. of the parts of both buffers that have those positions
  pub byte_asked : (from end : ℕ) → from % 8 ≡ 0 → from ≤ end → end ≤ from + 8 → end ≤ length b → end ≤ length d
      → every (bit_agrees (bit_and (byte_at m (from / 8)) (byte_at o (from / 8))) (between from end b) 0 (between from end d) 0) 0 (length (between from end b))
      ≡ every (both_agree m b o d) from (end - from)
  byte_asked from end a low high here there =
      let both = bit_and (byte_at m (from / 8)) (byte_at o (from / 8)) in
      let s = between from end b in
      let t = between from end d in
      ap (every (bit_agrees both s 0 t 0) 0) (length-between b from end here)
      ∙ part_agrees both b 0 d from (end - from) s t (omega arith) (λ k h. get_or-between b from end k 0 (omega arith)) (λ k h. let e : from + k ≡ from - 0 + k = omega arith in get_or-between d from end k 0 (omega arith) ∙ ap (byte_at d) e)
      ∙ byte_agrees from end a low high

  -- .. of whole map bytes, and of what is left
  pub bytes_and_rest : (n : ℕ) → (every (both_agree m b o d) 0 (n / 8 * 8) && every (both_agree m b o d) (n / 8 * 8) (n - n / 8 * 8)) ≡ every (both_agree m b o d) 0 n
  bytes_and_rest n =
      let e : n / 8 * 8 + (n - n / 8 * 8) ≡ n = omega arith in
      ap (λ (p : ℕ). every (both_agree m b o d) 0 (n / 8 * 8) && every (both_agree m b o d) p (n - n / 8 * 8)) (sym (zero-add (n / 8 * 8)))
      ∙ sym (every_join (both_agree m b o d) 0 (n / 8 * 8) (n - n / 8 * 8))
      ∙ ap (every (both_agree m b o d) 0) e

  -- .. by what calls answered of them
  pub by_bytes : (n : ℕ) (r q : Bool) → r ≡ every (both_agree m b o d) 0 (n / 8 * 8) → q ≡ every (both_agree m b o d) (n / 8 * 8) (n - n / 8 * 8)
      → (r && q) ≡ every (both_agree m b o d) 0 n
  by_bytes n r q e f = ap₂ ◌&&◌ e f ∙ bytes_and_rest n

-- where no bit is new, none is counted
pub none_new : (m : List ℕ) (has : ℕ → Bool) (p n : ℕ) (m' : List ℕ) (new : ℕ) → MapRun m has p n m' (ones new) → new ≡ 0 → MapRun m has p n m' 0
unfolding ones
none_new m has p n m' new run e = rw e at run

-- ---- adding the positions from the first of a map byte on and below an end
module _ (m o : List ℕ) (from end theirs : ℕ) (a : from % 8 ≡ 0) (low : from ≤ end) (high : end ≤ from + 8) (is : theirs ≡ byte_at o (from / 8) % 2 ^ (end - from)) where
  place : from / 8 * 8 ≡ from
  place = omega arith

  -- the second's bits of them
  theirs_at : (q : ℕ) → from ≤ q → q < from + 8 → is_set theirs (q - from) ≡ (within from (end - from) q && held o q)
  theirs_at q l g =
      ap (λ (x : ℕ). is_set x (q - from)) is
      ∙ ⊎_elim
      (λ h. rw (behind_span from (end - from) q (omega arith)) (set_high (end - from) (byte_at o (from / 8) % 2 ^ (end - from)) (q - from) (omega (arith, pow_pos (end - from))) (omega arith)))
      (λ h. rw (in_span from (end - from) q l (omega arith)) (set_low (end - from) (byte_at o (from / 8)) (q - from) (omega arith) ∙ bit_of o from q a l g))
      (le_or_lt end q)

  pub byte_held : (m' : List ℕ) (r : ℕ) → MapRun m (λ q. is_set theirs (q - from / 8 * 8)) (from / 8 * 8) 8 m' r → MapRun m (held o) from (end - from) m' r
  byte_held m' r run =
      run_narrow m (λ q. is_set theirs (q - from / 8 * 8)) (from / 8 * 8) 8 m' r run (held o) from (end - from) (omega arith) (omega arith)
      (λ q l g. ap (λ (p : ℕ). is_set theirs (q - p)) place ∙ theirs_at q (omega arith) (omega arith))

  -- .. and those of them that are new
  module _ (new : ℕ) (fresh : (k : ℕ) → k < 8 → is_set new k ≡ (is_set theirs k && not (held m (from / 8 * 8 + k)))) where
    new_at : (q : ℕ) → from ≤ q → q < from + (end - from) → is_set new (q - from) ≡ (held o q && not (held m q))
    new_at q l g =
        let e : from / 8 * 8 + (q - from) ≡ q = omega arith in
        fresh (q - from) (omega arith)
        ∙ ap₂ (λ (b : Bool) (p : ℕ). b && not (held m p)) (theirs_at q l (omega arith)) e
        ∙ ap (λ (b : Bool). b && held o q && not (held m q)) (in_span from (end - from) q l g)

    pub byte_copied : (d b b' : List ℕ) → BufferRun (λ q. is_set new (q - from)) d b from (end - from) b'
        → BufferRun (λ q. held o q && not (held m q)) d b from (end - from) b'
    byte_copied d b b' run = copy_told (λ q. is_set new (q - from)) d b from (end - from) b' run (λ q. held o q && not (held m q)) new_at

    pub byte_not_copied : new ≡ 0 → (d b : List ℕ) → BufferRun (λ q. held o q && not (held m q)) d b from (end - from) b
    byte_not_copied none d b =
        byte_copied d b b (copy_nothing (λ q. is_set new (q - from)) d b from (end - from) (λ q l g. ap (λ (x : ℕ). is_set x (q - from)) none ∙ set_none (q - from)))

-- ---- some more behind those so far
module _ (m o : List ℕ) (at n : ℕ) (m' : List ℕ) (r : ℕ) (run : MapRun m (held o) at n m' r) (p k l : ℕ) (a : at + n ≡ p) (e : n + k ≡ l) where
  -- what is new behind them was so before
  new_same : (q : ℕ) → p ≤ q → q < p + k → (held o q && not (held m' q)) ≡ (held o q && not (held m q))
  new_same q l g = ap (λ (y : Bool). held o q && not y) (later_same m (held o) at n m' r run q (omega arith))

  pub copies_on : (d b b' b'' : List ℕ) → BufferRun (λ q. held o q && not (held m q)) d b at n b'
      → BufferRun (λ q. held o q && not (held m' q)) d b' p k b'' → BufferRun (λ q. held o q && not (held m q)) d b at l b''
  copies_on d b b' b'' copied next =
      let new : ℕ → Bool = λ q. held o q && not (held m q) in
      subst (λ (i : ℕ). BufferRun new d b at i b'') e
      (copy_then new d b at n b' copied k b'' (subst (λ (x : ℕ). BufferRun new d b' x k b'') (sym a)
      (copy_told (λ q. held o q && not (held m' q)) d b' p k b'' next new new_same)))
