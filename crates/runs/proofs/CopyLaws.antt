-- Laws of runs of bytes that are copied: nothing, one byte, and two runs one after the other.
-- Assumes nothing.
use mathlib.Core.Path.{◌≡◌, refl, sym, ap, ◌∙◌, subst}
use mathlib.Core.Bool.{Bool, true, false, cond, ◌&&◌, ◌||◌}
use mathlib.Core.List.{List}
use Prim.Native.Nat.{ℕ, ◌+◌, ◌-◌, ◌≤◌, ◌<◌}
use native.Mathlib.Omega.{arith}
use lib.ListN.{length, set, length-set}
use lib.Seq.{get_or-set_same, get_or-set_other}
use lib.Dec.{eqb}
use borrow.Author.Tests.{eqb-true, eqb-false}
use Rattle.std.specs.List.{between}
use Rattle.std.proofs.lemmas.List.Edits.{length-between, get_or-between}
use borrow.Rule.Slice.PartMut.{put_mid}
use Rattle.octets.specs.Numbers.{byte_at}
use Rattle.octets.specs.Values.{values_from}
use Rattle.octets.specs.Runs.{put_in, Put}
use Rattle.octets.proofs.ValueLaws.{value_at, values_long}
use Rattle.octets.proofs.RunLaws.{put_fits, put_copied, put_length, put_before, put_within, put_after}
use Rattle.positions.specs.Spans.{within}
use Rattle.positions.proofs.SpanLaws.{in_span, before_span, behind_span, by_span, no_between, span_join, span_one}
use Rattle.runs.specs.Inner.{BufferRun}

pub copy_nothing : (new : ℕ → Bool) (from b : List ℕ) (p n : ℕ) → ((q : ℕ) → p ≤ q → q < p + n → new q ≡ false) → BufferRun new from b p n b
copy_nothing new from b p n none = record {
  long = refl;
  bytes = λ q _. by_span p n q
      (λ l g. rw (in_span p n q l g, none q l g))
      (λ g. rw (before_span p n q g))
      (λ g. rw (behind_span p n q g));
}

-- .. of no position
pub copy_none : (new : ℕ → Bool) (from b : List ℕ) (p : ℕ) → BufferRun new from b p 0 b
copy_none new from b p = copy_nothing new from b p 0 (λ q l g. absurd (no_between p q l (omega arith)))

one_by : (new : ℕ → Bool) (from b : List ℕ) (p q : ℕ) → p < length b → (w : Bool) → eqb q p ≡ w
    → byte_at (set b p (cond (new p) (byte_at from p) (byte_at b p))) q ≡ cond (w && new q) (byte_at from q) (byte_at b q)
one_by new from b p q h true e =
    let s : q ≡ p = eqb-true q p e in
    rw s (get_or-set_same b p (cond (new p) (byte_at from p) (byte_at b p)) 0 h)
one_by new from b p q h false e = get_or-set_other b p q (cond (new p) (byte_at from p) (byte_at b p)) 0 (eqb-false q p e)

pub copy_one : (new : ℕ → Bool) (from b : List ℕ) (p : ℕ) → p < length b
    → BufferRun new from b p 1 (set b p (cond (new p) (byte_at from p) (byte_at b p)))
copy_one new from b p h = record {
  long = length-set b p (cond (new p) (byte_at from p) (byte_at b p));
  bytes =
      λ q _. one_by new from b p q h (eqb q p) refl ∙ ap (λ (w : Bool). cond (w && new q) (byte_at from q) (byte_at b q)) (sym (span_one p q));
}

-- a run behind another
then_by : (w v a : Bool) (x y : ℕ) → cond (v && a) x (cond (w && a) x y) ≡ cond ((w || v) && a) x y
then_by true true a x y = by a
  where
    by : (a : Bool) → cond a x (cond a x y) ≡ cond a x y
    by true = refl
    by false = refl
then_by true false a x y = refl
then_by false true a x y = refl
then_by false false a x y = refl

module _ (new : ℕ → Bool) (from b : List ℕ) (p n : ℕ) (b' : List ℕ) (run : BufferRun new from b p n b') where
  -- the same run, told by another test that agrees with it there
  pub copy_told : (also : ℕ → Bool) → ((q : ℕ) → p ≤ q → q < p + n → new q ≡ also q) → BufferRun also from b p n b'
  copy_told also same = record {
    long = run.long;
    bytes = λ q h. run.bytes q h ∙ by_span p n q
        (λ l g. ap (λ (a : Bool). cond (within p n q && a) (byte_at from q) (byte_at b q)) (same q l g))
        (λ g. rw (before_span p n q g))
        (λ g. rw (behind_span p n q g));
  }

  pub copy_then : (k : ℕ) (b'' : List ℕ) → BufferRun new from b' (p + n) k b'' → BufferRun new from b p (n + k) b''
  copy_then k b'' next = record {
    long = next.long ∙ run.long;
    bytes = λ q h. next.bytes q (let e = run.long in omega arith)
        ∙ ap (λ (y : ℕ). cond (within (p + n) k q && new q) (byte_at from q) y) (run.bytes q h)
        ∙ then_by (within p n q) (within (p + n) k q) (new q) (byte_at from q) (byte_at b q)
        ∙ ap (λ (w : Bool). cond (w && new q) (byte_at from q) (byte_at b q)) (span_join p n k q);
  }

-- what is copied in a part of a buffer is copied in the buffer
pub copy_part : (new : ℕ → Bool) (d b : List ℕ) (p end : ℕ) (s : List ℕ) → p ≤ end → end ≤ length b → end ≤ length d
    → BufferRun new (between p end d) (between p end b) 0 (length (between p end b)) s → BufferRun (λ q. new (q - p)) d b p (end - p) (put_mid p (end - p) b s)
copy_part new d b p end s low here there run =
    let size = length-between b p end here in
    let long : end - p ≡ length s = sym (run.long ∙ size) in
    let room : p + length s ≤ length b = omega (arith, long) in
    let is : put_mid p (end - p) b s ≡ put_in b p s = (put_fits b p s true _ (put_copied b p (end - p) s s room long refl) room).1 in
    rw is record {
      long = put_length b p s room;
      bytes = λ q _. by_span p (end - p) q
          (λ l g. let e : p + (q - p) ≡ q = omega arith in
          let k : p + (q - p) < end = omega arith in
          let i : q - p < length (between p end b) = omega (arith, size) in
          ap (byte_at (put_in b p s)) (sym e) ∙ put_within b p s room (q - p) (omega (arith, long)) ∙ run.bytes (q - p) i
          ∙ rw (in_span 0 (length (between p end b)) (q - p) (omega arith) (omega arith), in_span p (end - p) q l g, get_or-between d p end (q - p) 0 k, get_or-between b p end (q - p) 0 k, e) refl)
          (λ g. rw (before_span p (end - p) q g) (put_before b p s room q g))
          (λ g. let e : p + length s + (q - (p + length s)) ≡ q = omega (arith, long) in
          rw (behind_span p (end - p) q g) (ap (byte_at (put_in b p s)) (sym e) ∙ put_after b p s room (q - (p + length s)) ∙ ap (byte_at b) e));
    }

-- all of a list
pub copy_all : (d b : List ℕ) (n : ℕ) → length d ≡ length b → length b ≡ n → BufferRun (λ q. true) d b 0 n d
copy_all d b n long size = record { long = long; bytes = λ q h. rw (in_span 0 n q (omega arith) (omega arith)) refl }

-- a run of bytes that stand at the same places is written
module _ (d b : List ℕ) (p n : ℕ) (x : List ℕ) (h : p + n ≤ length b) (is : x ≡ values_from (λ k. byte_at d (p + k)) 0 n) where
  size : length x ≡ n
  size = ap length is ∙ values_long (λ k. byte_at d (p + k)) 0 n

  room : p + length x ≤ length b
  room = let e = size in omega arith

  put_copies : BufferRun (λ q. true) d b p n (put_in b p x)
  put_copies = record {
    long = put_length b p x room;
    bytes = λ q _. by_span p n q
        (λ l g. let e : p + (q - p) ≡ q = omega arith in
        let s = size in
        rw (in_span p n q l g) (ap (byte_at (put_in b p x)) (sym e) ∙ put_within b p x room (q - p) (omega arith) ∙ ap (λ (y : List ℕ). byte_at y (q - p)) is ∙ value_at (λ k. byte_at d (p + k)) 0 n (q - p) (omega arith) ∙ ap (byte_at d) e))
        (λ g. rw (before_span p n q g) (put_before b p x room q g))
        (λ g. let s = size in
        let e : p + length x + (q - (p + length x)) ≡ q = omega arith in
        rw (behind_span p n q g) (ap (byte_at (put_in b p x)) (sym e) ∙ put_after b p x room (q - (p + length x)) ∙ ap (byte_at b) e));
  }

  pub copy_put : (r : Bool) (b' : List ℕ) → Put b p x r b' → BufferRun (λ q. true) d b p n b'
  copy_put r b' told = subst (λ (y : List ℕ). BufferRun (λ q. true) d b p n y) (sym (put_fits b p x r b' told room).1) put_copies
