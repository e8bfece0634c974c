-- Laws of the boundary's promise: how a function meets it, by what the operation that it calls answered.
-- Assumes nothing.
use mathlib.Core.Path.{◌≡◌, refl, sym, ap, ◌∙◌}
use mathlib.Core.List.{List}
use Prim.Native.Nat.{ℕ}
use Rattle.std.specs.Prelude.{Result}
use Rattle.reason.specs.declared.Reason.{Reason}
use Rattle.reason.specs.Answer.{Answer, accepted, refused, leaving, answer_of, WritesAndTells}
use Rattle.reason.proofs.OrderLaws.{accepted_only_if}
use Rattle.reception.specs.declared.File.{File}
use Rattle.reception.specs.Reception.{Reception}
use Rattle.reception.specs.Adding.{Offer, map_with, buffer_with, Adds}
use Rattle.reception.specs.Opening.{opening, opened_map, opened_buffer, Opens}
use Rattle.record.specs.Saving.{Saves}
use Rattle.record.specs.Reading.{recorded_in}
use Rattle.record.specs.Loading.{loading_checks, loading, loaded_map, loaded_buffer, Loads}
use Rattle.station.specs.Boundary.{code, Exported}
use Rattle.station.specs.Exports.{OpensOut, Counted, counted_with, Sized, SavesOut, LoadsOut}

-- the promise, where the answer is known: one law, and its two cases
module _ {A L : Type 0} (answer : Answer A) (made : A → L) (lent left : L) where
  exported_by : (x : Answer A) → answer ≡ x → left ≡ leaving made lent x → Exported answer made lent (code x) left
  exported_by x e l = record { returns = sym (ap code e); leaves = l ∙ sym (ap (leaving made lent) e) }

  pub exported_accepted : (a : A) → answer ≡ accepted a → left ≡ made a → Exported answer made lent 0 left
  exported_accepted a e l = exported_by (accepted a) e l

  pub exported_refused : (n : ℕ) → answer ≡ refused n → left ≡ lent → Exported answer made lent n left
  exported_refused n e l = exported_by (refused n) e l

-- of three things that were lent, each is left as the answer makes it, and so are all together
module _ {A T X Y L : Type 0} (all : T → X → Y → L) (f : A → T) (g : A → X) (h : A → Y) (t t' : T) (x x' : X) (y y' : Y) where
  three : (answer : Answer A) → t' ≡ leaving f t answer → x' ≡ leaving g x answer → y' ≡ leaving h y answer
      → all t' x' y' ≡ leaving (λ a. all (f a) (g a) (h a)) (all t x y) answer
  three (accepted a) d e i = rw (d, e, i)
  three (refused n) d e i = rw (d, e, i)

  exported_three : (answer told : Answer A) → told ≡ answer → t' ≡ leaving f t told → x' ≡ leaving g x answer → y' ≡ leaving h y answer
      → Exported answer (λ a. all (f a) (g a) (h a)) (all t x y) (code told) (all t' x' y')
  exported_three answer told e l m b = record { returns = ap code e; leaves = three answer (l ∙ ap (leaving f t) e) m b }

-- `open`
pub opened_out : {l : ℕ} {map buffer map' buffer' : List ℕ} {r : Result Unit Reason} {k : ℕ} → Opens l map buffer r map' buffer' → k ≡ code (answer_of r)
    → OpensOut l (record { map = map; buffer = buffer }) k (record { map = map'; buffer = buffer' })
opened_out {l} {map} {buffer} {map'} {buffer'} p e = record {
  returns = e ∙ ap code p.answers;
  leaves = three (λ again x y. record { map = x; buffer = y })
      (λ u. opened_map l map) (λ u. opened_map l map) (λ u. opened_buffer l buffer) map map' map map' buffer buffer'
      (opening l map buffer) p.leaves_map p.leaves_map p.leaves_buffer;
}

-- `take` and `join`, with the count that is told
abbrev with_count : ℕ → List ℕ → List ℕ → Counted
with_count n map buffer = record { new = n; map = map; buffer = buffer }

pub added_out : {s : Reception} {o : Offer} {answer : Answer ℕ} {r : Result ℕ Reason} {map buffer : List ℕ} {n n' k : ℕ} → Adds s o answer r map buffer
    → Exported (answer_of r) (λ x. x) n k n'
    → Exported answer (counted_with s o) (with_count n s.map s.buffer) k (with_count n' map buffer)
added_out {s} {o} {answer} {r} {map} {buffer} {n} {n'} p e = record {
  returns = e.returns ∙ ap code p.answers;
  leaves = three with_count (λ x. x) (λ x. map_with s o) (λ x. buffer_with s o) n n' s.map map s.buffer buffer
      answer (e.leaves ∙ ap (leaving (λ x. x) n) p.answers) p.leaves_map p.leaves_buffer;
}

-- `load`, with the number and the length that are told
abbrev with_fields : File → List ℕ → List ℕ → Reception
with_fields t map buffer = record { number = t.number; length = t.length; map = map; buffer = buffer }

module _ (saved map buffer : List ℕ) (t : File) where
  its_own : (told : Answer File) → told ≡ loading saved map buffer → leaving (λ x. x) t told ≡ leaving (λ x. recorded_in saved) t told
  unfolding loading
  its_own (accepted a) e = (accepted_only_if (loading_checks saved map buffer) (recorded_in saved) a (sym e)).1
  its_own (refused n) e = refl

pub loaded_out : {saved map buffer map' buffer' : List ℕ} {r : Result File Reason} {told : Answer File} (t t' : File)
    → Loads saved map buffer r map' buffer' → answer_of r ≡ told → t' ≡ leaving (λ x. x) t told
    → LoadsOut saved (with_fields t map buffer) (code told) (with_fields t' map' buffer')
loaded_out {saved} {map} {buffer} {map'} {buffer'} {r} {told} t t' p e l =
    let answers = sym e ∙ p.answers in
    exported_three with_fields (λ x. recorded_in saved) (λ x. loaded_map saved map) (λ x. loaded_buffer saved buffer) t t' map map' buffer buffer'
    (loading saved map buffer) told answers (l ∙ its_own saved map buffer t told answers) p.leaves_map p.leaves_buffer

-- `save` and `write_fill`, which leave one list, with the values that are told
pub written_out : {A L : Type 0} (all : A → List ℕ → L) (t t' : A) {lent left : List ℕ} {answer said told : Answer A} {made : A → List ℕ}
    → WritesAndTells lent answer made said left → said ≡ told → t' ≡ leaving (λ x. x) t told
    → Exported answer (λ a. all a (made a)) (all t lent) (code told) (all t' left)
written_out all t t' {lent} {left} {answer} {told = told} {made = made} p e l =
    exported_three (λ t x again. all t x) (λ x. x) made made t t' lent left lent left
    answer told (sym e ∙ p.answers) l p.bytes p.bytes

abbrev with_size : ℕ → List ℕ → Sized
with_size n target = record { size = n; target = target }

pub saved_out : (s : Reception) (r : Result ℕ Reason) {target left : List ℕ} {told : Answer ℕ} {n n' : ℕ} → Saves s target r left
    → answer_of r ≡ told → n' ≡ leaving (λ x. x) n told → SavesOut s (with_size n target) (code told) (with_size n' left)
saved_out s r {n = n} {n' = n'} p e l = written_out with_size n n' p e l
