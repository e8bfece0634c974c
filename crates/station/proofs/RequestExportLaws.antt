-- Laws of the boundary's promise for requests that are written: for the addresses that two numbers tell.
-- Assumes nothing.
use mathlib.Core.Path.{◌≡◌, refl, ap, ◌∙◌}
use mathlib.Core.List.{List}
use Prim.Native.Nat.{ℕ}
use Rattle.std.specs.Prelude.{Result}
use Rattle.reason.specs.declared.Reason.{Reason}
use Rattle.reason.specs.Answer.{Answer, accepted, refused, telling, leaving, answer_of, Writes}
use Rattle.ax25.specs.declared.Address.{Address}
use Rattle.ax25.specs.declared.Head.{Head}
use Rattle.request.specs.declared.Written.{Written}
use Rattle.request.specs.Writing.{Fills, starting}
use Rattle.station.specs.Boundary.{code}
use Rattle.station.specs.AddressNumber.{address_of}
use Rattle.station.specs.RequestExports.{head_told, WrittenRequest, FillsOut, StartsOut}
use Rattle.station.proofs.ExportLaws.{written_out}

-- what is lent for a request, with the values that are told
abbrev with_target : Written → List ℕ → WrittenRequest
with_target t target = record { count = t.count; end = t.end; target = target }

same_code : {A B : Type 0} (f : A → B) (made : Answer A) → code (telling f made) ≡ code made
same_code f (accepted a) = refl
same_code f (refused n) = refl

module _ (to from : Address) (destination source : ℕ) (d : to ≡ address_of destination) (e : from ≡ address_of source) where
  abbrev head : Head
  head = record { destination = to; source = from }

  head_told_lem : head_told destination source ≡ head
  head_told_lem = rw (d, e)

  pub filled_out : (number l : ℕ) (map : List ℕ) (place : ℕ) {target left : List ℕ} (r : Result Written Reason) {told : Answer Written} (t t' : Written)
      → Fills (record { head = head; number = number; length = l; map = map }) place target r left
      → answer_of r ≡ told → t' ≡ leaving (λ x. x) t told
      → FillsOut (record { head = head_told destination source; number = number; length = l; map = map }) place
      (with_target t target) (code told) (with_target t' left)
  filled_out number l map place r t t' p s m = rw head_told_lem (written_out with_target t t' p s m)

  pub started_out : (number : ℕ) {lent left : List ℕ} {r : Result Unit Reason} {k : ℕ} → Writes lent (starting head number lent) r left
      → k ≡ code (answer_of r) → StartsOut (head_told destination source) number lent k left
  started_out number {lent} p s =
      rw head_told_lem
      (record { returns = s ∙ ap code p.answers ∙ same_code {B = Unit} (λ l. tt) (starting head number lent); leaves = p.bytes })
