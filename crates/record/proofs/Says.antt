-- What an accepted record says (demand 2): each rule that it keeps, as its bytes at their places.
-- Assumes nothing.
use mathlib.Core.Path.{◌≡◌, refl, ap, ◌∙◌}
use mathlib.Core.Bool.{Bool, true, false, not, ◌&&◌, ◌||◌}
use mathlib.Core.List.{List}
use Prim.Native.Nat.{ℕ, ◌+◌, ◌*◌, ◌-◌}
use native.Mathlib.Omega.{arith}
use lib.Dec.{eqb}
use borrow.Author.Tests.{eqb-true, not-true}
use Rattle.reason.specs.Answer.{accepted}
use Rattle.reason.proofs.Bools.{and_left, and_right}
use Rattle.octets.specs.Numbers.{byte_at, number_at}
use Rattle.positions.specs.Map.{held, map_size}
use Rattle.positions.proofs.SpanLaws.{all_at}
use Rattle.reception.specs.declared.File.{File}
use Rattle.record.specs.Reading.{length_in, map_in, buffer_in, field_at, read_record, recorded_in}
use Rattle.record.specs.Says.{RecordSays}
use Rattle.record.proofs.GivenAnswers.{is_formed, read_says}

-- the tag and the length of a field
field_says : (s : List ℕ) (at tag size : ℕ) → field_at s at tag size ≡ true → (byte_at s at ≡ tag) × (number_at 2 s (at + 1) ≡ size)
field_says s at tag size e =
    (eqb-true _ _ (and_left (eqb (byte_at s at) tag) (eqb (number_at 2 s (at + 1)) size) e), eqb-true _ _ (and_right (eqb (byte_at s at) tag) (eqb (number_at 2 s (at + 1)) size) e))

-- a byte that is zero unless it is held
unless_held : (h : Bool) (b : ℕ) → (h || eqb b 0) ≡ true → h ≡ false → b ≡ 0
unless_held h b e f = eqb-true b 0 (rw f at e)

its : (s : List ℕ) → read_record s ≡ accepted (recorded_in s) → RecordSays s (recorded_in s)
its s e =
    let f = is_formed s (read_says s (recorded_in s) e).0 in
    let l = length_in s in
    let a = field_at s 0 1 4 in
    let b = field_at s 7 2 4 in
    let c = field_at s 14 3 (map_size l) in
    let d = field_at s (17 + map_size l) 4 l in
    let three : (a && b && c) ≡ true = and_left (a && b && c) d f.fields in
    let two : (a && b) ≡ true = and_left (a && b) c three in
    let one = field_says s 0 1 4 (and_left a b two) in
    let second = field_says s 7 2 4 (and_right a b two) in
    record {
      right = f.right;
      size = omega (arith, f.long);
      number_field = (one.0, one.1, refl);
      length_field = (second.0, second.1, refl);
      map_field = field_says s 14 3 (map_size l) (and_right (a && b) c three);
      buffer_field = field_says s (17 + map_size l) 4 l (and_right (a && b && c) d f.fields);
      spare = λ p low high. not-true _ (all_at (λ p. not (held (map_in s) p)) l (map_size l * 8 - l) f.spare p low (omega (arith, low, high)));
      unheld = λ p low no. unless_held (held (map_in s) p) (byte_at (buffer_in s) p)
          (all_at (λ p. held (map_in s) p || eqb (byte_at (buffer_in s) p) 0) 0 l f.unheld p (omega arith) (omega (arith, low))) no;
    }

pub record_says : (saved : List ℕ) (x : File) → read_record saved ≡ accepted x → RecordSays saved x
record_says saved x e = let is = (read_says saved x e).1 in rw is (its saved (e ∙ ap accepted is))
