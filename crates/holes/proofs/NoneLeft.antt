-- With no hole left, the buffer is the file (demand 3).
-- Assumes nothing.
use mathlib.Core.Path.{◌≡◌, sym, ap, ◌∙◌}
use mathlib.Core.Bool.{Bool, true, cond}
use mathlib.Core.List.{List}
use Prim.Native.Nat.{ℕ, ◌<◌}
use native.Mathlib.Omega.{arith}
use lib.ListN.{length, take}
use lib.Seq.{get_or-take, length-take-le, ext_get_or}
use Rattle.reason.specs.Answer.{refused}
use Rattle.octets.specs.Numbers.{byte_at}
use Rattle.positions.specs.Map.{held}
use Rattle.reception.specs.Reception.{Reception}
use Rattle.reception.specs.Contents.{HoldsOf}
use Rattle.holes.specs.Listing.{listing}
use Rattle.holes.proofs.HoleLaws.{none_left_only_if}

module _ (number l : ℕ) (file : List ℕ) (S : ℕ → Bool) (s : Reception) (h : HoldsOf number l file S s) where
  -- where every position is held, the buffer is the file
  complete : length file ≡ l → ((p : ℕ) → p < l → held s.map p ≡ true) → take l s.buffer ≡ file
  complete size all =
      let long = length-take-le l s.buffer h.buffer_long in
      ext_get_or 0 (take l s.buffer) file (long ∙ sym size)
      (λ p g. let below : p < l = omega (arith, long, g) in
      get_or-take l s.buffer p 0 below ∙ h.bytes p below ∙ ap (λ (b : Bool). cond b (byte_at file p) 0) (sym (h.holds p (omega arith)) ∙ all p below))

  -- .. and so it is where listing from 0 finds no hole
  pub none_left_is_the_file : length file ≡ l → listing l s.map 0 ≡ refused 15 → take l s.buffer ≡ file
  none_left_is_the_file size none = complete size (none_left_only_if l s.map none)
