-- The positions of a map byte, compared and copied where a bit is set.
-- Assumes nothing.
use mathlib.Core.Path.{◌≡◌, sym}
use mathlib.Core.Bool.{true, false}
use mathlib.Core.List.{List}
use Prim.Native.Nat.{ℕ, ◌-◌}
use native.Mathlib.Omega.{arith}
use Rattle.positions.specs.Spans.{every}
use Rattle.positions.specs.Map.{is_set}
use Rattle.positions.proofs.BitLaws.{set_none}
use Rattle.positions.proofs.SpanLaws.{every_same}
use Rattle.positions.proofs.MapLaws.{full_set}
use Rattle.runs.specs.Inner.{same_at, bit_agrees, BufferRun}
use Rattle.runs.proofs.CopyLaws.{copy_told}

module _ (asked : ℕ) (b : List ℕ) (at : ℕ) (d : List ℕ) (from : ℕ) where
  pub bit_free : (q : ℕ) → is_set asked (q - from) ≡ false → bit_agrees asked b at d from q ≡ true
  bit_free q e = rw e

  pub bit_compared : (q : ℕ) → is_set asked (q - from) ≡ true → same_at b at d q ≡ bit_agrees asked b at d from q
  bit_compared q e = rw e

  -- no bit is set, and nothing is compared
  pub none_asked : (q : ℕ) → asked ≡ 0 → bit_agrees asked b at d from q ≡ true
  none_asked q e = rw (e, set_none (q - from))

  -- each bit of eight is set, and all are compared
  pub all_asked : (n : ℕ) → asked ≡ 255 → n ≡ 8 → every (same_at b at d) from 8 ≡ every (bit_agrees asked b at d from) from n
  all_asked n e l =
      rw l
      (every_same (same_at b at d) (bit_agrees asked b at d from) from 8 (λ q g h. bit_compared q (full_set asked (q - from) e (omega arith))))

-- .. and all are copied
pub all_copied : (asked : ℕ) (d b : List ℕ) (p : ℕ) (b' : List ℕ) → asked ≡ 255 → BufferRun (λ q. true) d b p 8 b'
    → BufferRun (λ q. is_set asked (q - p)) d b p 8 b'
all_copied asked d b p b' e run =
    copy_told (λ q. true) d b p 8 b' run (λ q. is_set asked (q - p)) (λ q g h. sym (full_set asked (q - p) e (omega arith)))
