-- A part of the information, behind its first n bytes and before the check bytes, is a part of the frame.
-- Assumes nothing.
use mathlib.Core.Path.{◌≡◌, sym, ap, ap₂}
use mathlib.Core.List.{List, []}
use Prim.Native.Nat.{ℕ, ◌+◌, ◌-◌, ◌<◌}
use native.Mathlib.Omega.{arith}
use lib.ListN.{length, take, drop, length-drop}
use lib.Seq.{drop-drop}
use Rattle.remainder.specs.Check.{check_length}
use Rattle.ax25.specs.Head.{head_length}
use Rattle.ax25.specs.Information.{information_of}

module _ (n : ℕ) (frame : List ℕ) where
  abbrev Part : List ℕ
  Part = take (length (information_of frame) - check_length - n) (drop n (information_of frame))

  -- it is empty in a frame that has no more than what stands before and behind it
  pub no_part : length frame < head_length + n + check_length → [] ≡ Part
  no_part h =
      let z : length (information_of frame) - check_length - n ≡ 0 = omega (arith, length-drop head_length frame) in
      sym (ap (λ (m : ℕ). take m (drop n (information_of frame))) z)

  pub part_of_frame : take (length frame - check_length - (head_length + n)) (drop (head_length + n) frame) ≡ Part
  part_of_frame =
      let z : length frame - check_length - (head_length + n) ≡ length (information_of frame) - check_length - n = omega (arith, length-drop head_length frame) in
      ap₂ take z (sym (drop-drop n head_length frame))
