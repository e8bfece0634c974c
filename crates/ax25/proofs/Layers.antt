-- A frame's two layers, whatever its information is: the head's reasons, and then those of the information behind it.
-- Assumes nothing.
use mathlib.Core.Path.{◌≡◌, sym, ap, ◌∙◌}
use mathlib.Core.List.{List, ◌++◌}
use Prim.Native.Nat.{ℕ, ◌-◌, ◌≤◌}
use native.Mathlib.Omega.{arith}
use lib.ListN.{length, take, drop, length-drop}
use lib.Seq.{take_all}
use Rattle.std.specs.Prelude.{Result, Ok, Err}
use Rattle.reason.specs.declared.Reason.{Reason}
use Rattle.reason.specs.Reasons.{number_of}
use Rattle.reason.specs.Answer.{Answer, accepted, refused, answer_of}
use Rattle.reason.specs.Order.{Check, first_of}
use Rattle.reason.proofs.OrderLaws.{refused_then, accepted_then}
use Rattle.ax25.specs.declared.Head.{Head}
use Rattle.ax25.specs.Head.{head_length, head_checks, head_of, read_head}
use Rattle.ax25.proofs.HeadLaws.{head_says}
use Rattle.ax25.specs.Information.{information_of}

module _ {A : Type 0} (protocol : ℕ) (frame : List ℕ) (checks : List ℕ → List Check) (fields : Head → List ℕ → A) (r : Result Head Reason)
    (read : answer_of r ≡ read_head protocol frame) where
  -- the answer of the two layers
  abbrev Both : Answer A
  Both = first_of (head_checks protocol frame ++ checks (information_of frame)) (fields (head_of frame) (information_of frame))

  module _ (h : Head) (told : r ≡ Ok h) where
    says : accepted h ≡ read_head protocol frame
    says = sym (ap answer_of told) ∙ read

    -- behind an accepted head there is information
    pub long : head_length ≤ length frame
    long = (head_says protocol frame h (sym says)).long

    rest : take (length frame - head_length) (drop head_length frame) ≡ information_of frame
    rest = take_all (length frame - head_length) (drop head_length frame) (simp length-drop (omega arith))

    -- and its answer is the frame's
    pub behind_head : (a : Answer A)
        → a ≡ first_of (checks (take (length frame - head_length) (drop head_length frame))) (fields h (take (length frame - head_length) (drop head_length frame)))
        → a ≡ Both
    behind_head a e =
        e
        ∙ rw (rest, (head_says protocol frame h (sym says)).is)
        (sym (accepted_then (head_checks protocol frame) (checks (information_of frame)) (head_of frame) h (fields (head_of frame) (information_of frame)) (sym says)))

  -- a refused head refuses the frame
  pub refused_head : (reason : Reason) → r ≡ Err reason → refused (number_of reason) ≡ Both
  refused_head reason told =
      sym (refused_then (head_checks protocol frame) (checks (information_of frame)) (head_of frame) (fields (head_of frame) (information_of frame)) (number_of reason)
      (sym (sym (ap answer_of told) ∙ read)))
