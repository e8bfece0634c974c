-- Laws of writing text: a byte in front of a run, and one run behind the other.
-- Assumes nothing.
use mathlib.Core.Path.{◌≡◌, sym, ap, ap₂, ◌∙◌}
use mathlib.Core.List.{List, ◌++◌}
use Prim.Native.Nat.{ℕ, ◌+◌, ◌≤◌}
use native.Mathlib.Nat.{add_assoc}
use native.Mathlib.Omega.{arith}
use lib.ListN.{length, length-append}
use Rattle.octets.specs.Runs.{put_in}
use Rattle.octets.proofs.RunLaws.{put_length, put_put}

-- What a writer promises: the place behind the run, and the list with the run.
abbrev pub Written : List ℕ → ℕ → List ℕ → ℕ → List ℕ → Type 0
Written out at run r left = (r ≡ at + length run) × (left ≡ put_in out at run)

-- room for two runs is room for the first
pub room_front : (at : ℕ) (a b : List ℕ) (n : ℕ) → at + length (a ++ b) ≤ n → at + length a ≤ n
room_front at a b n h = omega (arith, length-append a b)

module _ (out : List ℕ) (at : ℕ) (a b : List ℕ) (r : ℕ) (left : List ℕ) (w : Written out at a r left) (h : at + length (a ++ b) ≤ length out) where
  -- behind the first run there is room for the second
  pub room_behind : r + length b ≤ length left
  room_behind =
      let size : length left ≡ length out = ap length w.1 ∙ put_length out at a (room_front at a b (length out) h) in
      omega (arith, w.0, length-append a b)

  -- one run behind the other
  pub written_next : (s : ℕ) (after : List ℕ) → Written left r b s after → Written out at (a ++ b) s after
  written_next s after next = (
    next.0 ∙ ap (λ (n : ℕ). n + length b) w.0 ∙ add_assoc at (length a) (length b) ∙ ap (λ (n : ℕ). at + n) (sym (length-append a b)),
    next.1 ∙ ap₂ (λ (l : List ℕ) (n : ℕ). put_in l n b) w.1 w.0 ∙ put_put out at a b (omega (arith, length-append a b)),
  )
