-- A run of bytes written into a list at a place (01, "Fill request": what is written fills the first bytes of the
-- target; the bytes after it stay).
-- Assumes nothing.
use Rattle.std.specs.Prelude.{◌≡◌, Bool, cond, List, ◌++◌, ℕ, ◌+◌, leb, length, take, drop}

-- the run fits: it ends by the end of the list
abbrev pub has_room : List ℕ → ℕ → List ℕ → Bool
has_room out at run = leb (at + length run) (length out)

-- the list with the run from the place on, and all else as it was
unfoldable pub put_in : List ℕ → ℕ → List ℕ → List ℕ
put_in out at run = take at out ++ run ++ drop (at + length run) out

-- What `put` promises: it answers whether the run fits, and leaves the list with the run where it does, and else as it was.
pub record Put (out : List ℕ) (at : ℕ) (run : List ℕ) (r : Bool) (left : List ℕ) : Type 0 where
  pub answer : r ≡ has_room out at run
  pub bytes : left ≡ cond (has_room out at run) (put_in out at run) out
