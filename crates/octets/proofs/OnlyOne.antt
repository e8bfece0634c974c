-- No second answer meets a promise of this crate, and no other bytes.
-- Assumes nothing.
use mathlib.Core.Path.{◌≡◌, sym, ◌∙◌}
use mathlib.Core.Bool.{Bool}
use mathlib.Core.List.{List}
use Prim.Native.Nat.{ℕ}
use Rattle.octets.specs.Numbers.{byte_at, number_at, bytes_of}
use Rattle.octets.specs.Values.{values_from}
use Rattle.octets.specs.Runs.{Put}

-- `byte`
pub only_one_byte : (s : List ℕ) (at r q : ℕ) → r ≡ byte_at s at → q ≡ byte_at s at → r ≡ q
only_one_byte s at r q d e = d ∙ sym e

-- `number`: n is the width, of eight at most
pub only_one_number : (n : ℕ) (s : List ℕ) (at r q : ℕ) → r ≡ number_at n s at → q ≡ number_at n s at → r ≡ q
only_one_number n s at r q d e = d ∙ sym e

-- `bytes`: n is the width
pub only_one_bytes : (n v : ℕ) (r q : List ℕ) → r ≡ bytes_of n v → q ≡ bytes_of n v → r ≡ q
only_one_bytes n v r q d e = d ∙ sym e

-- `array`: n is how many
pub only_one_array : (n : ℕ) (s : List ℕ) (at : ℕ) (r q : List ℕ) → r ≡ values_from (byte_at s) at n → q ≡ values_from (byte_at s) at n → r ≡ q
only_one_array n s at r q d e = d ∙ sym e

-- `put`: its answer and what it leaves
pub only_one_put : (out : List ℕ) (at : ℕ) (run : List ℕ) (r q : Bool) (left also : List ℕ) → Put out at run r left → Put out at run q also
    → (r ≡ q) × (left ≡ also)
only_one_put out at run r q left also d e = (d.answer ∙ sym e.answer, d.bytes ∙ sym e.bytes)
