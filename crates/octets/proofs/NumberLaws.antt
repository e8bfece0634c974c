-- Laws of numbers in a list, over any width: where the bytes are the same so is the number, and a number that is written is
-- read back.
-- Assumes nothing.
use mathlib.Core.Path.{◌≡◌, refl, sym, ap, ap₂, ◌∙◌}
use mathlib.Core.List.{List, [], ◌∷◌, ◌++◌}
use Prim.Native.Nat.{ℕ, zero, suc, ◌+◌, ◌*◌, ◌/◌, ◌%◌, ◌^◌, ◌≤◌, ◌<◌}
use native.Mathlib.Nat.{pow-suc, add-zero}
use native.Mathlib.Numerals.{add-one}
use native.Mathlib.Omega.{arith}
use lib.ListN.{length, take, drop, get_or-eq_default, get_or-append}
use lib.Seq.{drop-cons, get_or-drop, get_or-take, get_or-append-add}
use Rattle.octets.specs.Numbers.{byte_at, number_at, bytes_of, AllBytes}
use Rattle.octets.specs.Runs.{put_in}
use Rattle.octets.proofs.RunLaws.{put_within}

-- beyond the end every number is 0
pub number_beyond : (n : ℕ) (s : List ℕ) (at : ℕ) → length s ≤ at → number_at n s at ≡ 0
number_beyond zero s at h = refl
number_beyond (suc n) s at h =
    let b : byte_at s at ≡ 0 = get_or-eq_default s 0 h in
    let r : number_at n s (at + 1) ≡ 0 = number_beyond n s (at + 1) (omega arith) in
    omega arith

-- a number is fixed by its bytes
pub number_ext : (n : ℕ) (s t : List ℕ) (at to : ℕ) → ((k : ℕ) → k < n → byte_at s (at + k) ≡ byte_at t (to + k))
    → number_at n s at ≡ number_at n t to
number_ext zero s t at to h = refl
number_ext (suc n) s t at to h =
    let b : byte_at s at ≡ byte_at t to = ap (byte_at s) (sym (add-zero at)) ∙ h 0 (omega arith) ∙ ap (byte_at t) (add-zero to) in
    let next : (k : ℕ) → k < n → byte_at s (at + 1 + k) ≡ byte_at t (to + 1 + k) = λ k l. ap (byte_at s) (omega arith) ∙ h (k + 1) (omega arith) ∙ ap (byte_at t) (omega arith) in
    ap₂ (λ (x y : ℕ). x + 256 * y) b (number_ext n s t (at + 1) (to + 1) next)

-- a number in a part of a list, in the front of one, behind a list, and in a run that was written
pub number_drop : (n m : ℕ) (s : List ℕ) (at : ℕ) → number_at n (drop m s) at ≡ number_at n s (m + at)
number_drop n m s at = number_ext n (drop m s) s at (m + at) (λ k l. get_or-drop m s (at + k) 0 ∙ ap (byte_at s) (omega arith))

pub number_take : (n m : ℕ) (s : List ℕ) (at : ℕ) → at + n ≤ m → number_at n (take m s) at ≡ number_at n s at
number_take n m s at h = number_ext n (take m s) s at at (λ k l. get_or-take m s (at + k) 0 (omega arith))

pub number_front : (n : ℕ) (s t : List ℕ) (at : ℕ) → at + n ≤ length s → number_at n (s ++ t) at ≡ number_at n s at
number_front n s t at h = number_ext n (s ++ t) s at at (λ k l. get_or-append s t 0 (at + k) (omega arith))

pub number_behind : (n : ℕ) (s t : List ℕ) (at : ℕ) → number_at n (s ++ t) (length s + at) ≡ number_at n t at
number_behind n s t at = number_ext n (s ++ t) t (length s + at) at (λ k l. ap (byte_at (s ++ t)) (omega arith) ∙ get_or-append-add s t (at + k) 0)

pub number_put : (n : ℕ) (out : List ℕ) (at : ℕ) (run : List ℕ) (k : ℕ) → at + length run ≤ length out → k + n ≤ length run
    → number_at n (put_in out at run) (at + k) ≡ number_at n run k
number_put n out at run k h f = number_ext n (put_in out at run) run (at + k) k (λ i l. ap (byte_at (put_in out at run)) (omega arith) ∙ put_within out at run h (k + i) (omega arith))

-- the bytes of a number: how many, and that each is a byte
pub bytes_length : (n v : ℕ) → length (bytes_of n v) ≡ n
bytes_length zero v = refl
bytes_length (suc n) v = ap suc (bytes_length n (v / 256))

pub bytes_are : (n v : ℕ) → AllBytes (bytes_of n v)
bytes_are zero v i = omega arith
bytes_are (suc n) v zero = omega arith
bytes_are (suc n) v (suc i) = bytes_are n (v / 256) i

-- the number of its own bytes
pub number_of_bytes : (n v : ℕ) → v < 256 ^ n → number_at n (bytes_of n v) 0 ≡ v
number_of_bytes zero v h = let e : 256 ^ 0 ≡ 1 = refl in omega arith
number_of_bytes (suc n) v h =
    let b = v % 256 in
    let rest = bytes_of n (v / 256) in
    let shift : number_at n (b ∷ rest) (0 + 1) ≡ number_at n rest 0 = number_behind n (b ∷ []) rest 0 in
    let r : number_at n rest 0 ≡ v / 256 = number_of_bytes n (v / 256) (omega (arith, pow-suc 256 n)) in
    omega arith

-- a number that is written is read back, at every width
pub read_back : (n : ℕ) (out : List ℕ) (at v : ℕ) → at + n ≤ length out → v < 256 ^ n → number_at n (put_in out at (bytes_of n v)) at ≡ v
read_back n out at v h l =
    ap (number_at n (put_in out at (bytes_of n v))) (sym (add-zero at))
    ∙ number_put n out at (bytes_of n v) 0 (omega (arith, bytes_length n v)) (omega (arith, bytes_length n v))
    ∙ number_of_bytes n v l

-- a number that is read has its bytes where it was read, at every width
pub bytes_back : (n : ℕ) (s : List ℕ) (at : ℕ) → AllBytes s → at + n ≤ length s → bytes_of n (number_at n s at) ≡ take n (drop at s)
bytes_back zero s at a h = refl
bytes_back (suc n) s at a h =
    let b : byte_at s at < 256 = a at in
    let r = number_at n s (at + 1) in
    let low : (byte_at s at + 256 * r) % 256 ≡ byte_at s at = omega arith in
    let high : (byte_at s at + 256 * r) / 256 ≡ r = omega arith in
    ap₂ (λ (x y : ℕ). x ∷ bytes_of n y) low high
    ∙ ap (λ (l : List ℕ). byte_at s at ∷ l) (bytes_back n s (at + 1) a (omega arith))
    ∙ ap (λ (i : ℕ). byte_at s at ∷ take n (drop i s)) (add-one at)
    ∙ ap (take (suc n)) (sym (drop-cons s at 0 (omega arith)))

-- a number of n bytes is below 256 to the n
pub number_below : (n : ℕ) (s : List ℕ) (at : ℕ) → AllBytes s → number_at n s at < 256 ^ n
number_below zero s at a = let e : 256 ^ 0 ≡ 1 = refl in omega arith
number_below (suc n) s at a = omega (arith, a at, number_below n s (at + 1) a, pow-suc 256 n)
