-- An address and its number: each tells the other back.
-- Assumes nothing.
use mathlib.Core.Path.{◌≡◌, sym, ap, ◌∙◌}
use mathlib.Core.Bool.{true}
use mathlib.Core.List.{List, [], ◌∷◌, ◌++◌}
use Prim.Native.Nat.{ℕ, zero, suc, ◌+◌, ◌/◌, ◌%◌, ◌^◌, ◌<◌}
use native.Mathlib.Nat.{div-div-eq-div-mul}
use native.Mathlib.Omega.{arith}
use lib.ListN.{length, take, length-append}
use lib.Seq.{take_all, take-append_seam, get_or-append-add}
use Rattle.octets.specs.Numbers.{byte_at, number_at, bytes_of, AllBytes}
use Rattle.octets.proofs.NumberLaws.{number_of_bytes, bytes_back, number_below}
use Rattle.ax25.specs.declared.Address.{Address}
use Rattle.ax25.specs.Address.{characters_of, is_name, is_writable}
use Rattle.ax25.proofs.SpellingLaws.{character_of_writable, number_of_writable, bit_of_writable}
use Rattle.station.specs.AddressNumber.{address_number, address_of}

-- its eight bytes: the characters, the number of its SSID and bit 7
abbrev pub bytes : Address → List ℕ
bytes a = characters_of a ++ a.number ∷ a.bit7 ∷ []

-- those of the address that a number tells are the number's own
pub told_bytes : (n : ℕ) → n < 256 ^ 8 → bytes (address_of n) ≡ bytes_of 8 n
unfolding address_of
told_bytes n h =
    let last : n / 256 ^ 7 % 256 ≡ n / 256 ^ 7 = omega arith in
    simp (div-div-eq-div-mul, last)

pub number_back : (n : ℕ) → n < 256 ^ 8 → address_number (address_of n) ≡ n
number_back n h = ap (λ (s : List ℕ). number_at 8 s 0) (told_bytes n h) ∙ number_of_bytes 8 n h

-- the address with given bytes, and an address by its own
with_bytes : List ℕ → Address
with_bytes s = record { characters = take 6 s; number = byte_at s 6; bit7 = byte_at s 7 }

itself : (a : Address) → length (characters_of a) ≡ 6 → with_bytes (bytes a) ≡ a
unfolding with_bytes
itself a six =
    let rest = a.number ∷ a.bit7 ∷ [] in
    let front : take 6 (bytes a) ≡ a.characters = ap (λ (n : ℕ). take n (bytes a)) (sym six) ∙ take-append_seam (characters_of a) rest in
    let number : byte_at (bytes a) 6 ≡ a.number = ap (byte_at (bytes a)) (omega (arith, six)) ∙ get_or-append-add (characters_of a) rest 0 0 in
    let bit7 : byte_at (bytes a) 7 ≡ a.bit7 = ap (byte_at (bytes a)) (omega (arith, six)) ∙ get_or-append-add (characters_of a) rest 1 0 in
    rw (front, number, bit7)

-- where an address can be written, each of the eight is a byte
and_bytes : (s t : List ℕ) → AllBytes s → AllBytes t → AllBytes (s ++ t)
and_bytes [] t a b i = b i
and_bytes (c ∷ s) t a b zero = a 0
and_bytes (c ∷ s) t a b (suc i) = and_bytes s t (λ k. a (suc k)) b i

two_bytes : (n b : ℕ) → n < 256 → b < 256 → AllBytes (n ∷ b ∷ [])
two_bytes n b l h zero = l
two_bytes n b l h (suc zero) = h
two_bytes n b l h (suc (suc i)) = omega arith

bytes_of_writable : (a : Address) → is_writable a ≡ true → AllBytes (bytes a)
bytes_of_writable a w =
    and_bytes (characters_of a) (a.number ∷ a.bit7 ∷ []) (λ k. omega (arith, character_of_writable a w k))
    (two_bytes a.number a.bit7 (omega (arith, number_of_writable a w)) (omega (arith, bit_of_writable a w)))

-- it has six characters
name_of_writable : (a : Address) → is_writable a ≡ true → is_name a ≡ true
unfolding is_writable
name_of_writable a w = grind arith

six_of_writable : (a : Address) → is_writable a ≡ true → length (characters_of a) ≡ 6
unfolding is_name
six_of_writable a w = let name = name_of_writable a w in grind arith

-- .. and its number tells it back
pub address_back : (a : Address) → is_writable a ≡ true → address_of (address_number a) ≡ a
unfolding with_bytes address_of
address_back a w =
    let all = bytes_of_writable a w in
    let six = six_of_writable a w in
    let eight : length (bytes a) ≡ 8 = length-append (characters_of a) (a.number ∷ a.bit7 ∷ []) ∙ ap (λ (n : ℕ). n + 2) six in
    ap with_bytes
    (told_bytes (address_number a) (number_below 8 (bytes a) 0 all)
    ∙ bytes_back 8 (bytes a) 0 all (omega (arith, eight))
    ∙ take_all 8 (bytes a) (omega (arith, eight)))
    ∙ itself a six
