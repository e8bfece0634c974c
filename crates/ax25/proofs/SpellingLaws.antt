-- Laws of how an address is spelled: what an address that can be written says of its characters, and what seven bytes that are
-- an address say of each byte.
-- Assumes nothing.
use mathlib.Core.Path.{◌≡◌, refl, sym, ap, ◌∙◌}
use mathlib.Core.Bool.{Bool, true, false, ◌&&◌}
use mathlib.Core.Logic.{⊎_elim}
use mathlib.Core.List.{List, [], ◌∷◌, map}
use Prim.Native.Nat.{ℕ, zero, suc, ◌+◌, ◌*◌, ◌/◌, ◌%◌, ◌≤◌, ◌<◌}
use native.Mathlib.Nat.{add-zero, add-suc, div-div-eq-div-mul}
use native.Mathlib.Omega.{arith}
use lib.Dec.{eqb}
use lib.ListN.{length, get_or, take, drop, get_or-eq_default, get_or-append}
use lib.Seq.{ext_get_or}
use Rattle.std.specs.List.{list_all}
use Rattle.reason.specs.Answer.{accepted, refused}
use Rattle.reason.proofs.Bools.{and_left, and_right, le_or_lt}
use Rattle.reason.specs.Order.{first_of}
use Rattle.octets.specs.Numbers.{byte_at, AllBytes}
use Rattle.octets.specs.Values.{values_from}
use Rattle.octets.proofs.RunLaws.{part_is}
use Rattle.octets.proofs.ValueLaws.{value_at, values_same}
use Rattle.ax25.specs.declared.Address.{Address}
use Rattle.ax25.specs.declared.Role.{Role}
use Rattle.ax25.specs.declared.Role.TheVariants.{Destination, Source}
use Rattle.ax25.specs.Address.{is_character, all_spaces, padded, characters_of, is_name, is_writable, last_bit, ssid_byte, address_bytes, six_at, address_at, low_bits_clear, ssid_right, well_formed, read_address}

-- every character of a name is below 128

character_below : (c : ℕ) → is_character c ≡ true → c < 128
character_below c e = grind arith

spaces_below : (cs : List ℕ) → all_spaces cs ≡ true → (k : ℕ) → get_or cs k 0 < 128
spaces_below [] e k = omega arith
spaces_below (c ∷ cs) e zero = grind arith
spaces_below (c ∷ cs) e (suc k) = grind (arith, spaces_below cs)

padded_below : (cs : List ℕ) → padded cs ≡ true → (k : ℕ) → get_or cs k 0 < 128
padded_below [] e k = omega arith
padded_below (c ∷ cs) e zero = grind (arith, character_below)
padded_below (c ∷ cs) e (suc k) = grind (arith, padded_below cs, spaces_below cs)

-- what an address that can be written says

module _ (a : Address) (writable : is_writable a ≡ true) where
  name_of_writable : is_name a ≡ true
  unfolding is_writable
  name_of_writable = grind arith

  pub number_of_writable : a.number < 16
  unfolding is_writable
  number_of_writable = grind arith

  pub bit_of_writable : a.bit7 < 2
  unfolding is_writable
  bit_of_writable = grind arith

  six_of_writable : length (characters_of a) ≡ 6
  unfolding is_name
  six_of_writable = let name = name_of_writable in grind arith

  pub character_of_writable : (k : ℕ) → get_or (characters_of a) k 0 < 128
  unfolding is_name
  character_of_writable = let name = name_of_writable in padded_below (characters_of a) (grind arith)

-- what bounds an address that can be written
pub ruleset writable_bounds = (number_of_writable, bit_of_writable, character_of_writable)

pub last_bit_below : (role : Role) → last_bit role < 2
last_bit_below Destination = omega arith
last_bit_below Source = omega arith

-- the places of six bytes or characters

-- the six bytes from a place on, by their places behind it
from_place : (f : ℕ → ℕ) (at i n : ℕ) → values_from f (at + i) n ≡ values_from (λ k. f (at + k)) i n
from_place f at i zero = refl
from_place f at i (suc n) = ap (λ (l : List ℕ). f (at + i) ∷ l) (ap (λ (j : ℕ). values_from f j n) (sym (add-suc at i)) ∙ from_place f at (suc i) n)

pub six_places : (s : List ℕ) (at : ℕ) → six_at s at ≡ values_from (λ k. byte_at s (at + k)) 0 6
six_places s at = ap (λ (j : ℕ). values_from (byte_at s) j 6) (sym (add-zero at)) ∙ from_place (byte_at s) at 0 6

-- a list of six is its values at the six places
six_characters : (cs : List ℕ) → length cs ≡ 6 → values_from (byte_at cs) 0 6 ≡ cs
six_characters cs h =
    ext_get_or 0 (values_from (byte_at cs) 0 6) cs (sym h) (λ k l. value_at (byte_at cs) 0 6 k (omega arith))

-- a test of all six at each of them
each_of_six : (p : ℕ → Bool) (f : ℕ → ℕ) (i n k : ℕ) → list_all p (values_from f i n) ≡ true → k < n → p (f (i + k)) ≡ true
each_of_six p f i zero k e h = absurd (omega arith)
each_of_six p f i (suc n) zero e h = ap (λ (j : ℕ). p (f j)) (add-zero i) ∙ and_left (p (f i)) _ e
each_of_six p f i (suc n) (suc k) e h =
    ap (λ (j : ℕ). p (f j)) (omega arith) ∙ each_of_six p f (suc i) n k (and_right (p (f i)) (list_all p (values_from f (suc i) n)) e) (omega arith)

-- six tests that all hold, each of them
six : (b0 b1 b2 b3 b4 b5 : Bool) → (b0 && b1 && b2 && b3 && b4 && b5) ≡ true
    → (b0 ≡ true) × (b1 ≡ true) × (b2 ≡ true) × (b3 ≡ true) × (b4 ≡ true) × (b5 ≡ true)
six b0 b1 b2 b3 b4 b5 e5 =
    let e4 = and_left (b0 && b1 && b2 && b3 && b4) b5 e5 in
    let e3 = and_left (b0 && b1 && b2 && b3) b4 e4 in
    let e2 = and_left (b0 && b1 && b2) b3 e3 in
    let e1 = and_left (b0 && b1) b2 e2 in
    (and_left b0 b1 e1, and_right b0 b1 e1, and_right (b0 && b1) b2 e2, and_right (b0 && b1 && b2) b3 e3, and_right (b0 && b1 && b2 && b3) b4 e4, and_right (b0 && b1 && b2 && b3 && b4) b5 e5)

-- the bytes of an address: each of the first six is a character, shifted left by one
shifted_byte : (role : Role) (a : Address) (k : ℕ) → k < 6 → byte_at (address_bytes role a) k ≡ byte_at (characters_of a) k * 2
shifted_byte role a k h =
    let shifted = λ (i : ℕ). byte_at (characters_of a) i * 2 in
    get_or-append (values_from shifted 0 6) (ssid_byte role a ∷ []) 0 k h ∙ value_at shifted 0 6 k h

-- where the seven bytes from a place on are those of an address that can be written, they are well formed and spell it

half : (c : ℕ) → c * 2 / 2 ≡ c
half c = omega arith

even : (c : ℕ) → c * 2 % 2 ≡ 0
even c = omega arith

module _ (role : Role) (a : Address) (writable : is_writable a ≡ true) (s : List ℕ) (at : ℕ) (bytes : (k : ℕ) → k < 7 → byte_at s (at + k) ≡ byte_at (address_bytes role a) k) where
  six_bytes : six_at s at ≡ values_from (λ k. byte_at (characters_of a) k * 2) 0 6
  six_bytes = six_places s at ∙ values_same _ _ 0 6 (λ k l. bytes k (omega arith) ∙ shifted_byte role a k l)

  characters_spelled : map (λ b. b / 2) (six_at s at) ≡ characters_of a
  characters_spelled =
      ap (map (λ (b : ℕ). b / 2)) six_bytes
      ∙ values_same (λ k. byte_at (characters_of a) k * 2 / 2) (byte_at (characters_of a)) 0 6 (λ k l. half (byte_at (characters_of a) k))
      ∙ six_characters (characters_of a) (six_of_writable a writable)

  pub bytes_spell : address_at s at ≡ a
  unfolding address_at
  bytes_spell =
      let l = last_bit_below role in
      let n : ssid_byte role a / 2 % 16 ≡ a.number = omega (arith, number_of_writable a writable) in
      let b : ssid_byte role a / 128 ≡ a.bit7 = omega (arith, number_of_writable a writable) in
      rw (characters_spelled, bytes 6 (omega arith), n, b)

  clear_bits : low_bits_clear s at ≡ true
  clear_bits = ap (list_all (λ (b : ℕ). eqb (b % 2) 0)) six_bytes ∙ simp even

  pub bytes_are_formed : well_formed role s at ≡ true
  unfolding well_formed
  bytes_are_formed =
      let l = last_bit_below role in
      let b65 : ssid_byte role a / 32 % 4 ≡ 3 = omega (arith, number_of_writable a writable) in
      let b0 : ssid_byte role a % 2 ≡ last_bit role = omega arith in
      let name = name_of_writable a writable in
      let ssid = bytes 6 (omega arith) in
      grind (arith, clear_bits, bytes_spell)

-- seven bytes that run past the end are no address
pub cut_short : (role : Role) (s : List ℕ) (at : ℕ) → length s < at + 7 → well_formed role s at ≡ false
unfolding well_formed
cut_short role s at h =
    let z : byte_at s (at + 6) ≡ 0 = get_or-eq_default s 0 (omega arith) in
    grind arith

-- what seven bytes that are an address say

evens : (n : ℕ) → eqb (n % 2) 0 ≡ true → n ≡ n / 2 * 2
evens n e = grind arith

ssids : (role : Role) (n : ℕ) → ssid_right role n ≡ true → n ≡ n / 128 * 128 + 0x60 + n / 2 % 16 * 2 + last_bit role
ssids role n e =
    let top : n / 32 / 4 ≡ n / 128 = div-div-eq-div-mul n 32 4 in
    let low : n / 2 / 16 ≡ n / 32 = div-div-eq-div-mul n 2 16 in
    grind arith

module _ (role : Role) (s : List ℕ) (at : ℕ) (formed : well_formed role s at ≡ true) where
  low : low_bits_clear s at ≡ true
  unfolding well_formed
  low = grind arith

  clear : (k : ℕ) → k < 6 → eqb (byte_at s (at + k) % 2) 0 ≡ true
  clear k l = each_of_six (λ (b : ℕ). eqb (b % 2) 0) (byte_at s) at 6 k low l

  ssid : ssid_right role (byte_at s (at + 6)) ≡ true
  unfolding well_formed
  ssid = grind arith

  pub formed_is_name : is_name (address_at s at) ≡ true
  unfolding well_formed
  formed_is_name = grind arith

  pub formed_is_writable : AllBytes s → is_writable (address_at s at) ≡ true
  unfolding is_writable address_at
  formed_is_writable all =
      let name = formed_is_name in
      let byte = all (at + 6) in
      grind arith

  -- they are within the list
  pub formed_in_list : at + 7 ≤ length s
  formed_in_list = grind (arith, cut_short)

  -- .. and are what writing the address gives
  byte_of : (k : ℕ) → k < 7 → byte_at s (at + k) ≡ byte_at (address_bytes role (address_at s at)) k
  unfolding address_at
  byte_of k l =
      ⊎_elim
      (λ (w : 6 ≤ k).
      let is : k ≡ 6 = omega arith in
      ap (λ (i : ℕ). byte_at s (at + i)) is ∙ ssids role (byte_at s (at + 6)) ssid ∙ ap (byte_at (address_bytes role (address_at s at))) (sym is))
      (λ (w : k < 6).
      evens (byte_at s (at + k)) (clear k w)
      ∙ ap (λ (c : ℕ). c * 2) (sym (ap (λ (l : List ℕ). get_or (map (λ (b : ℕ). b / 2) l) k 0) (six_places s at) ∙ value_at (λ (i : ℕ). byte_at s (at + i) / 2) 0 6 k w))
      ∙ sym (shifted_byte role (address_at s at) k w))
      (le_or_lt 6 k)

  pub formed_bytes : take 7 (drop at s) ≡ address_bytes role (address_at s at)
  formed_bytes = part_is s at (address_bytes role (address_at s at)) formed_in_list byte_of

-- reading an address: accepted exactly if the bytes are one, and else refused 2
module _ (role : Role) (s : List ℕ) (at : ℕ) where
  pub address_accepted : well_formed role s at ≡ true → read_address role s at ≡ accepted (address_at s at)
  unfolding read_address first_of
  address_accepted w = grind arith

  pub address_refused : well_formed role s at ≡ false → read_address role s at ≡ refused 2
  unfolding read_address first_of
  address_refused w = grind arith

  pub accepted_address : (a : Address) → read_address role s at ≡ accepted a → (well_formed role s at ≡ true) × (a ≡ address_at s at)
  unfolding read_address first_of
  accepted_address a e = grind arith

  pub refused_address : (n : ℕ) → read_address role s at ≡ refused n → well_formed role s at ≡ false
  unfolding read_address first_of
  refused_address n e = grind arith

-- what decides an address that is read
pub ruleset address_reading = (cut_short, address_accepted, address_refused)
