-- Bit 7 of a frame's two SSID bytes (02, C-12) decides nothing: whatever they are, a frame gets the same answer but for the bits.
-- Assumes nothing.
use mathlib.Core.Path.{◌≡◌, refl, sym, ap, ◌∙◌}
use mathlib.Core.Bool.{true, not, ◌&&◌}
use mathlib.Core.Logic.{⊎_elim}
use mathlib.Core.List.{List, [], ◌∷◌, ◌++◌, map}
use Prim.Native.Nat.{ℕ, zero, suc, ◌+◌, ◌*◌, ◌/◌, ◌%◌, ◌≤◌, ◌<◌}
use native.Mathlib.Nat.{div-div-eq-div-mul}
use native.Mathlib.Omega.{arith}
use lib.Dec.{eqb}
use lib.ListN.{length, set, drop, length-set}
use lib.Seq.{get_or-set_same, get_or-set_other}
use Rattle.std.specs.List.{list_all}
use Rattle.reason.specs.Answer.{telling}
use Rattle.reason.specs.Order.{Check, first_of}
use Rattle.reason.proofs.Bools.{and_left, and_right, le_or_lt}
use Rattle.reason.proofs.OrderLaws.{refused_then, first_telling}
use Rattle.octets.specs.Numbers.{byte_at}
use Rattle.octets.proofs.ValueLaws.{values_same}
use Rattle.ax25.specs.declared.Address.{Address}
use Rattle.ax25.specs.declared.Role.{Role}
use Rattle.ax25.specs.declared.Role.TheVariants.{Destination, Source}
use Rattle.ax25.specs.declared.Head.{Head}
use Rattle.ax25.specs.Address.{all_spaces, padded, is_name, is_writable, six_at, address_at, low_bits_clear, well_formed}
use Rattle.ax25.specs.Head.{head_length, head_checks, head_of, head_bytes}
use Rattle.ax25.specs.Information.{information_of}
use Rattle.ax25.specs.Bits.{address_with, head_with, byte_with, frame_with}
use Rattle.ax25.proofs.SpellingLaws.{number_of_writable, six_places}
use Rattle.ax25.proofs.HeadLaws.{reads_1}

-- a byte with another bit 7: its other bits stay

bit_told : (bit x : ℕ) → (bit * 128 + x % 128) / 128 ≡ bit
bit_told bit x = omega arith

bits_6_and_5 : (bit x : ℕ) → (bit * 128 + x % 128) / 32 % 4 ≡ x / 32 % 4
bits_6_and_5 bit x = omega (arith, div-div-eq-div-mul x 32 4)

number_stays : (bit x : ℕ) → (bit * 128 + x % 128) / 2 % 16 ≡ x / 2 % 16
number_stays bit x = omega (arith, div-div-eq-div-mul x 2 64)

last_stays : (bit x : ℕ) → (bit * 128 + x % 128) % 2 ≡ x % 2
last_stays bit x = omega arith

-- two addresses whose bytes differ in that bit alone: one is right exactly if the other is, and they spell the same but for the bit
module _ (s t : List ℕ) (at bit : ℕ) (same : (k : ℕ) → k < 6 → byte_at t (at + k) ≡ byte_at s (at + k)) (ssid : byte_at t (at + 6) ≡ bit * 128 + byte_at s (at + 6) % 128) where
  six_alike : six_at t at ≡ six_at s at
  six_alike = six_places t at ∙ values_same _ _ 0 6 same ∙ sym (six_places s at)

  spelled_alike : address_at t at ≡ address_with bit (address_at s at)
  unfolding address_at
  spelled_alike =
      let name : map (λ b. b / 2) (six_at t at) ≡ map (λ b. b / 2) (six_at s at) = ap (map (λ (b : ℕ). b / 2)) six_alike in
      rw (name, ssid, number_stays bit (byte_at s (at + 6)), bit_told bit (byte_at s (at + 6))) refl

  low_alike : low_bits_clear t at ≡ low_bits_clear s at
  low_alike = ap (list_all (λ (b : ℕ). eqb (b % 2) 0)) six_alike

  named_alike : is_name (address_at t at) ≡ is_name (address_at s at)
  unfolding is_name address_at
  named_alike = ap (λ (l : List ℕ). let name = map (λ (b : ℕ). b / 2) l in padded name && not (all_spaces name)) six_alike

  formed_alike : (role : Role) → well_formed role t at ≡ well_formed role s at
  unfolding well_formed
  formed_alike role = simp (low_alike, ssid, bits_6_and_5, last_stays, named_alike)

-- what stands behind a byte that is set
drop_set : (s : List ℕ) (at b n : ℕ) → at < n → drop n (set s at b) ≡ drop n s
drop_set s at b zero h = absurd (omega arith)
drop_set [] at b (suc n) h = refl
drop_set (x ∷ s) zero b (suc n) h = refl
drop_set (x ∷ s) (suc at) b (suc n) h = drop_set s at b n (omega arith)

module _ (to from : ℕ) (frame : List ℕ) where
  -- the two SSID bytes that are set, the source's first
  abbrev from_byte : ℕ
  from_byte = from * 128 + byte_at frame 13 % 128

  abbrev once : List ℕ
  once = byte_with 13 from frame

  abbrev to_byte : ℕ
  to_byte = to * 128 + byte_at once 6 % 128

  abbrev chosen : List ℕ
  chosen = frame_with to from frame

  as_long : length chosen ≡ length frame
  as_long = length-set once 6 to_byte ∙ length-set frame 13 from_byte

  pub information_stays : information_of chosen ≡ information_of frame
  information_stays = drop_set once 6 to_byte head_length (omega arith) ∙ drop_set frame 13 from_byte head_length (omega arith)

  other_byte : (k : ℕ) → (k ≡ 6 → ⊥) → (k ≡ 13 → ⊥) → byte_at chosen k ≡ byte_at frame k
  other_byte k n6 n13 = get_or-set_other once 6 k to_byte 0 n6 ∙ get_or-set_other frame 13 k from_byte 0 n13

  module _ (long : head_length ≤ length frame) where
    destination_ssid : byte_at chosen 6 ≡ to * 128 + byte_at frame 6 % 128
    destination_ssid =
        get_or-set_same once 6 to_byte 0 (omega (arith, length-set frame 13 from_byte))
        ∙ ap (λ (b : ℕ). to * 128 + b % 128) (get_or-set_other frame 13 6 from_byte 0 (λ e. omega (arith, e)))

    source_ssid : byte_at chosen 13 ≡ from * 128 + byte_at frame 13 % 128
    source_ssid = get_or-set_other once 6 13 to_byte 0 (λ e. omega (arith, e)) ∙ get_or-set_same frame 13 from_byte 0 (omega arith)

    before_6 : (k : ℕ) → k < 6 → byte_at chosen (0 + k) ≡ byte_at frame (0 + k)
    before_6 k l = other_byte (0 + k) (λ e. omega (arith, e)) (λ e. omega (arith, e))

    before_13 : (k : ℕ) → k < 6 → byte_at chosen (7 + k) ≡ byte_at frame (7 + k)
    before_13 k l = other_byte (7 + k) (λ e. omega (arith, e)) (λ e. omega (arith, e))

    pub head_chosen : head_of chosen ≡ head_with to from (head_of frame)
    unfolding head_of
    head_chosen = rw (spelled_alike frame chosen 0 to before_6 destination_ssid, spelled_alike frame chosen 7 from before_13 source_ssid)

    pub checks_stay : (protocol : ℕ) → head_checks protocol chosen ≡ head_checks protocol frame
    unfolding head_checks
    checks_stay protocol =
        let d = formed_alike frame chosen 0 to before_6 destination_ssid Destination in
        let s = formed_alike frame chosen 7 from before_13 source_ssid Source in
        let c = other_byte 14 (λ e. omega (arith, e)) (λ e. omega (arith, e)) in
        let p = other_byte 15 (λ e. omega (arith, e)) (λ e. omega (arith, e)) in
        rw (as_long, d, s, c, p)

  -- every reader of a frame: the head's reasons, then those of the information, and fields of both
  module _ {A : Type 0} (protocol : ℕ) (checks : List ℕ → List Check) (fields : Head → List ℕ → A) (with_bits : A → A) (carried : (head : Head) (s : List ℕ) → fields (head_with to from head) s ≡ with_bits (fields head s)) where
    pub but_for_bits : first_of (head_checks protocol chosen ++ checks (information_of chosen)) (fields (head_of chosen) (information_of chosen)) ≡
        telling with_bits (first_of (head_checks protocol frame ++ checks (information_of frame)) (fields (head_of frame) (information_of frame)))
    but_for_bits =
        ⊎_elim
        (λ l. rw (checks_stay l protocol, head_chosen l, information_stays, carried (head_of frame) (information_of frame))
        (first_telling with_bits (head_checks protocol frame ++ checks (information_of frame)) (fields (head_of frame) (information_of frame))))
        (λ l.
        refused_then (head_checks protocol chosen) _ (head_of chosen) _ 1 (reads_1 protocol chosen (omega (arith, as_long)))
        ∙ ap (telling with_bits) (sym (refused_then (head_checks protocol frame) (checks (information_of frame)) (head_of frame) _ 1 (reads_1 protocol frame l))))
        (le_or_lt head_length (length frame))

-- the SSID byte of an address that can be written, with another bit
ssid_with : (bit other number last : ℕ) → number < 16 → last < 2
    → bit * 128 + 0x60 + number * 2 + last ≡ bit * 128 + (other * 128 + 0x60 + number * 2 + last) % 128
ssid_with bit other number last n l = omega arith

-- a head that is written for addresses with other bits, whatever is behind it, is the same frame with these bits
pub written_with : (to from : ℕ) (d s : Address) (protocol : ℕ) (information : List ℕ) → (is_writable d && is_writable s) ≡ true
    → head_bytes (address_with to d) (address_with from s) protocol ++ information ≡ frame_with to from (head_bytes d s protocol ++ information)
unfolding head_bytes
written_with to from d s protocol information w =
    let n = number_of_writable d (and_left _ (is_writable s) w) in
    let m = number_of_writable s (and_right (is_writable d) _ w) in
    rw (ssid_with to d.bit7 d.number 0 n (omega arith), ssid_with from s.bit7 s.number 1 m (omega arith)) refl
