-- Round trips (demand 2): what is written is read back, and what is accepted is what writing it gives.
-- Assumes nothing.
use mathlib.Core.Path.{◌≡◌, sym, ap, ap₂, ◌∙◌}
use mathlib.Core.Bool.{true}
use mathlib.Core.List.{List, [], ◌∷◌, ◌++◌}
use Prim.Native.Nat.{ℕ, zero, suc, ◌+◌, ◌≤◌, ◌<◌}
use native.Mathlib.Nat.{zero-add}
use native.Mathlib.Omega.{arith}
use lib.ListN.{length, take, drop, length-append, get_or-append}
use lib.Seq.{get_or-append-add}
use borrow.Author.Tests.{le-leb}
use Rattle.reason.specs.Answer.{accepted}
use Rattle.reason.proofs.Bools.{and_both}
use Rattle.octets.specs.Numbers.{byte_at, AllBytes}
use Rattle.octets.specs.Runs.{has_room, put_in}
use Rattle.octets.proofs.RunLaws.{put_within, put_length, put_part, put_same, part_is}
use Rattle.ax25.specs.declared.Address.{Address}
use Rattle.ax25.specs.declared.Role.{Role}
use Rattle.ax25.specs.declared.Role.TheVariants.{Destination, Source}
use Rattle.ax25.specs.declared.Head.{Head}
use Rattle.ax25.specs.Address.{is_writable, address_bytes, address_at, well_formed, read_address, write_address}
use Rattle.ax25.specs.Head.{head_length, most_information, longest_frame, control, head_of, head_bytes, read_head, write_head}
use Rattle.ax25.proofs.SpellingLaws.{bytes_spell, bytes_are_formed, formed_is_writable, formed_in_list, formed_bytes, address_accepted, accepted_address}
use Rattle.ax25.proofs.HeadLaws.{reads_head, head_says}
use Rattle.ax25.proofs.WriteLaws.{address_written, written_address, head_written, written_head, three_runs}

-- addresses

-- the seven bytes of an address that can be written, wherever they stand, are read as that address
read_of_bytes : (role : Role) (a : Address) → is_writable a ≡ true → (s : List ℕ) (at : ℕ)
    → ((k : ℕ) → k < 7 → byte_at s (at + k) ≡ byte_at (address_bytes role a) k) → read_address role s at ≡ accepted a
read_of_bytes role a g s at bytes = address_accepted role s at (bytes_are_formed role a g s at bytes) ∙ ap accepted (bytes_spell role a g s at bytes)

-- what is written is read back
pub written_address_is_read : (role : Role) (out : List ℕ) (at : ℕ) (a : Address) (left : List ℕ)
    → write_address role out at a ≡ accepted left → read_address role left at ≡ accepted a
written_address_is_read role out at a left e =
    let w = written_address role out at a left e in
    ap (λ (l : List ℕ). read_address role l at) w.2 ∙ read_of_bytes role a w.0 (put_in out at (address_bytes role a)) at (put_within out at (address_bytes role a) w.1)

-- the bytes of an accepted address are what writing it gives, so writing it there again changes nothing
pub read_address_is_written : (role : Role) (s : List ℕ) (at : ℕ) (a : Address) → AllBytes s → read_address role s at ≡ accepted a
    → (take 7 (drop at s) ≡ address_bytes role a) × (write_address role s at a ≡ accepted s)
read_address_is_written role s at a all e =
    let k = accepted_address role s at a e in
    let w : well_formed role s at ≡ true = k.0 in
    let is : address_at s at ≡ a = sym k.1 in
    let bytes : take 7 (drop at s) ≡ address_bytes role a = formed_bytes role s at w ∙ ap (address_bytes role) is in
    let g : is_writable a ≡ true = ap is_writable (sym is) ∙ formed_is_writable role s at w all in
    let room : has_room s at (address_bytes role a) ≡ true = le-leb (at + 7) (length s) (formed_in_list role s at w) in
    (bytes, address_written role s at a g room ∙ ap accepted (put_same s at (address_bytes role a) bytes))

-- two addresses that can be written and have the same bytes are one
pub address_has_one_meaning : (role : Role) (a b : Address) → is_writable a ≡ true → is_writable b ≡ true
    → address_bytes role a ≡ address_bytes role b → a ≡ b
address_has_one_meaning role a b ga gb e =
    sym (bytes_spell role a ga (address_bytes role a) 0 (λ k l. ap (byte_at (address_bytes role a)) (zero-add k)))
    ∙ bytes_spell role b gb (address_bytes role a) 0 (λ k l. ap₂ byte_at e (zero-add k))

-- heads

-- a frame that begins with the bytes of a head whose addresses can be written, and is not too long, is read as that head
module _ (d s : Address) (protocol : ℕ) (gd : is_writable d ≡ true) (gs : is_writable s ≡ true) (frame : List ℕ) (long : head_length ≤ length frame) (short : length frame ≤ longest_frame) (bytes : (k : ℕ) → k < head_length → byte_at frame k ≡ byte_at (head_bytes d s protocol) k) where
  destination_byte : (k : ℕ) → k < 7 → byte_at frame (0 + k) ≡ byte_at (address_bytes Destination d) k
  unfolding head_bytes
  destination_byte k l =
      ap (byte_at frame) (zero-add k)
      ∙ bytes k (omega arith)
      ∙ get_or-append (address_bytes Destination d ++ address_bytes Source s) (control ∷ protocol ∷ []) 0 k (omega arith)
      ∙ get_or-append (address_bytes Destination d) (address_bytes Source s) 0 k l

  source_byte : (k : ℕ) → k < 7 → byte_at frame (7 + k) ≡ byte_at (address_bytes Source s) k
  unfolding head_bytes
  source_byte k l =
      bytes (7 + k) (omega arith)
      ∙ get_or-append (address_bytes Destination d ++ address_bytes Source s) (control ∷ protocol ∷ []) 0 (7 + k) (omega arith)
      ∙ get_or-append-add (address_bytes Destination d) (address_bytes Source s) k 0

  pub head_bytes_are_read : read_head protocol frame ≡ accepted (record { destination = d; source = s })
  unfolding head_of head_bytes
  head_bytes_are_read =
      let both = and_both _ _ (bytes_are_formed Destination d gd frame 0 destination_byte) (bytes_are_formed Source s gs frame 7 source_byte) in
      reads_head protocol frame long both (bytes 14 (omega arith)) (bytes 15 (omega arith)) (omega arith)
      ∙ ap₂ (λ (x y : Address). accepted (record { destination = x; source = y })) (bytes_spell Destination d gd frame 0 destination_byte) (bytes_spell Source s gs frame 7 source_byte)

-- .. whatever information follows the head, up to 255 bytes
pub head_before_information : (d s : Address) (protocol : ℕ) (information : List ℕ) → is_writable d ≡ true → is_writable s ≡ true → length information ≤ most_information
    → read_head protocol (head_bytes d s protocol ++ information) ≡ accepted (record { destination = d; source = s })
unfolding head_bytes
head_before_information d s protocol information gd gs h =
    let size = length-append (head_bytes d s protocol) information in
    head_bytes_are_read d s protocol gd gs (head_bytes d s protocol ++ information) (omega arith) (omega arith) (λ k l. get_or-append (head_bytes d s protocol) information 0 k l)

-- what is written is read back, where no more than 255 bytes of information follow
pub written_head_is_read : (out : List ℕ) (d s : Address) (protocol : ℕ) (left : List ℕ) → write_head out d s protocol ≡ accepted left
    → length out ≤ longest_frame → read_head protocol left ≡ accepted (record { destination = d; source = s })
unfolding head_bytes
written_head_is_read out d s protocol left e short =
    let w = written_head out d s protocol left e in
    let size : length left ≡ length out = ap length w.3 ∙ put_length out 0 (head_bytes d s protocol) w.2 in
    let bytes : (k : ℕ) → k < head_length → byte_at left k ≡ byte_at (head_bytes d s protocol) k = λ k l. ap₂ byte_at w.3 (sym (zero-add k)) ∙ put_within out 0 (head_bytes d s protocol) w.2 k l in
    let long : head_length ≤ length left = omega (arith, w.2) in
    head_bytes_are_read d s protocol w.0 w.1 left long (omega arith) bytes

-- the two bytes after the addresses
at_each : (frame : List ℕ) (protocol : ℕ) → byte_at frame 14 ≡ control → byte_at frame 15 ≡ protocol → (k : ℕ) → k < 2
    → byte_at frame (14 + k) ≡ byte_at (control ∷ protocol ∷ []) k
at_each frame protocol c p zero l = c
at_each frame protocol c p (suc zero) l = p
at_each frame protocol c p (suc (suc k)) l = absurd (omega arith)

two_bytes : (frame : List ℕ) (protocol : ℕ) → head_length ≤ length frame → byte_at frame 14 ≡ control → byte_at frame 15 ≡ protocol
    → take 2 (drop 14 frame) ≡ control ∷ protocol ∷ []
two_bytes frame protocol l c p = part_is frame 14 (control ∷ protocol ∷ []) l (at_each frame protocol c p)

-- the first 16 bytes of an accepted frame are what writing its head gives, so writing it there again changes nothing
pub read_head_is_written : (protocol : ℕ) (frame : List ℕ) (head : Head) → AllBytes frame → read_head protocol frame ≡ accepted head
    → (take head_length frame ≡ head_bytes head.destination head.source protocol) × (write_head frame head.destination head.source protocol ≡ accepted frame)
unfolding head_of head_bytes
read_head_is_written protocol frame head all e =
    let h = head_says protocol frame head e in
    let l = h.long in
    let d = head.destination in
    let s = head.source in
    let d_read : read_address Destination frame 0 ≡ accepted d = address_accepted Destination frame 0 h.destination ∙ ap (λ (x : Head). accepted x.destination) (sym h.is) in
    let s_read : read_address Source frame 7 ≡ accepted s = address_accepted Source frame 7 h.source ∙ ap (λ (x : Head). accepted x.source) (sym h.is) in
    let d_same : put_in frame 0 (address_bytes Destination d) ≡ frame = put_same frame 0 (address_bytes Destination d) (read_address_is_written Destination frame 0 d all d_read).0 in
    let s_same : put_in frame 7 (address_bytes Source s) ≡ frame = put_same frame 7 (address_bytes Source s) (read_address_is_written Source frame 7 s all s_read).0 in
    let two_same : put_in frame 14 (control ∷ protocol ∷ []) ≡ frame = put_same frame 14 (control ∷ protocol ∷ []) (two_bytes frame protocol l h.controlled h.of_protocol) in
    let same : put_in frame 0 (head_bytes d s protocol) ≡ frame =
    sym (three_runs frame d s protocol l)
    ∙ ap (λ (x : List ℕ). put_in (put_in x 7 (address_bytes Source s)) 14 (control ∷ protocol ∷ [])) d_same
    ∙ ap (λ (x : List ℕ). put_in x 14 (control ∷ protocol ∷ [])) s_same ∙ two_same in
    let d_good : is_writable d ≡ true = ap (λ (x : Head). is_writable x.destination) h.is ∙ formed_is_writable Destination frame 0 h.destination all in
    let s_good : is_writable s ≡ true = ap (λ (x : Head). is_writable x.source) h.is ∙ formed_is_writable Source frame 7 h.source all in
    (ap (take head_length) (sym same) ∙ put_part frame 0 (head_bytes d s protocol) l, head_written frame d s protocol (and_both (is_writable d) (is_writable s) d_good s_good) l ∙ ap accepted same)
