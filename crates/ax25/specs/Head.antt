-- The head of a frame (01, "Frame"): destination, source, control 0x03 and the protocol; its reasons in their order.
-- Assumes nothing.
use Rattle.std.specs.Prelude.{not, ◌&&◌, List, [], ◌∷◌, ◌++◌, ℕ, ◌+◌, ◌-◌, ltb, eqb, length}
use Rattle.reason.specs.Answer.{Answer}
use Rattle.reason.specs.Order.{Check, check, first_of}
use Rattle.octets.specs.Numbers.{byte_at}
use Rattle.octets.specs.Runs.{put_in}
use Rattle.ax25.specs.declared.Address.{Address}
use Rattle.ax25.specs.declared.Role.TheVariants.{Destination, Source}
use Rattle.ax25.specs.declared.Head.{Head}
use Rattle.ax25.specs.Address.{is_writable, address_bytes, address_at, well_formed}

-- the bytes before the information: two addresses, control and protocol
abbrev pub head_length : ℕ
head_length = 16

-- the most bytes of information
abbrev pub most_information : ℕ
most_information = 255

-- the most bytes of a frame
abbrev pub longest_frame : ℕ
longest_frame = head_length + most_information

-- the control byte of every frame
abbrev pub control : ℕ
control = 0x03

-- "Order in a frame": 1 (below 16), 2, 3, 4, 7 (over 255)
unfoldable pub head_checks : ℕ → List ℕ → List Check
head_checks protocol frame =
    check (ltb (length frame) head_length) 1
    ∷ check (not (well_formed Destination frame 0 && well_formed Source frame 7)) 2
    ∷ check (not (eqb (byte_at frame 14) control)) 3
    ∷ check (not (eqb (byte_at frame 15) protocol)) 4
    ∷ check (ltb most_information (length frame - head_length)) 7
    ∷ []

-- what a head says: both addresses
unfoldable pub head_of : List ℕ → Head
head_of frame = record { destination = address_at frame 0; source = address_at frame 7 }

-- reading the head of a frame whose protocol is the one named
abbrev pub read_head : ℕ → List ℕ → Answer Head
read_head protocol frame = first_of (head_checks protocol frame) (head_of frame)

-- the 16 bytes of a head
unfoldable pub head_bytes : Address → Address → ℕ → List ℕ
head_bytes destination source protocol = address_bytes Destination destination ++ address_bytes Source source ++ control ∷ protocol ∷ []

-- the order in writing a head: 2 (either address), 12
abbrev pub head_write_checks : List ℕ → Address → Address → List Check
head_write_checks out destination source =
    check (not (is_writable destination && is_writable source)) 2
    ∷ check (ltb (length out) head_length) 12
    ∷ []

-- writing a head into the first bytes of a list
unfoldable pub write_head : List ℕ → Address → Address → ℕ → Answer (List ℕ)
write_head out destination source protocol =
    first_of (head_write_checks out destination source) (put_in out 0 (head_bytes destination source protocol))
