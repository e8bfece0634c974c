-- The worked cases of 01, "Both sides of the line", that are to be proved: one list, about the definitions that the promises cite.
-- Assumes nothing.
use Rattle.std.specs.Prelude.{◌≡◌, List, [], ◌∷◌, ℕ, length, drop, replicate}
use Rattle.reason.specs.Answer.{accepted, refused}
use Rattle.remainder.specs.Remainder.{remainder_of}
use Rattle.remainder.specs.Figure.{figure32}
use Rattle.ax25.specs.declared.Role.TheVariants.{Destination, Source}
use Rattle.ax25.specs.Address.{read_address, write_address}
use Rattle.ax25.specs.Information.{information_of}
use Rattle.ax25.specs.Examples.{va3sfl, va3sfl_bytes, uosat5, uosat5_bytes}
use Rattle.header.specs.Header.{header_sum}
use Rattle.header.specs.Figure.{figure31}
use Rattle.frame.specs.Piece.{read_piece}
use Rattle.reception.specs.Reception.{Reception}
use Rattle.reception.specs.Opening.{opening}
use Rattle.reception.specs.Joining.{joining, joined}
use Rattle.holes.specs.EveryHole.{listed_from}
use Rattle.request.specs.Writing.{Wanted, filling, fill_frame}
use Rattle.taking.specs.Taking.{taking_frame}
use Rattle.taking.specs.Examples.{frame_at, front, opened_twenty, longest_file}
use Rattle.station.specs.Sequences.{taken_frames}

-- a reception of file 7 with length 20, opened in space that held something else, after frames
abbrev pub twenty : List (List ℕ) → Reception
twenty frames = taken_frames opened_twenty frames

-- what its station asks for
abbrev pub wanted : Reception → Wanted
wanted s = record { head = record { destination = uosat5 11; source = va3sfl }; number = s.number; length = s.length; map = s.map }

-- CDEFGHIJ at 2, EF at 8
abbrev pub middle : List ℕ
middle = frame_at 2 (0x43 ∷ 0x44 ∷ 0x45 ∷ 0x46 ∷ 0x47 ∷ 0x48 ∷ 0x49 ∷ 0x4A ∷ [])

abbrev pub later : List ℕ
later = frame_at 8 (0x45 ∷ 0x46 ∷ [])

pub record Cases : Type 0 where
  -- "L 0 is refused 7; 1 and 32,768 open; 32,769 is refused 7"
  pub length_0 : (map buffer : List ℕ) → opening 0 map buffer ≡ refused 7
  pub length_1 : opening 1 (0xFF ∷ []) (0xFF ∷ []) ≡ accepted tt
  pub length_32768 : opening 32768 (replicate 4096 0xFF) (replicate 32768 0xFF) ≡ accepted tt
  pub length_32769 : (map buffer : List ℕ) → opening 32769 map buffer ≡ refused 7
  -- "L 32,768: a one-byte piece at 32,767 is accepted, at 32,768 refused 10"
  pub at_32767 : taking_frame longest_file (frame_at 32767 (0x41 ∷ [])) ≡ accepted 1
  pub at_32768 : taking_frame longest_file (frame_at 32768 (0x41 ∷ [])) ≡ refused 10
  -- "the two addresses above, both ways; SSID byte 6C in a source is refused 2"
  pub va3sfl_written : write_address Destination (replicate 7 0) 0 va3sfl ≡ accepted va3sfl_bytes
  pub va3sfl_read : read_address Destination va3sfl_bytes 0 ≡ accepted va3sfl
  pub uosat5_written : write_address Source (replicate 7 0) 0 (uosat5 11) ≡ accepted (uosat5_bytes 0x77)
  pub uosat5_read : read_address Source (uosat5_bytes 0x77) 0 ≡ accepted (uosat5 11)
  pub ssid_6c : read_address Source (uosat5_bytes 0x6C) 0 ≡ refused 2
  -- "the first 80 bytes of figure 3.1 have the sum 0x0DB6, the 80 header bytes of figure 3.2 0x0C84"
  pub sum_of_figure_3_1 : (length figure31 ≡ 80) × (header_sum figure31 ≡ 0x0DB6)
  pub sum_of_figure_3_2 : (length (drop 17 figure32) ≡ 80) × (header_sum (drop 17 figure32) ≡ 0x0C84)
  -- "the first 97 bytes of figure 3.2 have remainder 9D 3D"
  pub remainder_of_figure_3_2 : (length figure32 ≡ 97) × (remainder_of figure32 ≡ 0x9D3D)
  -- "9 header bytes and a right check without data: 7"
  pub without_data : (read_piece (frame_at 0 []) ≡ refused 7) × (taking_frame (twenty []) (frame_at 0 []) ≡ refused 7)
  -- "L 20, number 7, held 0–3 and 8–9: holes (4, 4) and (10, 10); request information 11 07 00 00 00 F4 00 04 00 00 04 00 0A 00 00 0A
  -- 00"
  pub held_0_3_and_8_9 : (twenty (front ∷ later ∷ [])).map ≡ 0x0F ∷ 0x03 ∷ 0x00 ∷ []
  pub holes_4_and_10 : listed_from 20 20 (twenty (front ∷ later ∷ [])).map 0 ≡ record { start = 4; length = 4 } ∷ record { start = 10; length = 10 } ∷ []
  pub request_information : information_of (fill_frame (wanted (twenty (front ∷ later ∷ []))) 0) ≡
      0x11 ∷ 0x07 ∷ 0x00 ∷ 0x00 ∷ 0x00 ∷ 0xF4 ∷ 0x00 ∷ 0x04 ∷ 0x00 ∷ 0x00 ∷ 0x04 ∷ 0x00 ∷ 0x0A ∷ 0x00 ∷ 0x00 ∷ 0x0A ∷ 0x00 ∷ []
  pub request_written : filling (wanted (twenty (front ∷ later ∷ []))) 0 (replicate 33 0) ≡ accepted (record { count = 2; end = 20 })
  -- "L 20, held 0–3 joined with an agreeing 2–9: 6 new, map FF 03 00"
  pub six_new : joining (twenty (front ∷ [])) (twenty (middle ∷ [])) ≡ accepted 6
  pub joined_map : (joined (twenty (front ∷ [])) (twenty (middle ∷ []))).map ≡ 0xFF ∷ 0x03 ∷ 0x00 ∷ []
  -- "a repeated piece returns 0; one differing at a held byte is refused 11"
  pub repeat_returns_0 : taking_frame (twenty (front ∷ later ∷ [])) front ≡ accepted 0
  pub differing : taking_frame (twenty (front ∷ later ∷ [])) (frame_at 2 (0x43 ∷ 0x45 ∷ [])) ≡ refused 11
