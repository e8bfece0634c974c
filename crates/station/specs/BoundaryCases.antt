-- Worked cases of the boundary (01, "What the station does"): every value that a function tells, and what it leaves of lent numbers and
-- bytes, most of which were 9 before.
-- Assumes nothing.
use Rattle.std.specs.Prelude.{◌≡◌, false, List, [], ◌∷◌, ◌++◌, ℕ, ◌+◌, ◌*◌, ◌^◌, set, drop, replicate, None}
use Rattle.remainder.specs.Check.{with_check}
use Rattle.remainder.specs.Figure.{figure32}
use Rattle.ax25.specs.declared.Head.{Head}
use Rattle.ax25.specs.Address.{is_writable}
use Rattle.ax25.specs.Head.{head_bytes}
use Rattle.ax25.specs.Bits.{address_with}
use Rattle.ax25.specs.Examples.{va3sfl, uosat5}
use Rattle.frame.specs.Making.{piece_frame}
use Rattle.request.specs.Writing.{Wanted}
use Rattle.station.specs.AddressNumber.{address_number, address_of}
use Rattle.station.specs.Exports.{OpensOut, Counted, TakesOut, JoinsOut, ListsOut, SavesOut, LoadsOut}
use Rattle.station.specs.FrameExports.{PieceOut, EntryTold, EntryOut, HeaderTold, HeaderOut, extension_number, uploaded_of, upload_of}
use Rattle.station.specs.RequestExports.{head_told, WrittenRequest, FillsOut, StartsOut, RequestOut, HoleOut}
use Rattle.taking.specs.Examples.{front}
use Rattle.station.specs.Cases.{twenty, middle, later}

-- VA3SFL-0 and UOSAT5-11 as numbers
abbrev pub va3sfl_number : ℕ
va3sfl_number = 0x004C4653334156

abbrev pub uosat5_number : ℕ
uosat5_number = 0x0B355441534F55

-- .. and with an eighth byte, which is bit 7
abbrev pub eighth : ℕ → ℕ → ℕ
eighth bit n = bit * 256 ^ 7 + n

-- a piece of three bytes whose fields all differ
abbrev pub three_bytes : List ℕ
three_bytes =
    let head : Head = record { destination = va3sfl; source = uosat5 11 } in
    piece_frame (record { head = head; number = 0x01020304; kind = 5; offset = 0x060708 }) (0x41 ∷ 0x42 ∷ 0x43 ∷ [])

-- figure 3.2 with bytes that all differ in flags, number, times and item 01, and the sum to match
abbrev pub entry_frame : List ℕ
entry_frame =
    head_bytes va3sfl (uosat5 11) 0xBD
    ++ with_check (0x60 ∷ 0x67 ∷ 0xAE ∷ 0x02 ∷ 0x01 ∷ 0x00 ∷ 0x00 ∷ 0x00 ∷ 0x00 ∷ 0x11 ∷ 0x12 ∷ 0x13 ∷ 0x14 ∷ 0x21 ∷ 0x22 ∷ 0x23 ∷ 0x24 ∷ []
    ++ set (set (set (drop 17 figure32) 7 0x02) 8 0x01) 70 0x87)

abbrev pub entry_lent : EntryTold
entry_lent = record { told = replicate 9 9; values = replicate 12 9 }

-- the values of figure 3.2's header, with a sum and the body's offset
abbrev pub figure_values : ℕ → ℕ → List ℕ
figure_values sum body =
    0x3432313139394C42 ∷ 0x202020 ∷ 0x06E0 ∷ 0x383B2D49 ∷ 0x383C7EE1 ∷ 0 ∷ 0xCA ∷ 0x44FB ∷ sum ∷ body ∷ 1 ∷ 0x383C7EE0 ∷ []

-- the start of a file: the header of figure 3.2 with item 0B beyond the header's length, so that the two differ, and the sum to match;
-- two bytes more behind it
abbrev pub file_start : List ℕ
file_start = set (set (drop 17 figure32) 75 0x60) 70 0x94 ++ 0x41 ∷ 0x42 ∷ []

abbrev pub header_lent : HeaderTold
header_lent = record { size = 9; values = replicate 12 9 }

-- lent for a count, a map and a buffer
abbrev pub counted : ℕ → List ℕ → List ℕ → Counted
counted n map buffer = record { new = n; map = map; buffer = buffer }

-- a request of one address by another, as numbers
abbrev pub asked : ℕ → ℕ → Wanted
asked destination source = record { head = head_told destination source; number = 7; length = 20; map = 0x0F ∷ 0x00 ∷ 0x00 ∷ [] }

-- its head, of UOSAT5-11 by VA3SFL-0
abbrev pub asked_head : List ℕ
asked_head = 0xAA ∷ 0x9E ∷ 0xA6 ∷ 0x82 ∷ 0xA8 ∷ 0x6A ∷ 0x76 ∷ 0xAC ∷ 0x82 ∷ 0x66 ∷ 0xA6 ∷ 0x8C ∷ 0x98 ∷ 0x61 ∷ 0x03 ∷ 0xBB ∷ []

abbrev pub request_lent : WrittenRequest
request_lent = record { count = 9; end = 9; target = replicate 30 9 }

-- one with two holes
abbrev pub two_holes : List ℕ
two_holes = asked_head ++ 0x11 ∷ 0x07 ∷ 0x00 ∷ 0x00 ∷ 0x00 ∷ 0xF4 ∷ 0x00 ∷ 0x04 ∷ 0x00 ∷ 0x00 ∷ 0x05 ∷ 0x00 ∷ 0x0A ∷ 0x00 ∷ 0x00 ∷ 0x08 ∷ 0x00 ∷ []

-- the record of 01's hole program
abbrev pub sample : List ℕ
sample =
    0x01 ∷ 0x04 ∷ 0x00 ∷ 0x07 ∷ 0x00 ∷ 0x00 ∷ 0x00 ∷ 0x02 ∷ 0x04 ∷ 0x00 ∷ 0x14 ∷ 0x00 ∷ 0x00 ∷ 0x00 ∷
    0x03 ∷ 0x03 ∷ 0x00 ∷ 0x0F ∷ 0x03 ∷ 0x00 ∷ 0x04 ∷ 0x14 ∷ 0x00 ∷
    0x41 ∷ 0x42 ∷ 0x43 ∷ 0x44 ∷ 0x00 ∷ 0x00 ∷ 0x00 ∷ 0x00 ∷ 0x45 ∷ 0x46 ∷ replicate 10 0

pub record BoundaryCases : Type 0 where
  pub va3sfl_as_number : (address_number va3sfl ≡ va3sfl_number) × (address_of va3sfl_number ≡ va3sfl)
  pub uosat5_as_number : (address_number (uosat5 11) ≡ uosat5_number) × (address_of uosat5_number ≡ uosat5 11)
  pub bit_as_number : (address_number (address_with 1 (uosat5 11)) ≡ eighth 1 uosat5_number) × (address_of (eighth 1 uosat5_number) ≡ address_with 1 (uosat5 11))
  pub bit_above_1 : is_writable (address_of (eighth 2 uosat5_number)) ≡ false
  pub open_out : OpensOut 8 (record { map = replicate 2 9; buffer = replicate 9 9 }) 0 (record { map = 0 ∷ 9 ∷ []; buffer = replicate 8 0 ++ 9 ∷ [] })
  pub take_out : TakesOut 7 20 front (counted 9 (replicate 4 0) (replicate 21 9)) 0
      (counted 4 (0x0F ∷ 0 ∷ 0 ∷ 0 ∷ []) (0x41 ∷ 0x42 ∷ 0x43 ∷ 0x44 ∷ replicate 17 9))
  pub take_refused : TakesOut 8 20 front (counted 5 (replicate 4 0) (replicate 21 9)) 9 (counted 5 (replicate 4 0) (replicate 21 9))
  pub join_out : JoinsOut 7 20 (twenty (middle ∷ [])) (counted 9 (0x0F ∷ 0 ∷ 0 ∷ []) (0x41 ∷ 0x42 ∷ 0x43 ∷ 0x44 ∷ replicate 16 9)) 0
      (counted 6 (0xFF ∷ 0x03 ∷ 0 ∷ [])
      (0x41 ∷ 0x42 ∷ 0x43 ∷ 0x44 ∷ 0x45 ∷ 0x46 ∷ 0x47 ∷ 0x48 ∷ 0x49 ∷ 0x4A ∷ replicate 10 9))
  pub list_out : ListsOut 20 (0x0F ∷ 0x00 ∷ 0x00 ∷ []) 0 (record { start = 9; length = 9 }) 0 (record { start = 4; length = 16 })
  pub save_out : SavesOut (twenty (front ∷ later ∷ [])) (record { size = 9; target = replicate 44 9 }) 0
      (record { size = 43; target = sample ++ 9 ∷ [] })
  pub load_out : LoadsOut sample (record { number = 9; length = 9; map = replicate 4 9; buffer = replicate 21 9 }) 0
      (record {
        number = 7;
        length = 20;
        map = 0x0F ∷ 0x03 ∷ 0x00 ∷ 9 ∷ [];
        buffer = 0x41 ∷ 0x42 ∷ 0x43 ∷ 0x44 ∷ 0 ∷ 0 ∷ 0 ∷ 0 ∷ 0x45 ∷ 0x46 ∷ replicate 10 0 ++ 9 ∷ [];
      })
  pub piece_out : PieceOut three_bytes (replicate 7 9) 0 (va3sfl_number ∷ uosat5_number ∷ 0x01020304 ∷ 5 ∷ 0x060708 ∷ 25 ∷ 3 ∷ [])
  pub piece_refused : PieceOut [] (replicate 7 9) 1 (replicate 7 9)
  pub entry_out : EntryOut entry_frame entry_lent 0
      (record {
        told = va3sfl_number ∷ uosat5_number ∷ 0x60 ∷ 0x0102AE67 ∷ 0 ∷ 0x14131211 ∷ 0x24232221 ∷ 33 ∷ 80 ∷ [];
        values = figure_values 0x0C87 0x50;
      })
  pub header_out : HeaderOut file_start 0xAE67 header_lent 0
      (record { size = 80; values = figure_values 0x0C94 0x60 })
  pub header_of_another : HeaderOut file_start 0xAE68 header_lent 8 header_lent
  pub header_broken : HeaderOut (set file_start 70 0x84) 0xAE67 header_lent 8 header_lent
  pub extension_out : extension_number (1 ∷ 2 ∷ 3 ∷ []) ≡ 0x030201
  pub no_upload : (uploaded_of None ≡ 0) × (upload_of None ≡ 0)
  pub write_request_out : FillsOut (asked uosat5_number va3sfl_number) 0 request_lent 0
      (record { count = 1; end = 20; target = asked_head ++ 0x11 ∷ 0x07 ∷ 0x00 ∷ 0x00 ∷ 0x00 ∷ 0xF4 ∷ 0x00 ∷ 0x04 ∷ 0x00 ∷ 0x00 ∷ 0x10 ∷ 0x00 ∷ 9 ∷ 9 ∷ [] })
  pub write_request_refused : FillsOut (asked (eighth 2 uosat5_number) va3sfl_number) 0 request_lent 2 request_lent
  pub write_start_out : StartsOut (head_told uosat5_number va3sfl_number) 7 (replicate 24 9) 0
      (asked_head ++ 0x10 ∷ 0x07 ∷ 0x00 ∷ 0x00 ∷ 0x00 ∷ 0xF4 ∷ 0x00 ∷ 9 ∷ [])
  pub read_request_out : RequestOut two_holes (replicate 5 9) 0 (uosat5_number ∷ va3sfl_number ∷ 0x11 ∷ 7 ∷ 2 ∷ [])
  pub hole_out : HoleOut two_holes 1 (record { start = 9; length = 9 }) 0 (record { start = 10; length = 8 })
  pub hole_beyond : HoleOut two_holes 2 (record { start = 9; length = 9 }) 0 (record { start = 0; length = 0 })
