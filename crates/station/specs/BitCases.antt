-- Worked cases of bit 7 of both SSID bytes (02, C-12), at the boundary: each combination through readers and writers.
-- Assumes nothing.
use Rattle.std.specs.Prelude.{List, [], ◌∷◌, ◌++◌, ℕ, replicate}
use Rattle.ax25.specs.Examples.{uosat5_bytes, qst_bytes, ssids}
use Rattle.remainder.specs.Check.{with_check}
use Rattle.taking.specs.Examples.{front}
use Rattle.station.specs.Exports.{TakesOut}
use Rattle.station.specs.FrameExports.{PieceOut}
use Rattle.station.specs.RequestExports.{head_told, FillsOut, StartsOut, RequestOut}
use Rattle.station.specs.BoundaryCases.{va3sfl_number, uosat5_number, eighth, three_bytes, counted, asked, asked_head, request_lent}

-- a piece from UOSAT5-11 to VA3SFL-0 with two SSID bytes is read, with these bits
abbrev pub PieceWith : ℕ → ℕ → ℕ → ℕ → Type 0
PieceWith to from bit bit' =
    PieceOut (ssids to from three_bytes) (replicate 7 9) 0 (eighth bit va3sfl_number ∷ eighth bit' uosat5_number ∷ 0x01020304 ∷ 5 ∷ 0x060708 ∷ 25 ∷ 3 ∷ [])

-- a frame is taken in as `front` is
abbrev pub TakenAlike : List ℕ → Type 0
TakenAlike frame =
    TakesOut 7 20 frame (counted 9 (replicate 4 0) (replicate 21 9)) 0
    (counted 4 (0x0F ∷ 0 ∷ 0 ∷ 0 ∷ []) (0x41 ∷ 0x42 ∷ 0x43 ∷ 0x44 ∷ replicate 17 9))

-- a request of UOSAT5-11 by VA3SFL-0 for the start is written with two bits, and one for a hole is written and read with them
abbrev pub start_frame : ℕ → ℕ → List ℕ
start_frame to from = ssids to from asked_head ++ 0x10 ∷ 0x07 ∷ 0x00 ∷ 0x00 ∷ 0x00 ∷ 0xF4 ∷ 0x00 ∷ []

abbrev pub StartWith : ℕ → ℕ → ℕ → ℕ → Type 0
StartWith to from bit bit' = StartsOut (head_told (eighth bit uosat5_number) (eighth bit' va3sfl_number)) 7 (replicate 24 9) 0 (start_frame to from ++ 9 ∷ [])

abbrev pub hole_frame : ℕ → ℕ → List ℕ
hole_frame to from = ssids to from asked_head ++ 0x11 ∷ 0x07 ∷ 0x00 ∷ 0x00 ∷ 0x00 ∷ 0xF4 ∷ 0x00 ∷ 0x04 ∷ 0x00 ∷ 0x00 ∷ 0x10 ∷ 0x00 ∷ []

abbrev pub FillWith : ℕ → ℕ → ℕ → ℕ → Type 0
FillWith to from bit bit' =
    FillsOut (asked (eighth bit uosat5_number) (eighth bit' va3sfl_number)) 0 request_lent 0 (record { count = 1; end = 20; target = hole_frame to from ++ 9 ∷ 9 ∷ [] })
    × RequestOut (hole_frame to from) (replicate 5 9) 0 (eighth bit uosat5_number ∷ eighth bit' va3sfl_number ∷ 0x11 ∷ 7 ∷ 1 ∷ [])

-- a piece as Direwolf sends it, from UOSAT5-11 to QST-1, both bits set: ABCD of file 7 at 0
abbrev pub from_direwolf : List ℕ
from_direwolf =
    qst_bytes
    ++ uosat5_bytes 0xF7
    ++ 0x03 ∷ 0xBB ∷ with_check (0x02 ∷ 0x07 ∷ 0x00 ∷ 0x00 ∷ 0x00 ∷ 0x00 ∷ 0x00 ∷ 0x00 ∷ 0x00 ∷ 0x41 ∷ 0x42 ∷ 0x43 ∷ 0x44 ∷ [])

pub record BitCases : Type 0 where
  pub piece_destination : PieceWith 0xE0 0x77 1 0
  pub piece_source : PieceWith 0x60 0xF7 0 1
  pub piece_both : PieceWith 0xE0 0xF7 1 1
  pub piece_6c : PieceOut (ssids 0x60 0x6C three_bytes) (replicate 7 9) 2 (replicate 7 9)
  pub piece_ec : PieceOut (ssids 0xE0 0xEC three_bytes) (replicate 7 9) 2 (replicate 7 9)
  pub piece_bit_6_clear : PieceOut (ssids 0xA0 0x77 three_bytes) (replicate 7 9) 2 (replicate 7 9)
  pub piece_bit_5_clear : PieceOut (ssids 0xC0 0x77 three_bytes) (replicate 7 9) 2 (replicate 7 9)
  pub direwolf_read : PieceOut from_direwolf (replicate 7 9) 0 (0x0101202020545351 ∷ 0x010B355441534F55 ∷ 7 ∷ 0 ∷ 0 ∷ 25 ∷ 4 ∷ [])
  pub direwolf_taken : TakenAlike from_direwolf
  pub taken_destination : TakenAlike (ssids 0xE0 0x77 front)
  pub taken_source : TakenAlike (ssids 0x60 0xF7 front)
  pub taken_both : TakenAlike (ssids 0xE0 0xF7 front)
  pub start_destination : StartWith 0xF6 0x61 1 0
  pub start_source : StartWith 0x76 0xE1 0 1
  pub start_both : StartWith 0xF6 0xE1 1 1
  pub fill_destination : FillWith 0xF6 0x61 1 0
  pub fill_source : FillWith 0x76 0xE1 0 1
  pub fill_both : FillWith 0xF6 0xE1 1 1
  pub start_of_2 : StartsOut (head_told uosat5_number (eighth 2 va3sfl_number)) 7 (replicate 24 9) 2 (replicate 24 9)
