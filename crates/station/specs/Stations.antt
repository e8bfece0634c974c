-- Stations that collect one file from frames, and every reception of it that is made (demand 3).
-- Assumes nothing.
use Rattle.std.specs.Prelude.{◌≡◌, false, List, [], ◌∷◌, ◌++◌, ℕ, ◌^◌, ◌<◌}
use Rattle.reason.specs.Answer.{accepted}
use Rattle.octets.specs.Numbers.{AllBytes}
use Rattle.reception.specs.Reception.{Reception, short_space}
use Rattle.reception.specs.Opening.{opening, opened}
use Rattle.reception.specs.Joining.{joined}
use Rattle.record.specs.Record.{record_of}
use Rattle.record.specs.Loading.{loaded}
use Rattle.taking.specs.Taking.{taken_frame}
use Rattle.station.specs.Sequences.{taken_frames, AgreesIfFits, AllAgree}

-- A station: the map (a list of bytes) and the buffer that it was lent, of any length in which the file opens, and the frames that it
-- takes in, of which every piece that fits the file agrees with it. Loss, repeats and order are free.
pub record Station (number l : ℕ) (file : List ℕ) : Type 0 where
  pub map : List ℕ
  pub buffer : List ℕ
  pub bytes : AllBytes map
  pub opens : opening l map buffer ≡ accepted tt
  pub frames : List (List ℕ)
  pub agree : AllAgree number l file frames

-- its reception when the file has been opened
abbrev pub fresh : {number l : ℕ} {file : List ℕ} → Station number l file → Reception
fresh {number} {l} a = opened number l a.map a.buffer

-- .. and when the frames have been taken in
abbrev pub reception_of : {number l : ℕ} {file : List ℕ} → Station number l file → Reception
reception_of a = taken_frames (fresh a) a.frames

-- Every reception of the file that comes of opening, taking frames in, joining, saving and loading, in any order.
pub data Made (number l : ℕ) (file : List ℕ) : Reception → Type 0 where
  -- the file is opened in a map (a list of bytes) and a buffer, of any length in which it opens
  by_opening : (map buffer : List ℕ) → AllBytes map → opening l map buffer ≡ accepted tt → Made number l file (opened number l map buffer)
  -- a frame is taken in, and accepted or refused; if it is a piece that fits the file, it agrees with it
  by_taking : (s : Reception) (frame : List ℕ) → Made number l file s → AgreesIfFits number l file frame → Made number l file (taken_frame s frame)
  -- another is joined into it
  by_joining : (s t : Reception) → Made number l file s → Made number l file t → Made number l file (joined s t)
  -- it is saved, and its record is loaded into a map (a list of bytes) and a buffer, of any length that is enough; the file's number has
  -- four bytes, as the record's has
  by_loading : (s : Reception) (map buffer : List ℕ) → Made number l file s → number < 256 ^ 4 → AllBytes map → short_space l map buffer ≡ false
      → Made number l file (loaded (record_of s) map buffer)

-- the frames that went into it: its own, and those of what was joined into it; saving and loading add none
abbrev pub frames_in : {number l : ℕ} {file : List ℕ} {s : Reception} → Made number l file s → List (List ℕ)
frames_in (by_opening map buffer bytes opens) = []
frames_in (by_taking s frame m agree) = frames_in m ++ frame ∷ []
frames_in (by_joining s t m n) = frames_in m ++ frames_in n
frames_in (by_loading s map buffer m four bytes room) = frames_in m
