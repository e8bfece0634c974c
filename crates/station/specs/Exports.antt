-- What each function of the boundary was lent to write to, and its promise (01, "What the station does"): the answer of the
-- operation that it calls, and what the accepted values make of the lent numbers and lists. Here of receptions, their holes and records.
-- Assumes nothing.
use Rattle.std.specs.Prelude.{List, ℕ}
use Rattle.octets.specs.Runs.{put_in}
use Rattle.holes.specs.declared.Hole.{Hole}
use Rattle.reception.specs.Reception.{Reception}
use Rattle.reception.specs.Adding.{Offer, of_piece, of_reception, map_with, buffer_with}
use Rattle.reception.specs.Opening.{opening, opened_map, opened_buffer}
use Rattle.reception.specs.Joining.{joining}
use Rattle.holes.specs.Listing.{listing}
use Rattle.record.specs.Record.{record_of}
use Rattle.record.specs.Saving.{saving}
use Rattle.record.specs.Loading.{loading, loaded}
use Rattle.taking.specs.Taking.{piece_data_in, taking_frame}
use Rattle.station.specs.Lent.{Lent}
use Rattle.station.specs.Boundary.{Exported}

-- `station_open`
abbrev pub OpensOut : ℕ → Lent → ℕ → Lent → Type 0
OpensOut l lent =
    Exported (opening l lent.map lent.buffer) (λ u. record { map = opened_map l lent.map; buffer = opened_buffer l lent.buffer }) lent

-- the count of newly held positions, a map and a buffer
pub record Counted : Type 0 where
  pub new : ℕ
  pub map : List ℕ
  pub buffer : List ℕ

-- what an offer makes of them
abbrev pub counted_with : Reception → Offer → ℕ → Counted
counted_with s o n = record { new = n; map = map_with s o; buffer = buffer_with s o }

-- a reception of the file with a number and a length in what was lent
abbrev pub lent_to : ℕ → ℕ → Counted → Reception
lent_to number l lent = record { number = number; length = l; map = lent.map; buffer = lent.buffer }

-- `station_take`
abbrev pub TakesOut : ℕ → ℕ → List ℕ → Counted → ℕ → Counted → Type 0
TakesOut number l frame lent =
    let s = lent_to number l lent in
    Exported (taking_frame s frame) (counted_with s (of_piece (piece_data_in frame))) lent

-- `station_join`
abbrev pub JoinsOut : ℕ → ℕ → Reception → Counted → ℕ → Counted → Type 0
JoinsOut number l t lent =
    let s = lent_to number l lent in
    Exported (joining s t) (counted_with s (of_reception t)) lent

-- `station_list`: start and length of a hole
abbrev pub ListsOut : ℕ → List ℕ → ℕ → Hole → ℕ → Hole → Type 0
ListsOut l map place = Exported (listing l map place) (λ hole. hole)

-- how many bytes a record has, and the target
pub record Sized : Type 0 where
  pub size : ℕ
  pub target : List ℕ

-- `station_save`
abbrev pub SavesOut : Reception → Sized → ℕ → Sized → Type 0
SavesOut s lent = Exported (saving s lent.target) (λ n. record { size = n; target = put_in lent.target 0 (record_of s) }) lent

-- `station_load`: the number and the length of the file, the map and the buffer
abbrev pub LoadsOut : List ℕ → Reception → ℕ → Reception → Type 0
LoadsOut saved lent = Exported (loading saved lent.map lent.buffer) (λ x. loaded saved lent.map lent.buffer) lent
