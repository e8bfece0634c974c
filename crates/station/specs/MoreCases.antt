-- Worked cases beyond those that 01 marks to be proved: what the definitions of the station must also say.
-- Assumes nothing.
use Rattle.std.specs.Prelude.{◌≡◌, false, List, [], ◌∷◌, ◌++◌, ℕ, set, take, replicate}
use Rattle.reason.specs.Answer.{accepted}
use Rattle.octets.specs.Lists.{OneOf}
use Rattle.ax25.specs.Examples.{va3sfl, uosat5}
use Rattle.frame.specs.Making.{piece_frame}
use Rattle.reception.specs.Reception.{Reception}
use Rattle.reception.specs.Joining.{joined}
use Rattle.holes.specs.Listing.{listing}
use Rattle.record.specs.Record.{record_of}
use Rattle.record.specs.Loading.{loaded}
use Rattle.taking.specs.Taking.{taken_frame}
use Rattle.taking.specs.Examples.{frame_at, front}
use Rattle.station.specs.Sequences.{covered_in}
use Rattle.station.specs.Stations.{Station, reception_of, Made}
use Rattle.station.specs.Cases.{twenty}
use Rattle.station.specs.BoundaryCases.{entry_frame}

-- a file, and what a station hears of it: a piece, one of another file, one that ends beyond the file, one that was damaged on its
-- way, one of which only the first twenty bytes came, a directory entry, and the first again
abbrev pub file : List ℕ
file = 0x41 ∷ 0x42 ∷ 0x43 ∷ 0x44 ∷ replicate 16 0x45

abbrev pub of_another : List ℕ
of_another = piece_frame (record { head = record { destination = va3sfl; source = uosat5 11 }; number = 8; kind = 0; offset = 0 }) (0x00 ∷ [])

abbrev pub heard : List (List ℕ)
heard = front ∷ of_another ∷ frame_at 19 (0x00 ∷ 0x00 ∷ []) ∷ set front 25 0x00 ∷ take 20 front ∷ entry_frame ∷ front ∷ []

-- two more pieces of the file
abbrev pub ten : List ℕ
ten = frame_at 10 (0x45 ∷ 0x45 ∷ [])

abbrev pub eighteen : List ℕ
eighteen = frame_at 18 (0x45 ∷ 0x45 ∷ [])

-- a reception that two stations made: joined, saved, loaded into longer space, and then a frame more
abbrev pub handed_on : Reception
handed_on = taken_frame (loaded (record_of (joined (twenty (front ∷ [])) (twenty (ten ∷ [])))) (replicate 4 0xFF) (replicate 21 0xFF)) eighteen

-- a piece that differs at 3, which `front` holds
abbrev pub differing : List ℕ
differing = frame_at 3 (0x45 ∷ 0x46 ∷ [])

pub record MoreCases : Type 0 where
  -- there is such a station, and it holds what `front` covers
  pub a_station : (a : Station 7 20 file) × ((a.frames ≡ heard) × ((reception_of a).map ≡ 0x0F ∷ 0x00 ∷ 0x00 ∷ []))
  -- what is joined, saved and loaded and then takes a frame in is among the receptions of demand 3
  pub a_reception_handed_on : Made 7 20 file handed_on
  pub handed_on_map : handed_on.map ≡ 0x0F ∷ 0x0C ∷ 0x0C ∷ 0xFF ∷ []
  pub among_any : (frame : List ℕ) (before behind : List (List ℕ)) → OneOf frame (before ++ frame ∷ behind)
  -- a refused frame stores and covers nothing, and frames are taken in their order
  pub differing_leaves : taken_frame (twenty (front ∷ [])) differing ≡ twenty (front ∷ [])
  pub refused_covers_nothing : covered_in (twenty []) (front ∷ differing ∷ []) 4 ≡ false
  pub in_their_order : (twenty (front ∷ differing ∷ [])).map ≡ 0x0F ∷ 0x00 ∷ 0x00 ∷ []
  -- start and length of a hole are told apart
  pub hole_of_16 : listing 20 (twenty (front ∷ [])).map 0 ≡ accepted (record { start = 4; length = 16 })
