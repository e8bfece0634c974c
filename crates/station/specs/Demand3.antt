-- The customer's third demand, in its words, over frames: what stations that collect one file hold, what joining gives, and
-- what the listed holes are. It speaks of the definitions that the promises of `open`, `take`, `join`, `list`, `save` and `load` cite.
-- Assumes nothing.
use Rattle.std.specs.Prelude.{◌≡◌, true, false, not, ◌&&◌, ◌||◌, List, ◌++◌, ℕ, ◌^◌, ◌≤◌, ◌<◌, length, take, drop, Result}
use Rattle.reason.specs.declared.Reason.{Reason}
use Rattle.reason.specs.Answer.{accepted, refused, answer_of}
use Rattle.octets.specs.Lists.{OneOf}
use Rattle.octets.specs.Numbers.{AllBytes}
use Rattle.positions.specs.Spans.{count}
use Rattle.positions.specs.Map.{held, map_size}
use Rattle.reception.specs.declared.File.{File}
use Rattle.holes.specs.declared.Hole.{Hole}
use Rattle.reception.specs.Reception.{Reception, short_space}
use Rattle.reception.specs.Opening.{opening, opened, Opens}
use Rattle.reception.specs.Joining.{joining, joined, Joins}
use Rattle.reception.specs.Fitting.{AgreesWith}
use Rattle.holes.specs.Holes.{IsHole}
use Rattle.holes.specs.Listing.{listing}
use Rattle.holes.specs.EveryHole.{listed_from, AllHoles, InHole}
use Rattle.reception.specs.Contents.{HoldsOf, itself, beyond}
use Rattle.record.specs.Record.{record_of, record_length}
use Rattle.record.specs.Saving.{Saves}
use Rattle.record.specs.Loading.{loaded, Loads}
use Rattle.station.specs.Lent.{Lent, reception_in}
use Rattle.taking.specs.Taking.{piece_data_in, taking_frame, taken_frame, TakesFrame}
use Rattle.station.specs.Sequences.{taken_frames, in_piece, covered_in, fits_file, covered}
use Rattle.station.specs.Stations.{Station, fresh, reception_of, Made, frames_in}
use Rattle.station.specs.Calls.{Calls}

-- For a file with a number and a length that can be opened. A `Station` has lent space of any sufficient length, and takes in any
-- sequence of frames of which every piece that fits number and length agrees with the file.
pub record Demand3 (number l : ℕ) (file : List ℕ) : Type 0 where
  -- What is said below of `opened`, `taken_frame`, `joined`, `record_of` and `loaded` holds of the functions: any calls of `open`, `take`,
  -- `join`, `save` and `load` leave just that, by their promises; and calls of `open` and of `take` for each frame, one after the other,
  -- leave a station's `reception_of`. A reception that is made is saved into any target with room, and its record is loaded into any map and
  -- buffer that are long enough.
  pub by_open : (lent left : Lent) (r : Result Unit Reason) → opening l lent.map lent.buffer ≡ accepted tt
      → Opens l lent.map lent.buffer r left.map left.buffer → reception_in number l left ≡ opened number l lent.map lent.buffer
  pub by_take : (s : Reception) (frame : List ℕ) (r : Result ℕ Reason) (left : Lent) → TakesFrame s frame r left.map left.buffer
      → reception_in s.number s.length left ≡ taken_frame s frame
  pub by_join : (s t : Reception) (r : Result ℕ Reason) (left : Lent) → Joins s t r left.map left.buffer
      → reception_in s.number s.length left ≡ joined s t
  pub by_save : (s : Reception) → Made number l file s → (target left : List ℕ) (r : Result ℕ Reason) → record_length l ≤ length target → Saves s target r left
      → (answer_of r ≡ accepted (record_length l)) × (take (record_length l) left ≡ record_of s)
  pub by_load : (s : Reception) → Made number l file s → number < 256 ^ 4 → (lent left : Lent) (r : Result File Reason) → AllBytes lent.map
      → short_space l lent.map lent.buffer ≡ false → Loads (record_of s) lent.map lent.buffer r left.map left.buffer
      → (answer_of r ≡ accepted (record { number = number; length = l }))
      × (reception_in number l left ≡ loaded (record_of s) lent.map lent.buffer)
  pub by_calls : (a : Station number l file) (r : Result Unit Reason) (opens last : Lent) → Opens l a.map a.buffer r opens.map opens.buffer
      → Calls number l opens a.frames last → reception_in number l last ≡ reception_of a
  -- "A position is then held exactly if an accepted piece covered it, held bytes are the file's, the others are zero." So are the
  -- spare bits of the map.
  pub held_exactly : (a : Station number l file) → HoldsOf number l file (covered_in (fresh a) a.frames) (reception_of a)
  -- The accepted pieces cover what the pieces that fit cover. This says nothing of an order, and a frame that comes again adds
  -- nothing to it: loss, repeats and order are free.
  pub accepted_are_fitting : (a : Station number l file) (p : ℕ) → covered_in (fresh a) a.frames p ≡ covered number l a.frames p
  pub same_coverage : (a b : Station number l file) → ((p : ℕ) → covered number l a.frames p ≡ covered number l b.frames p)
      → itself (reception_of a) ≡ itself (reception_of b)
  -- A repeated piece does not spoil the file: a frame that was taken in before counts 0 and changes nothing.
  pub repeat_counts_0 : (a : Station number l file) (frame : List ℕ) → OneOf frame a.frames → fits_file number l frame ≡ true
      → (taking_frame (reception_of a) frame ≡ accepted 0) × (taken_frame (reception_of a) frame ≡ reception_of a)
  -- Lent space beyond the ceil(L/8) bytes of the map and the L bytes of the buffer never changes.
  pub beyond_unchanged : (a : Station number l file)
      → beyond (reception_of a) ≡ record { map = drop (map_size l) a.map; buffer = drop l a.buffer }
  -- "Joining the two receptions gives, byte for byte, what one station would hold after both sequences": one that was lent what the
  -- first was lent, in all of that; and one that was lent anything else, in the map and the buffer of the file.
  pub join_is_both : (a b : Station number l file) → joined (reception_of a) (reception_of b) ≡ taken_frames (fresh a) (a.frames ++ b.frames)
  pub join_is_one_station : (a b c : Station number l file) → c.map ≡ a.map → c.buffer ≡ a.buffer → c.frames ≡ a.frames ++ b.frames
      → joined (reception_of a) (reception_of b) ≡ reception_of c
  pub join_is_any_station : (a b c : Station number l file)
      → ((p : ℕ) → covered number l c.frames p ≡ (covered number l a.frames p || covered number l b.frames p))
      → itself (joined (reception_of a) (reception_of b)) ≡ itself (reception_of c)
  -- Every reception that is `Made`, by opening, taking frames in, joining, saving and loading in any order, is what one station would hold
  -- after all frames that went into it, in all that was lent; a station's is among them. So it holds what those frames cover.
  pub made_is_a_station : (s : Reception) (m : Made number l file s)
      → (a : Station number l file) × ((a.frames ≡ frames_in m) × (reception_of a ≡ s))
  pub stations_are_made : (a : Station number l file) → (m : Made number l file (reception_of a)) × (frames_in m ≡ a.frames)
  pub made_holds : (s : Reception) (m : Made number l file s) → HoldsOf number l file (covered number l (frames_in m)) s
  -- A frame that fits and agrees is accepted, and the count is that of its positions that are not held yet: 0 if all are, and then nothing
  -- changes. Any other frame is refused, and changes nothing.
  pub fitting_is_taken : (s : Reception) → Made number l file s → (frame : List ℕ) → fits_file number l frame ≡ true
      → AgreesWith file (piece_data_in frame)
      → taking_frame s frame ≡ accepted (count (λ p. not (held s.map p)) (piece_data_in frame).offset (length (piece_data_in frame).bytes))
  pub held_counts_0 : (s : Reception) → Made number l file s → (frame : List ℕ) → fits_file number l frame ≡ true → AgreesWith file (piece_data_in frame)
      → ((p : ℕ) → in_piece frame p ≡ true → held s.map p ≡ true)
      → (taking_frame s frame ≡ accepted 0) × (taken_frame s frame ≡ s)
  pub other_is_refused : (s : Reception) → Made number l file s → (frame : List ℕ) → fits_file number l frame ≡ false
      → ((n : ℕ) × (taking_frame s frame ≡ refused n)) × (taken_frame s frame ≡ s)
  -- What was saved and loaded is the same reception, map and buffer byte for byte, and joining goes on as it would have without.
  pub itself_is_given_back : (s : Reception) → Made number l file s → number < 256 ^ 4 → (map buffer : List ℕ) → AllBytes map
      → short_space l map buffer ≡ false → itself (loaded (record_of s) map buffer) ≡ itself s
  pub loaded_are_joined : (s t : Reception) → Made number l file s → Made number l file t → number < 256 ^ 4 → (map buffer : List ℕ) → AllBytes map
      → short_space l map buffer ≡ false
      → (joined s (loaded (record_of t) map buffer) ≡ joined s t) × (itself (joined (loaded (record_of s) map buffer) t) ≡ itself (joined s t))
  -- Lent space beyond the file stays: of what takes a frame in, of what is joined into, and of what is loaded into.
  pub beyond_taken : (s : Reception) → Made number l file s → (frame : List ℕ) → beyond (taken_frame s frame) ≡ beyond s
  pub beyond_joined : (s t : Reception) → Made number l file s → beyond (joined s t) ≡ beyond s
  pub beyond_loaded : (s : Reception) → Made number l file s → number < 256 ^ 4 → (map buffer : List ℕ) → AllBytes map → short_space l map buffer ≡ false
      → beyond (loaded (record_of s) map buffer) ≡ record { map = drop (map_size l) map; buffer = drop l buffer }
  -- A join among receptions made in this way is never refused, and counts the positions that only the second holds.
  pub join_counts : (s t : Reception) → Made number l file s → Made number l file t
      → joining s t ≡ accepted (count (λ p. held t.map p && not (held s.map p)) 0 l)
  -- "joining leaves the same map and buffer in either order and any grouping ..
  pub either_order : (s t : Reception) → Made number l file s → Made number l file t → itself (joined s t) ≡ itself (joined t s)
  pub any_grouping : (s t u : Reception) → Made number l file s → Made number l file t → Made number l file u
      → joined (joined s t) u ≡ joined s (joined t u)
  -- .. is unchanged by repetition ..
  pub repeated : (s t : Reception) → Made number l file s → Made number l file t
      → (joined (joined s t) t ≡ joined s t) × (joining (joined s t) t ≡ accepted 0)
  pub with_itself : (s : Reception) → Made number l file s → joined s s ≡ s
  -- .. and has a fresh reception as its neutral", on both sides.
  pub fresh_is_neutral : (s : Reception) → Made number l file s → (map buffer : List ℕ) → AllBytes map → opening l map buffer ≡ accepted tt
      → (joined s (opened number l map buffer) ≡ s) × (itself (joined (opened number l map buffer) s) ≡ itself s)
  -- "The holes listed are exactly the longest missing runs, ascending": asked from 0, then each time from the end of the last, until
  -- 15. Every position that is missing stands in one, and what is answered from any place is the first that starts there or later.
  pub holes_listed : (s : Reception) → Made number l file s → AllHoles l s.map (listed_from l l s.map 0)
  pub missing_is_in_a_hole : (s : Reception) → Made number l file s → (p : ℕ) → p < l → held s.map p ≡ false → InHole l s.map p
  pub first_from_place : (s : Reception) → Made number l file s → (place : ℕ) (hole : Hole) → listing l s.map place ≡ accepted hole
      → IsHole l s.map hole × (place ≤ hole.start) × ((other : Hole) → IsHole l s.map other → place ≤ other.start → hole.start ≤ other.start)
  -- "with none left, the buffer is the file."
  pub none_left_is_the_file : (s : Reception) → Made number l file s → length file ≡ l → listing l s.map 0 ≡ refused 15
      → take l s.buffer ≡ file
