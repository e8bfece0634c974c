-- Writing requests (01, "Fill request"): one that lists holes of a reception, and one for the start of a file.
-- Assumes nothing.
use Rattle.std.specs.Prelude.{Bool, not, ◌&&◌, List, [], ◌∷◌, ◌++◌, ℕ, ltb, length, Result}
use Rattle.reason.specs.declared.Reason.{Reason}
use Rattle.reason.specs.Answer.{Answer, answer_of, WritesAndTells}
use Rattle.reason.specs.Order.{Check, check, first_of}
use Rattle.octets.specs.Runs.{put_in}
use Rattle.ax25.specs.declared.Head.{Head}
use Rattle.ax25.specs.Address.{is_writable}
use Rattle.reception.specs.declared.File.{File}
use Rattle.holes.specs.declared.Hole.{Hole}
use Rattle.holes.specs.Listing.{listing_checks}
use Rattle.holes.specs.EveryHole.{listed_from, last_end}
use Rattle.request.specs.declared.Asks.TheVariants.{Start, Holes}
use Rattle.request.specs.declared.Written.{Written}
use Rattle.request.specs.Request.{most_holes, frame_length, request_frame}

-- what a station asks for: to whom and from whom the request goes, the number and length of the file, and the map of its reception
pub record Wanted : Type 0 where
  pub head : Head
  pub number : ℕ
  pub length : ℕ
  pub map : List ℕ

-- what is wanted of a file by a head, where a map is lent
abbrev pub wanted_for : Head → File → List ℕ → Wanted
wanted_for head file map = record { head = head; number = file.number; length = file.length; map = map }

-- reason 2: either address cannot be written
abbrev pub bad_address : Head → Bool
bad_address head = not (is_writable head.destination && is_writable head.source)

-- reason 12: the target is too short for a frame of n holes
abbrev pub short_target : List ℕ → ℕ → Bool
short_target target n = ltb (length target) (frame_length n)

-- the holes of a request: all from the place on, up to 49
abbrev pub holes_from : Wanted → ℕ → List Hole
holes_from w place = listed_from most_holes w.length w.map place

-- "Writing a request: 2, 7, 12 (map), 15, 12 (target)"; the three in the middle are those of listing a hole
abbrev pub fill_checks : Wanted → ℕ → List ℕ → List Check
fill_checks w place target =
    (check (bad_address w.head) 2 ∷ listing_checks w.length w.map place) ++ check (short_target target (length (holes_from w place))) 12 ∷ []

-- the answer: the count of the holes and the end of the last, or the reason
unfoldable pub filling : Wanted → ℕ → List ℕ → Answer Written
filling w place target =
    first_of (fill_checks w place target) (record { count = length (holes_from w place); end = last_end place (holes_from w place) })

-- the frame that is written
abbrev pub fill_frame : Wanted → ℕ → List ℕ
fill_frame w place = request_frame w.head Holes w.number (holes_from w place)

-- The promise of `write_fill`: what it answers, and that it leaves the frame in the first bytes of the target, or every byte as it was.
abbrev pub Fills : Wanted → ℕ → List ℕ → Result Written Reason → List ℕ → Type 0
Fills w place target r left = WritesAndTells target (filling w place target) (λ x. put_in target 0 (fill_frame w place)) (answer_of r) left

-- "A start request: 2, 12"
abbrev pub start_checks : Head → List ℕ → List Check
start_checks head target = check (bad_address head) 2 ∷ check (short_target target 0) 12 ∷ []

-- writing a request for the start of a file: it has no holes
unfoldable pub starting : Head → ℕ → List ℕ → Answer (List ℕ)
starting head number target = first_of (start_checks head target) (put_in target 0 (request_frame head Start number []))
