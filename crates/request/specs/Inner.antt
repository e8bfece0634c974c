-- What private functions promise each other (01, "Fill request"). No promise of a public function cites it.
-- Assumes nothing.
use Rattle.std.specs.Prelude.{◌≡◌, List, ℕ, ◌≤◌, length, Result, Ok, Err}
use Rattle.reason.specs.declared.Reason.{Reason}
use Rattle.reason.specs.Reasons.{number_of}
use Rattle.reason.specs.Answer.{refused}
use Rattle.octets.specs.Runs.{put_in}
use Rattle.holes.specs.Listing.{listing}
use Rattle.holes.specs.EveryHole.{listed_from, last_end}
use Rattle.request.specs.declared.Written.{Written}
use Rattle.request.specs.Request.{most_holes, holes_bytes}

-- The holes from a place on, up to 49, are listed, one or more: how many, the end of the last, and their bytes.
pub record Gathered (l : ℕ) (map : List ℕ) (place : ℕ) (entries : List ℕ) (x : Written) (entries' : List ℕ) : Type 0 where
  pub some : 1 ≤ x.count
  pub counted : x.count ≡ length (listed_from most_holes l map place)
  pub ended : x.end ≡ last_end place (listed_from most_holes l map place)
  pub bytes : entries' ≡ put_in entries 0 (holes_bytes (listed_from most_holes l map place))

-- What gathering promises: the holes that there are, or where there is none, the reason of listing one, and then no byte has changed.
abbrev pub Gathers : ℕ → List ℕ → ℕ → List ℕ → Result Written Reason → List ℕ → Type 0
Gathers l map place entries (Ok x) entries' = Gathered l map place entries x entries'
Gathers l map place entries (Err reason) entries' = (listing l map place ≡ refused (number_of reason)) × (entries' ≡ entries)
