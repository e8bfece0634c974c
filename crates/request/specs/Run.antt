-- Requests one after the other (01, "Fill request"): repeated from 0, each time from the end returned, until reason 15;
-- and which positions they name.
-- Assumes nothing.
use Rattle.std.specs.Prelude.{◌≡◌, Bool, false, cond, not, ◌||◌, List, [], ◌∷◌, ◌++◌, ℕ, zero, suc, ◌+◌, ◌≤◌, take}
use Rattle.reason.specs.Answer.{Answer, accepted, refused}
use Rattle.octets.specs.Lists.{Each}
use Rattle.octets.specs.Runs.{put_in}
use Rattle.positions.specs.Spans.{within}
use Rattle.positions.specs.Map.{map_size, map_of}
use Rattle.holes.specs.declared.Hole.{Hole}
use Rattle.reception.specs.Reception.{longest}
use Rattle.holes.specs.EveryHole.{AllHoles}
use Rattle.request.specs.declared.Asks.TheVariants.{Holes}
use Rattle.request.specs.declared.Written.{Written}
use Rattle.request.specs.Request.{most_holes, frame_length}
use Rattle.request.specs.Reading.{read_request, holes_of}
use Rattle.request.specs.Writing.{Wanted, filling, fill_frame}

-- the frame of an accepted request: the first bytes of the target, as many as its count of holes says
abbrev pub sent : Wanted → ℕ → List ℕ → Written → List ℕ
sent w place target x = take (frame_length x.count) (put_in target 0 (fill_frame w place))

-- the run goes on where a request was written, and ends where none was
abbrev pub send_on : Answer Written → (Written → List (List ℕ)) → List (List ℕ)
send_on (accepted x) more = more x
send_on (refused n) more = []

-- the frames of n requests, the first from a place, each other from the end returned by the one before; of the target only its length
-- matters, since each frame stands in its first bytes, over those of the one before
abbrev pub sent_from : ℕ → Wanted → List ℕ → ℕ → List (List ℕ)
sent_from zero w target place = []
sent_from (suc n) w target place = send_on (filling w place target) (λ x. sent w place target x ∷ sent_from n w target x.end)

-- the place goes on where a request was written, and stays where none was
abbrev pub place_on : Answer Written → ℕ → (Written → ℕ) → ℕ
place_on (accepted x) place more = more x
place_on (refused n) place more = place

-- the place of the request after n of them
abbrev pub place_after : ℕ → Wanted → List ℕ → ℕ → ℕ
place_after zero w target place = place
place_after (suc n) w target place = place_on (filling w place target) place (λ x. place_after n w target x.end)

-- the holes that frames list, as they are read
abbrev pub together : List (List ℕ) → List Hole
together [] = []
together (frame ∷ frames) = holes_of frame ++ together frames

-- a frame is accepted as a request that lists 1 to 49 holes, from and to the stations named, of the file with the number
pub record Lists (w : Wanted) (frame : List ℕ) : Type 0 where
  pub count : ℕ
  pub read : read_request frame ≡ accepted (record { head = w.head; asks = Holes; number = w.number; count = count })
  pub some : 1 ≤ count
  pub most : count ≤ most_holes

-- What a whole run of requests is: each frame lists 1 to 49 holes, together they list every hole once, ascending, and the request
-- after the last is refused 15.
pub record Whole (w : Wanted) (target : List ℕ) (frames : List (List ℕ)) (after : ℕ) : Type 0 where
  pub each : Each (Lists w) frames
  pub all : AllHoles w.length w.map (together frames)
  pub then_15 : filling w after target ≡ refused 15

-- a position stands in one of the holes
abbrev pub names : List Hole → ℕ → Bool
names [] p = false
names (hole ∷ holes) p = within hole.start hole.length p || names holes p

-- the map of the longest file that holds everything but the holes
abbrev pub all_but : List Hole → List ℕ
all_but holes = map_of (λ p. not (names holes p)) (map_size longest)

-- how many of the frames name a position
abbrev pub naming : List (List ℕ) → ℕ → ℕ
naming [] p = 0
naming (frame ∷ frames) p = cond (names (holes_of frame) p) 1 0 + naming frames p
