-- Laws of the holes of a request, listed one after the other and written as bytes.
-- Assumes nothing.
use mathlib.Core.Path.{◌≡◌, refl, sym, ap, ap₂, ◌∙◌}
use mathlib.Core.Bool.{Bool, true, ◌&&◌}
use mathlib.Core.List.{List, [], ◌∷◌, ◌++◌}
use Prim.Native.Nat.{ℕ, suc, ◌+◌, ◌-◌, ◌*◌, ◌≤◌, ◌<◌}
use native.Mathlib.Nat.{zero-add}
use native.Mathlib.Omega.{arith}
use lib.ListN.{length, take}
use Rattle.std.specs.Prelude.{Ok, Err}
use Rattle.reason.specs.declared.Reason.{Reason}
use Rattle.reason.specs.declared.Reason.TheVariants.{Space}
use Rattle.reason.specs.Reasons.{number_of}
use Rattle.reason.specs.Answer.{accepted, refused}
use Rattle.octets.specs.Runs.{put_in, Put}
use Rattle.octets.proofs.RunLaws.{put_fits, put_put, put_length, put_nothing}
use Rattle.ax25.specs.Address.{is_writable}
use Rattle.ax25.specs.Head.{head_length, head_bytes}
use Rattle.ax25.specs.Information.{file_protocol}
use Rattle.holes.specs.declared.Hole.{Hole}
use Rattle.holes.specs.Listing.{listing}
use Rattle.holes.specs.EveryHole.{end_of, listed_from, last_end}
use Rattle.holes.proofs.ListedLaws.{listed_none, listed_more, some_listed, listed_most}
use Rattle.request.specs.declared.Asks.TheVariants.{Holes}
use Rattle.request.specs.declared.Written.{Written}
use Rattle.request.specs.Request.{most_holes, before_holes, bytes_per_hole, request_before, hole_bytes, holes_bytes}
use Rattle.request.specs.Writing.{Wanted, holes_from, filling, Fills}
use Rattle.request.specs.Inner.{Gathered}
use Rattle.request.proofs.WritingLaws.{holes_long, and_holes, fills_refused, fills_12, fills, fill_refused, fill_accepted}

-- What is listed and written so far, with what would be listed behind it, is the whole.
pub record SoFar (l : ℕ) (map : List ℕ) (place : ℕ) (entries : List ℕ) (count end : ℕ) (entries' : List ℕ) : Type 0 where
  pub few : count ≤ most_holes
  pub long : length entries' ≡ length entries
  pub counted : count + length (listed_from (most_holes - count) l map end) ≡ length (listed_from most_holes l map place)
  pub ended : last_end end (listed_from (most_holes - count) l map end) ≡ last_end place (listed_from most_holes l map place)
  pub none_yet : count ≡ 0 → end ≡ place
  pub bytes : put_in entries' (count * bytes_per_hole) (holes_bytes (listed_from (most_holes - count) l map end))
      ≡ put_in entries 0 (holes_bytes (listed_from most_holes l map place))

module _ (l : ℕ) (map : List ℕ) (place : ℕ) (entries : List ℕ) (room : most_holes * bytes_per_hole ≤ length entries) where
  pub at_first : SoFar l map place entries 0 place entries
  at_first = record { few = omega arith; long = refl; counted = zero-add _; ended = refl; none_yet = λ e. refl; bytes = refl }

  module _ (count end : ℕ) (so_far : List ℕ) (s : SoFar l map place entries count end so_far) where
    abbrev Rest : List Hole
    Rest = listed_from (most_holes - count) l map end

    -- one hole more
    pub one_more : (hole : Hole) (run after : List ℕ) (r : Bool) → count < most_holes → listing l map end ≡ accepted hole → run ≡ hole_bytes hole
        → Put so_far (count * bytes_per_hole) run r after → SoFar l map place entries (count + 1) (end_of hole) after
    one_more hole run after r h e is put =
        let k = most_holes - (count + 1) in
        let next = listed_from k l map (end_of hole) in
        let left : most_holes - count ≡ suc k = omega arith in
        let rest : Rest ≡ hole ∷ next = ap (λ (n : ℕ). listed_from n l map end) left ∙ listed_more l map end k hole e in
        let few = listed_most k l map (end_of hole) in
        let size = holes_long next in
        let same = s.long in
        let written : after ≡ put_in so_far (count * bytes_per_hole) (hole_bytes hole) =
        (put_fits so_far (count * bytes_per_hole) (hole_bytes hole) r after (rw is at put) (omega arith)).1 in
        let at : (count + 1) * bytes_per_hole ≡ count * bytes_per_hole + length (hole_bytes hole) = omega arith in
        record {
          few = omega arith;
          long = ap length written ∙ put_length so_far (count * bytes_per_hole) (hole_bytes hole) (omega arith) ∙ same;
          counted = let a = ap length rest in omega (arith, a, s.counted);
          ended = sym (ap (last_end end) rest) ∙ s.ended;
          none_yet = λ z. absurd (omega arith);
          bytes =
              ap (λ (n : ℕ). put_in after n (holes_bytes next)) at
              ∙ ap (λ (x : List ℕ). put_in x (count * bytes_per_hole + length (hole_bytes hole)) (holes_bytes next)) written
              ∙ put_put so_far (count * bytes_per_hole) (hole_bytes hole) (holes_bytes next) (omega arith)
              ∙ sym (ap (λ (holes : List Hole). put_in so_far (count * bytes_per_hole) (holes_bytes holes)) rest)
              ∙ s.bytes;
        }

    -- nothing is left to list, where something is listed
    finished : (count ≡ 0 → ⊥) → Rest ≡ [] → Gathered l map place entries (record { count = count; end = end }) so_far
    finished some none = record {
      some = omega (arith, some);
      counted = let a = ap length none in omega (arith, a, s.counted);
      ended = sym (ap (last_end end) none) ∙ s.ended;
      bytes =
          sym (put_nothing so_far (count * bytes_per_hole))
          ∙ sym (ap (λ (holes : List Hole). put_in so_far (count * bytes_per_hole) (holes_bytes holes)) none)
          ∙ s.bytes;
    }

    pub no_more : (n : ℕ) → listing l map end ≡ refused n → (count ≡ 0 → ⊥) → Gathered l map place entries (record { count = count; end = end }) so_far
    no_more n e some = finished some (listed_none l map end (most_holes - count) n e)

    -- nothing is listed at all: so it is from the place on, and no byte has changed
    pub none_listed : (n : ℕ) → listing l map end ≡ refused n → count ≡ 0 → (listing l map place ≡ refused n) × (so_far ≡ entries)
    none_listed n e z =
        let here : listing l map place ≡ refused n = sym (ap (listing l map) (s.none_yet z)) ∙ e in (
          here,
          sym (put_nothing so_far (count * bytes_per_hole))
              ∙ sym (ap (λ (holes : List Hole). put_in so_far (count * bytes_per_hole) (holes_bytes holes)) (listed_none l map end (most_holes - count) n e))
              ∙ s.bytes
              ∙ ap (λ (holes : List Hole). put_in entries 0 (holes_bytes holes)) (listed_none l map place most_holes n here)
              ∙ put_nothing entries 0,
        )

    pub all_listed : most_holes ≤ count → Gathered l map place entries (record { count = most_holes; end = end }) so_far
    all_listed h =
        let z : most_holes - count ≡ 0 = omega arith in
        let is : count ≡ most_holes = omega (arith, s.few) in
        rw (← is) (finished (λ e. omega arith) (ap (λ (n : ℕ). listed_from n l map end) z))

-- the bytes of the holes stand within the entries
pub gathered_fits : (l : ℕ) (map : List ℕ) (place : ℕ) (entries : List ℕ) (x : Written) (entries' : List ℕ)
    → most_holes * bytes_per_hole ≤ length entries → Gathered l map place entries x entries' → x.count * bytes_per_hole ≤ length entries'
gathered_fits l map place entries x entries' room g =
    let holes = listed_from most_holes l map place in
    let few = listed_most most_holes l map place in
    let size = holes_long holes in
    let same = ap length g.bytes ∙ put_length entries 0 (holes_bytes holes) (omega arith) in
    omega (arith, g.counted, same)

-- ---- the answer, by what was gathered
module _ (w : Wanted) (place : ℕ) (target : List ℕ) (good : (is_writable w.head.destination && is_writable w.head.source) ≡ true) where
  pub gathered_none : (reason : Reason) → listing w.length w.map place ≡ refused (number_of reason) → Fills w place target (Err reason) target
  gathered_none reason e = fill_refused w place target reason (fills_refused w place target good (number_of reason) e)

  module _ (entries : List ℕ) (x : Written) (entries' : List ℕ) (g : Gathered w.length w.map place entries x entries') where
    listed : (hole : Hole) × (listing w.length w.map place ≡ accepted hole)
    listed = some_listed w.length w.map place most_holes (omega (arith, g.counted, g.some))

    pub gathered_short : length target < head_length + before_holes + x.count * bytes_per_hole → Fills w place target (Err Space) target
    gathered_short h = fill_refused w place target Space (fills_12 w place target good listed.0 listed.1 (omega (arith, g.counted)))

    module _ (room : head_length + before_holes + x.count * bytes_per_hole ≤ length target) where
      told : filling w place target ≡ accepted x
      told =
          fills w place target good listed.0 listed.1 (omega (arith, g.counted))
          ∙ sym (ap₂ (λ (m n : ℕ). accepted (record { count = m; end = n })) g.counted g.ended)

      pub gathered_written : most_holes * bytes_per_hole ≤ length entries → (part before after : List ℕ) (q : Bool)
          → part ≡ take (x.count * bytes_per_hole) entries'
          → before ≡ put_in target 0 (head_bytes w.head.destination w.head.source file_protocol ++ request_before Holes w.number)
          → Put before (head_length + before_holes) part q after → Fills w place target (Ok x) after
      gathered_written space part before after q is e put =
          fill_accepted w place target x after told
          (and_holes target w.head.destination w.head.source Holes w.number (holes_from w place) entries part before after q
          (omega (arith, g.counted)) (omega (arith, listed_most most_holes w.length w.map place))
          (is ∙ ap₂ (λ (n : ℕ) (y : List ℕ). take (n * bytes_per_hole) y) g.counted g.bytes) e put)
