-- Requests repeated from 0, each time from the end returned, until reason 15: together they list every hole exactly once, ascending, at
-- most 49 in each (01, "Fill request").
-- Assumes nothing.
use mathlib.Core.Path.{◌≡◌, refl, sym, ap, ap₂, ◌∙◌}
use mathlib.Core.Bool.{true, false, ◌&&◌}
use mathlib.Core.Logic.{⊎_elim}
use mathlib.Core.List.{List, [], ◌∷◌, ◌++◌}
use Prim.Native.Nat.{ℕ, zero, suc, ◌+◌, ◌*◌, ◌^◌, ◌≤◌, ◌<◌}
use native.Mathlib.Nat.{zero-add}
use native.Mathlib.Omega.{arith}
use lib.ListN.{length}
use Rattle.reason.specs.Answer.{Answer, accepted, refused}
use Rattle.reason.proofs.Bools.{le_or_lt}
use Rattle.reason.proofs.OrderLaws.{not_both}
use Rattle.octets.specs.Lists.{Each}
use Rattle.positions.specs.Map.{map_size}
use Rattle.ax25.specs.Address.{is_writable}
use Rattle.holes.specs.declared.Hole.{Hole}
use Rattle.reception.specs.Reception.{wrong_length}
use Rattle.holes.specs.Holes.{hole_start, hole_from}
use Rattle.holes.specs.Listing.{listing}
use Rattle.holes.specs.EveryHole.{end_of, go_on, listed_from, last_end, Ascending, AllHoles}
use Rattle.holes.proofs.GivenReasons.{lists_15, lists}
use Rattle.holes.proofs.HoleLaws.{ascending, all_holes_by}
use Rattle.holes.proofs.ListedLaws.{listed_needs, listed_none}
use Rattle.request.specs.declared.Written.{Written}
use Rattle.request.specs.Request.{most_holes, frame_length}
use Rattle.request.specs.Reading.{holes_of}
use Rattle.request.specs.Writing.{Wanted, holes_from, filling}
use Rattle.request.specs.Run.{sent, sent_from, place_after, together, Lists, Whole}
use Rattle.request.proofs.WritingLaws.{fills_refused, fills}
use Rattle.request.proofs.SentLaws.{ascend_earlier, can_write, listed, tells, lists_some, written_fill_is_read, written_holes_are_read}

-- questions in two runs: the second goes on where the first ended
listed_split : (a b l : ℕ) (map : List ℕ) (place : ℕ)
    → listed_from (a + b) l map place ≡ listed_from a l map place ++ listed_from b l map (last_end place (listed_from a l map place))
listed_split zero b l map place = ap (λ (n : ℕ). listed_from n l map place) (zero-add b)
listed_split (suc a) b l map place =
    let n : suc a + b ≡ suc (a + b) = omega arith in
    ap (λ (k : ℕ). listed_from k l map place) n ∙ by (listing l map place) refl (λ hole. listed_split a b l map (end_of hole))
  where
    by : (x : Answer Hole) → listing l map place ≡ x
        → ((hole : Hole) → listed_from (a + b) l map (end_of hole) ≡ listed_from a l map (end_of hole) ++ listed_from b l map (last_end (end_of hole) (listed_from a l map (end_of hole))))
        → go_on x (λ hole. listed_from (a + b) l map (end_of hole))
        ≡ go_on x (λ hole. listed_from a l map (end_of hole)) ++ listed_from b l map (last_end place (go_on x (λ hole. listed_from a l map (end_of hole))))
    by (accepted hole) e more = ap (λ (holes : List Hole). hole ∷ holes) (more hole)
    by (refused k) e more = sym (listed_none l map place b k e)

last_split : (a b l : ℕ) (map : List ℕ) (place : ℕ)
    → last_end place (listed_from (a + b) l map place) ≡ last_end (last_end place (listed_from a l map place))
    (listed_from b l map (last_end place (listed_from a l map place)))
last_split a b l map place =
    ap (last_end place) (listed_split a b l map place)
    ∙ behind place (listed_from a l map place) (listed_from b l map (last_end place (listed_from a l map place)))
  where
    behind : (p : ℕ) (holes more : List Hole) → last_end p (holes ++ more) ≡ last_end (last_end p holes) more
    behind p [] more = refl
    behind p (hole ∷ holes) more = behind (end_of hole) holes more

-- where fewer holes are listed than were asked for, none is left
none_left : (l : ℕ) (map : List ℕ) → wrong_length l ≡ false → map_size l ≤ length map → (n place : ℕ) → length (listed_from n l map place) < n
    → listing l map (last_end place (listed_from n l map place)) ≡ refused 15
none_left l map right long zero place h = absurd (omega arith)
none_left l map right long (suc n) place h = by (listing l map place) refl h (λ hole k. none_left l map right long n (end_of hole) k)
  where
    by : (x : Answer Hole) → listing l map place ≡ x → length (go_on x (λ hole. listed_from n l map (end_of hole))) < suc n
        → ((hole : Hole) → length (listed_from n l map (end_of hole)) < n → listing l map (last_end (end_of hole) (listed_from n l map (end_of hole))) ≡ refused 15)
        → listing l map (last_end place (go_on x (λ hole. listed_from n l map (end_of hole)))) ≡ refused 15
    by (accepted hole) e k more = more hole (omega arith)
    by (refused m) e k more =
        ⊎_elim
        (λ w. lists_15 l map place right long w)
        (λ w. absurd (not_both (hole_from l map place) m (lists l map place right long w) e))
        (le_or_lt l (hole_start l map place))

-- A request of fewer than 49 holes is the last: asked from the end that it returned, the next is refused 15. So a station that stops there
-- has read the map once.
pub fewer_is_the_last : (w : Wanted) (place : ℕ) (target : List ℕ) (x : Written) → filling w place target ≡ accepted x → x.count < most_holes
    → filling w x.end target ≡ refused 15
fewer_is_the_last w place target x written h =
    let is = tells w place target x written in
    let size : x.count ≡ length (holes_from w place) = ap (λ (y : Written). y.count) is in
    let needs = listed_needs w.length w.map place _ (listed w place target x written) in
    fills_refused w x.end target (can_write w place target x written) 15
    (ap (λ (y : Written). listing w.length w.map y.end) is ∙ none_left w.length w.map needs.0 needs.1 most_holes place (omega arith))

-- A station that can send: its addresses can be written, the file's number has 32 bits, and the target has room for the frame of each request
-- that is written; room for the first is enough (`EnoughRoom: first_is_longest`).
module _ (w : Wanted) (target : List ℕ) (good : (is_writable w.head.destination && is_writable w.head.source) ≡ true)
    (number : w.number < 256 ^ 4)
    (room : (place : ℕ) (hole : Hole) → listing w.length w.map place ≡ accepted hole → frame_length (length (holes_from w place)) ≤ length target) where
  abbrev Told : ℕ → Written
  Told place = record { count = length (holes_from w place); end = last_end place (holes_from w place) }

  -- what a request answers, by what listing does
  fills_by : (place : ℕ) (hole : Hole) → listing w.length w.map place ≡ accepted hole → filling w place target ≡ accepted (Told place)
  fills_by place hole e = fills w place target good hole e (room place hole e)

  -- a property of the frames of n requests from a place, and of the place after them
  module _ (P : ℕ → ℕ → List (List ℕ) → ℕ → Type 0)
      (none : (place : ℕ) → P 0 place [] place)
      (refuses : (n place k : ℕ) → listing w.length w.map place ≡ refused k → P (suc n) place [] place)
      (goes : (n place : ℕ) (frames : List (List ℕ)) (after : ℕ) → filling w place target ≡ accepted (Told place)
      → P n (last_end place (holes_from w place)) frames after → P (suc n) place (sent w place target (Told place) ∷ frames) after) where
    by_run : (n place : ℕ) → P n place (sent_from n w target place) (place_after n w target place)
    by_run zero place = none place
    by_run (suc n) place = by (listing w.length w.map place) refl (λ p. by_run n p)
      where
        by : (x : Answer Hole) → listing w.length w.map place ≡ x → ((p : ℕ) → P n p (sent_from n w target p) (place_after n w target p))
            → P (suc n) place (sent_from (suc n) w target place) (place_after (suc n) w target place)
        by (accepted hole) e more =
            rw (fills_by place hole e) (goes n place _ _ (fills_by place hole e) (more (last_end place (holes_from w place))))
        by (refused k) e more = rw (fills_refused w place target good k e) (refuses n place k e)

  -- together they list what as many questions list, and the place after them is the end of the last hole
  lists_all : (n place : ℕ) → (together (sent_from n w target place) ≡ listed_from (n * most_holes) w.length w.map place)
      × (place_after n w target place ≡ last_end place (listed_from (n * most_holes) w.length w.map place))
  lists_all = by_run
      (λ n place frames after. (together frames ≡ listed_from (n * most_holes) w.length w.map place) × (after ≡ last_end place (listed_from (n * most_holes) w.length w.map place)))
      (λ place. (refl, refl))
      (λ n place k e.
      let z = listed_none w.length w.map place (suc n * most_holes) k e in (sym z, sym (ap (last_end place) z)))
      (λ n place frames after e more.
      let m : suc n * most_holes ≡ most_holes + n * most_holes = omega arith in (
        ap₂ (λ (x y : List Hole). x ++ y) (written_holes_are_read w place target (Told place) e number) more.0
            ∙ sym (ap (λ (k : ℕ). listed_from k w.length w.map place) m ∙ listed_split most_holes (n * most_holes) w.length w.map place),
        more.1
            ∙ sym (ap (λ (k : ℕ). last_end place (listed_from k w.length w.map place)) m ∙ last_split most_holes (n * most_holes) w.length w.map place),
      ))

  -- each is accepted as a request for 1 to 49 holes
  pub each_lists : (n place : ℕ) → Each (Lists w) (sent_from n w target place)
  each_lists = by_run
      (λ n place frames after. Each (Lists w) frames)
      (λ place. tt)
      (λ n place k e. tt)
      (λ n place frames after e more. (
        record {
          count = length (holes_from w place);
          read = written_fill_is_read w place target (Told place) e number;
          some = (lists_some w place target (Told place) e).0;
          most = (lists_some w place target (Told place) e).1;
        },
        more,
      ))

  -- the holes of each ascend
  pub each_ascends : (n place : ℕ) → Each (λ frame. Ascending 0 (holes_of frame)) (sent_from n w target place)
  each_ascends = by_run
      (λ n place frames after. Each (λ frame. Ascending 0 (holes_of frame)) frames)
      (λ place. tt)
      (λ n place k e. tt)
      (λ n place frames after e more. (
        rw (written_holes_are_read w place target (Told place) e number)
            (ascend_earlier 0 place (holes_from w place) (omega arith) (ascending w.length w.map most_holes place)),
        more,
      ))

  module _ (right : wrong_length w.length ≡ false) (long : map_size w.length ≤ length w.map) where
    all_listed : AllHoles w.length w.map (listed_from (w.length * most_holes) w.length w.map 0)
    all_listed = all_holes_by w.length w.map right long (w.length * most_holes) (omega arith)

    -- Repeated from 0, each time from the end returned, until 15: every hole exactly once, ascending, 1 to 49 in each.
    pub whole_run : Whole w target (sent_from w.length w target 0) (place_after w.length w target 0)
    whole_run = record {
      each = each_lists w.length 0;
      all = rw (lists_all w.length 0).0 all_listed;
      then_15 =
          fills_refused w (place_after w.length w target 0) target good 15
          (ap (listing w.length w.map) (lists_all w.length 0).1 ∙ all_listed.then_15);
    }
