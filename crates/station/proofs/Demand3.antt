-- The third demand, proved: what one frame does is in `OneFrame`, what a station holds in `StationLaws`, that every reception that is made is
-- a station's in `MadeLaws`, what calls leave in `CallLaws`, and the laws of joining, over any sets of positions, in `reception`.
-- Assumes nothing.
use mathlib.Core.Path.{◌≡◌, refl, sym, ap, ◌∙◌}
use mathlib.Core.Bool.{Bool, true, false, ◌||◌}
use mathlib.Core.List.{List}
use Prim.Native.Nat.{ℕ, ◌^◌, ◌<◌}
use Rattle.reason.specs.Answer.{accepted}
use Rattle.octets.specs.Lists.{OneOf}
use Rattle.octets.specs.Numbers.{AllBytes}
use Rattle.reception.specs.Reception.{Reception, wrong_length, short_space}
use Rattle.reception.specs.Joining.{joined}
use Rattle.reception.specs.Contents.{HoldsOf, itself}
use Rattle.reception.proofs.Holding.{same_reception, joined_holds}
use Rattle.reception.proofs.LentSpace.{all_of_it, opened_beyond, joined_beyond}
use Rattle.reception.proofs.HoldingLaws as over
use Rattle.holes.proofs.HoleLaws as holes
use Rattle.holes.proofs.NoneLeft.{none_left_is_the_file}
use Rattle.record.specs.Record.{record_of}
use Rattle.record.specs.Loading.{loaded}
use Rattle.record.proofs.RoundTrip as saved
use Rattle.taking.specs.Taking.{taking_frame, taken_frame}
use Rattle.station.specs.Sequences.{taken_frames, fits_file, covered}
use Rattle.station.specs.Stations.{Station, reception_of, Made, frames_in}
use Rattle.station.specs.Demand3.{Demand3}
use Rattle.station.proofs.OneFrame as one
use Rattle.station.proofs.StationLaws as of
use Rattle.station.proofs.MadeLaws as made
use Rattle.station.proofs.CallLaws.{open_leaves, adding_leaves, calls_take, save_leaves, load_leaves}

module _ (number l : ℕ) (file : List ℕ) (ok : wrong_length l ≡ false) where
  -- the set that a made reception holds, and that it does
  set : (s : Reception) → Made number l file s → ℕ → Bool
  set s m = covered number l (frames_in m)

  holds : (s : Reception) (m : Made number l file s) → HoldsOf number l file (set s m) s
  unfolding set
  holds s m = made.made_holds number l file ok s m

  -- a frame of a station's sequence again: its positions are all held
  repeat_counts_0 : (a : Station number l file) (frame : List ℕ) → OneOf frame a.frames → fits_file number l frame ≡ true
      → (taking_frame (reception_of a) frame ≡ accepted 0) × (taken_frame (reception_of a) frame ≡ reception_of a)
  repeat_counts_0 a frame among fit =
      one.held_counts_0 number l file ok (covered number l a.frames) (reception_of a) (of.holds_fitting number l file ok a) frame fit
      (of.one_agrees number l file ok frame a.frames a.agree among fit)
      (λ p w. of.covered_is_held number l file ok a p (of.one_covers number l file ok frame a.frames among fit p w))

  -- ---- saved and loaded
  module _ (s t : Reception) (m : Made number l file s) (n : Made number l file t) (four : number < 256 ^ 4) (map buffer : List ℕ)
      (bytes : AllBytes map) (room : short_space l map buffer ≡ false) where
    back : (u : Reception) (o : Made number l file u) → HoldsOf number l file (set u o) (loaded (record_of u) map buffer)
    back u o = saved.holding_is_given_back number l file (set u o) u (holds u o) ok four map buffer room bytes

    loaded_second : joined s (loaded (record_of t) map buffer) ≡ joined s t
    loaded_second =
        let h = holds s m in
        let u = loaded (record_of t) map buffer in
        all_of_it (joined s u) (joined s t)
        (same_reception number l file (λ p. set s m p || set t n p) (λ p. set s m p || set t n p) (joined s u) (joined s t)
        (joined_holds number l file ok (set s m) (set t n) s u h (back t n)) (joined_holds number l file ok (set s m) (set t n) s t h (holds t n)) (λ p _. refl))
        (joined_beyond s h.map_bytes u ∙ sym (joined_beyond s h.map_bytes t))

    loaded_first : itself (joined (loaded (record_of s) map buffer) t) ≡ itself (joined s t)
    loaded_first =
        let u = loaded (record_of s) map buffer in
        same_reception number l file (λ p. set s m p || set t n p) (λ p. set s m p || set t n p) (joined u t) (joined s t)
        (joined_holds number l file ok (set s m) (set t n) u t (back s m) (holds t n))
        (joined_holds number l file ok (set s m) (set t n) s t (holds s m) (holds t n)) (λ p _. refl)

  pub demand_3 : Demand3 number l file
  demand_3 = record {
    by_open = open_leaves number l;
    by_take = λ s frame r left p. adding_leaves s _ _ r left p;
    by_join = λ s t r left p. adding_leaves s _ _ r left p;
    by_save = λ s m. save_leaves number l file ok (set s m) s (holds s m);
    by_load = λ s m. load_leaves number l file ok (set s m) s (holds s m);
    by_calls = λ a r opens last o calls.
        calls_take number l opens last a.frames calls
        ∙ ap (λ (s : Reception). taken_frames s a.frames) (open_leaves number l (record { map = a.map; buffer = a.buffer }) opens r a.opens o);
    held_exactly = of.held_exactly number l file ok;
    accepted_are_fitting = of.accepted_are_fitting number l file ok;
    same_coverage = of.same_coverage number l file ok;
    repeat_counts_0 = repeat_counts_0;
    beyond_unchanged = λ a. of.beyond_unchanged number l file ok a ∙ opened_beyond number l a.map a.buffer;
    join_is_both = of.join_is_both number l file ok;
    join_is_one_station = of.join_is_one_station number l file ok;
    join_is_any_station = of.join_is_any_station number l file ok;
    made_is_a_station = made.made_is_a_station number l file ok;
    stations_are_made = made.stations_are_made number l file ok;
    made_holds = made.made_holds number l file ok;
    fitting_is_taken = λ s m. one.fitting_is_taken number l file ok (set s m) s (holds s m);
    held_counts_0 = λ s m. one.held_counts_0 number l file ok (set s m) s (holds s m);
    other_is_refused = λ s m. one.other_is_refused number l file ok (set s m) s (holds s m);
    itself_is_given_back = λ s m four map buffer bytes room.
        saved.itself_is_given_back number l file (set s m) s (holds s m) ok four map buffer room bytes;
    loaded_are_joined = λ s t m n four map buffer bytes room.
        (loaded_second s t m n four map buffer bytes room, loaded_first s t m n four map buffer bytes room);
    beyond_taken = λ s m. one.frame_beyond number l file ok (set s m) s (holds s m);
    beyond_joined = λ s t m. joined_beyond s (holds s m).map_bytes t;
    beyond_loaded = λ s m four map buffer bytes room. saved.loaded_beyond number l file (set s m) s (holds s m) ok four map buffer room bytes;
    join_counts = λ s t m n. over.never_refused number l file ok (set s m) (set t n) s t (holds s m) (holds t n);
    either_order = λ s t m n. over.either_order number l file ok (set s m) (set t n) s t (holds s m) (holds t n);
    any_grouping = λ s t u m n o. over.any_grouping number l file ok (set s m) (set t n) s t (holds s m) (holds t n) (set u o) u (holds u o);
    repeated = λ s t m n. (
      over.repeated number l file ok (set s m) (set t n) s t (holds s m) (holds t n),
      over.repeated_counts_0 number l file ok (set s m) (set t n) s t (holds s m) (holds t n),
    );
    with_itself = λ s m. over.with_itself number l file ok (set s m) s (holds s m);
    fresh_is_neutral = λ s m map buffer bytes opens. (
      over.fresh_second number l file ok (set s m) s (holds s m) map buffer bytes opens,
      over.fresh_first number l file ok (set s m) s (holds s m) map buffer bytes opens,
    );
    holes_listed = λ s m. holes.all_holes l s.map ok (holds s m).map_long;
    missing_is_in_a_hole = λ s m. holes.in_a_hole l s.map;
    first_from_place = λ s m place hole e.
        (let first = holes.hole_first l s.map place hole e in (holes.hole_is l s.map place hole e, first.0, first.1));
    none_left_is_the_file = λ s m. none_left_is_the_file number l file (set s m) s (holds s m);
  }
