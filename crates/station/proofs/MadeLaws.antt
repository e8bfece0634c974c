-- Every reception that is made, by opening, taking frames in, joining, saving and loading in any order, is what one station would hold.
-- Assumes nothing.
use mathlib.Core.Path.{◌≡◌, refl, sym, ap, ap₂, ◌∙◌}
use mathlib.Core.Bool.{false}
use mathlib.Core.List.{List, [], ◌∷◌, ◌++◌, append_assoc}
use Prim.Native.Nat.{ℕ, ◌^◌, ◌<◌}
use Rattle.octets.specs.Numbers.{AllBytes}
use Rattle.reception.specs.Reception.{Reception, wrong_length, short_space}
use Rattle.reception.specs.Joining.{joined}
use Rattle.reception.specs.Contents.{HoldsOf}
use Rattle.reception.proofs.GivenReasons.{opens}
use Rattle.reception.proofs.LentSpace.{all_of_it, opened_beyond}
use Rattle.record.specs.Record.{record_of}
use Rattle.record.specs.Loading.{loaded}
use Rattle.record.proofs.RoundTrip.{itself_is_given_back, loaded_beyond}
use Rattle.taking.specs.Taking.{taken_frame}
use Rattle.station.specs.Sequences.{taken_frames, covered, AllAgree}
use Rattle.station.specs.Stations.{Station, fresh, reception_of, Made, by_opening, by_taking, by_joining, by_loading, frames_in}
use Rattle.station.proofs.StationLaws.{holds_fitting, same_coverage, beyond_unchanged, and_then, join_is_both}

-- frames taken in one sequence after the other
taken_both : (s : Reception) (xs ys : List (List ℕ)) → taken_frames s (xs ++ ys) ≡ taken_frames (taken_frames s xs) ys
taken_both s [] ys = refl
taken_both s (frame ∷ xs) ys = taken_both (taken_frame s frame) xs ys

-- no frames behind a sequence
none_behind : (frames : List (List ℕ)) → frames ++ [] ≡ frames
none_behind [] = refl
none_behind (frame ∷ frames) = ap (λ (r : List (List ℕ)). frame ∷ r) (none_behind frames)

module _ (number l : ℕ) (file : List ℕ) (ok : wrong_length l ≡ false) where
  -- ---- a station's reception is made ..
  frames_are_made : (s : Reception) (frames : List (List ℕ)) (m : Made number l file s) → AllAgree number l file frames
      → (n : Made number l file (taken_frames s frames)) × (frames_in n ≡ frames_in m ++ frames)
  frames_are_made s [] m agree = (m, sym (none_behind (frames_in m)))
  frames_are_made s (frame ∷ frames) m agree =
      let x = frames_are_made (taken_frame s frame) frames (by_taking s frame m agree.0) agree.1 in
      (x.0, x.1 ∙ append_assoc (frames_in m) (frame ∷ []) frames)

  pub stations_are_made : (a : Station number l file) → (m : Made number l file (reception_of a)) × (frames_in m ≡ a.frames)
  stations_are_made a = frames_are_made (fresh a) a.frames (by_opening a.map a.buffer a.bytes a.opens) a.agree

  -- ---- .. and every reception that is made is a station's: one that takes in all that went into it
  -- the same frames, in the space that a record is loaded into
  module _ (a : Station number l file) (map buffer : List ℕ) (bytes : AllBytes map) (room : short_space l map buffer ≡ false) where
    abbrev elsewhere : Station number l file
    elsewhere = record {
      map = map;
      buffer = buffer;
      bytes = bytes;
      opens = opens l map buffer ok room;
      frames = a.frames;
      agree = a.agree;
    }

    loaded_is_elsewhere : number < 256 ^ 4 → reception_of elsewhere ≡ loaded (record_of (reception_of a)) map buffer
    loaded_is_elsewhere four =
        let S = covered number l a.frames in
        let h = holds_fitting number l file ok a in
        all_of_it (reception_of elsewhere) (loaded (record_of (reception_of a)) map buffer)
        (same_coverage number l file ok elsewhere a (λ p. refl) ∙ sym (itself_is_given_back number l file S (reception_of a) h ok four map buffer room bytes))
        (beyond_unchanged number l file ok elsewhere
        ∙ opened_beyond number l map buffer
        ∙ sym (loaded_beyond number l file S (reception_of a) h ok four map buffer room bytes))

  pub made_is_a_station : (s : Reception) (m : Made number l file s)
      → (a : Station number l file) × ((a.frames ≡ frames_in m) × (reception_of a ≡ s))
  made_is_a_station u (by_opening map buffer bytes opens) =
      (record { map = map; buffer = buffer; bytes = bytes; opens = opens; frames = []; agree = tt }, (refl, refl))
  made_is_a_station u (by_taking s frame m agree) =
      let x = made_is_a_station s m in (
        and_then number l file ok x.0 (frame ∷ []) (agree, tt),
        (
          ap (λ (frames : List (List ℕ)). frames ++ frame ∷ []) x.1.0,
          taken_both (fresh x.0) x.0.frames (frame ∷ []) ∙ ap (λ (t : Reception). taken_frame t frame) x.1.1,
        ),
      )
  made_is_a_station u (by_joining s t m n) =
      let x = made_is_a_station s m in
      let y = made_is_a_station t n in (
        and_then number l file ok x.0 y.0.frames y.0.agree,
        (
          ap₂ (λ (f g : List (List ℕ)). f ++ g) x.1.0 y.1.0,
          sym (join_is_both number l file ok x.0 y.0) ∙ ap₂ joined x.1.1 y.1.1,
        ),
      )
  made_is_a_station u (by_loading s map buffer m four bytes room) =
      let x = made_is_a_station s m in (
        elsewhere x.0 map buffer bytes room,
        (x.1.0, loaded_is_elsewhere x.0 map buffer bytes room four ∙ ap (λ (t : Reception). loaded (record_of t) map buffer) x.1.1),
      )

  -- so it holds what they cover
  pub made_holds : (s : Reception) (m : Made number l file s) → HoldsOf number l file (covered number l (frames_in m)) s
  made_holds s m =
      let x = made_is_a_station s m in
      let h = holds_fitting number l file ok x.0 in
      of_both x.0.frames (frames_in m) (reception_of x.0) s x.1.0 x.1.1 h
    where
      of_both : (f g : List (List ℕ)) (u v : Reception) → f ≡ g → u ≡ v → HoldsOf number l file (covered number l f) u
          → HoldsOf number l file (covered number l g) v
      of_both f g u v e r h = rw (sym e, sym r) h
