-- What a station holds after its frames, and what joining two stations gives: by induction over the frames, with the laws of one frame.
-- Assumes nothing.
use mathlib.Core.Path.{◌≡◌, refl, sym, ap, ap₂, ◌∙◌}
use mathlib.Core.Bool.{Bool, true, false, ◌&&◌, ◌||◌, or-true, or-false, or_assoc, true≢false}
use mathlib.Core.Logic.{inl, inr, ⊎_elim}
use mathlib.Core.List.{List, [], ◌∷◌, ◌++◌}
use Prim.Native.Nat.{ℕ, ◌*◌, ◌<◌}
use native.Mathlib.Omega.{arith}
use lib.ListN.{length}
use Rattle.reason.specs.Answer.{is_accepted}
use Rattle.reason.proofs.Bools.{le_or_lt}
use Rattle.octets.specs.Lists.{OneOf}
use Rattle.positions.specs.Map.{held}
use Rattle.reception.specs.Reception.{Reception, wrong_length}
use Rattle.reception.specs.Opening.{opened}
use Rattle.reception.specs.Joining.{joined}
use Rattle.reception.specs.Fitting.{AgreesWith}
use Rattle.reception.specs.Contents.{HoldsOf, itself, beyond}
use Rattle.reception.proofs.GivenReasons.{opens_only_if}
use Rattle.reception.proofs.Holding.{told, same_reception, opened_holds, joined_holds}
use Rattle.reception.proofs.HoldingLaws.{as_long, held_after}
use Rattle.reception.proofs.LentSpace.{all_of_it, joined_beyond}
use Rattle.taking.specs.Taking.{piece_data_in, taking_frame, taken_frame}
use Rattle.station.specs.Sequences.{taken_frames, in_piece, covered_in, fits_file, covered, AllAgree}
use Rattle.station.specs.Stations.{Station, fresh, reception_of}
use Rattle.station.proofs.OneFrame.{accepted_is_fitting, frame_holds, frame_beyond}

-- ---- any frames at all, also ones that agree with no file: a position is held exactly if it was before, or an accepted piece covered it
pub held_after_frames : (s : Reception) (frames : List (List ℕ)) (p : ℕ) → p < length s.map * 8
    → held (taken_frames s frames).map p ≡ (held s.map p || covered_in s frames p)
held_after_frames s [] p h = sym (or-false (held s.map p))
held_after_frames s (frame ∷ frames) p h =
    held_after_frames (taken_frame s frame) frames p (let e = as_long s (piece_data_in frame) (taking_frame s frame) in omega (arith, e, h))
    ∙ ap (λ (b : Bool). b || covered_in (taken_frame s frame) frames p) (held_after s (piece_data_in frame) (taking_frame s frame) p h)
    ∙ or_assoc (held s.map p) (is_accepted (taking_frame s frame) && in_piece frame p) (covered_in (taken_frame s frame) frames p)

module _ (number l : ℕ) (file : List ℕ) (ok : wrong_length l ≡ false) where
  -- ---- frames taken into a reception of the file

  -- held is what was before, and what the frames cover
  frames_hold : (frames : List (List ℕ)) (S : ℕ → Bool) (s : Reception) → HoldsOf number l file S s → AllAgree number l file frames
      → HoldsOf number l file (λ p. S p || covered number l frames p) (taken_frames s frames)
  frames_hold [] S s h agree = told number l file S (λ p. S p || false) s (λ p. sym (or-false (S p))) h
  frames_hold (frame ∷ frames) S s h agree =
      told number l file (λ p. (S p || fits_file number l frame && in_piece frame p) || covered number l frames p) (λ p. S p || covered number l (frame ∷ frames) p)
      (taken_frames (taken_frame s frame) frames) (λ p. or_assoc (S p) (fits_file number l frame && in_piece frame p) (covered number l frames p))
      (frames_hold frames (λ p. S p || fits_file number l frame && in_piece frame p) (taken_frame s frame)
      (frame_holds number l file ok S s h frame agree.0) agree.1)

  -- what the accepted pieces cover is what the fitting pieces cover
  frames_cover : (frames : List (List ℕ)) (S : ℕ → Bool) (s : Reception) → HoldsOf number l file S s → AllAgree number l file frames → (p : ℕ)
      → covered_in s frames p ≡ covered number l frames p
  frames_cover [] S s h agree p = refl
  frames_cover (frame ∷ frames) S s h agree p =
      ap₂ (λ (b c : Bool). b && in_piece frame p || c) (accepted_is_fitting number l file ok S s h frame agree.0)
      (frames_cover frames (λ q. S q || fits_file number l frame && in_piece frame q) (taken_frame s frame)
      (frame_holds number l file ok S s h frame agree.0) agree.1 p)

  -- what lies beyond stays
  frames_beyond : (frames : List (List ℕ)) (S : ℕ → Bool) (s : Reception) → HoldsOf number l file S s → AllAgree number l file frames
      → beyond (taken_frames s frames) ≡ beyond s
  frames_beyond [] S s h agree = refl
  frames_beyond (frame ∷ frames) S s h agree =
      frames_beyond frames (λ p. S p || fits_file number l frame && in_piece frame p) (taken_frame s frame)
      (frame_holds number l file ok S s h frame agree.0) agree.1
      ∙ frame_beyond number l file ok S s h frame

  -- ---- what a station holds

  fresh_holds : (a : Station number l file) → HoldsOf number l file (λ p. false) (fresh a)
  fresh_holds a = opened_holds number l file a.map a.buffer (opens_only_if l a.map a.buffer a.opens).1 a.bytes

  pub holds_fitting : (a : Station number l file) → HoldsOf number l file (covered number l a.frames) (reception_of a)
  holds_fitting a = frames_hold a.frames (λ p. false) (fresh a) (fresh_holds a) a.agree

  pub accepted_are_fitting : (a : Station number l file) (p : ℕ) → covered_in (fresh a) a.frames p ≡ covered number l a.frames p
  accepted_are_fitting a p = frames_cover a.frames (λ q. false) (fresh a) (fresh_holds a) a.agree p

  pub held_exactly : (a : Station number l file) → HoldsOf number l file (covered_in (fresh a) a.frames) (reception_of a)
  held_exactly a =
      told number l file (covered number l a.frames) (covered_in (fresh a) a.frames) (reception_of a) (λ p. sym (accepted_are_fitting a p)) (holds_fitting a)

  -- what is covered is held: only positions below the length are
  pub covered_is_held : (a : Station number l file) (p : ℕ) → covered number l a.frames p ≡ true → held (reception_of a).map p ≡ true
  covered_is_held a p c =
      let h = holds_fitting a in
      ⊎_elim (λ g. absurd (true≢false (sym c ∙ h.below p g))) (λ g. h.holds p (omega arith) ∙ c) (le_or_lt l p)

  pub same_coverage : (a b : Station number l file) → ((p : ℕ) → covered number l a.frames p ≡ covered number l b.frames p)
      → itself (reception_of a) ≡ itself (reception_of b)
  same_coverage a b e =
      same_reception number l file (covered number l a.frames) (covered number l b.frames) (reception_of a) (reception_of b) (holds_fitting a)
      (holds_fitting b) (λ p _. e p)

  pub beyond_unchanged : (a : Station number l file) → beyond (reception_of a) ≡ beyond (fresh a)
  beyond_unchanged a = frames_beyond a.frames (λ p. false) (fresh a) (fresh_holds a) a.agree

  -- a frame of the sequence that fits agrees, and what it covers is covered
  pub one_agrees : (frame : List ℕ) (frames : List (List ℕ)) → AllAgree number l file frames → OneOf frame frames → fits_file number l frame ≡ true
      → AgreesWith file (piece_data_in frame)
  one_agrees frame [] a x fit = elim x [ ]
  one_agrees frame (f ∷ frames) a (inl e) fit = rw e (a.0 (rw e at fit))
  one_agrees frame (f ∷ frames) a (inr m) fit = one_agrees frame frames a.1 m fit

  pub one_covers : (frame : List ℕ) (frames : List (List ℕ)) → OneOf frame frames → fits_file number l frame ≡ true → (p : ℕ) → in_piece frame p ≡ true
      → covered number l frames p ≡ true
  one_covers frame [] x fit p w = elim x [ ]
  one_covers frame (f ∷ frames) (inl e) fit p w = rw (sym e) (ap₂ (λ (b c : Bool). b && c || covered number l frames p) fit w)
  one_covers frame (f ∷ frames) (inr m) fit p w =
      ap (λ (b : Bool). fits_file number l f && in_piece f p || b) (one_covers frame frames m fit p w) ∙ or-true (fits_file number l f && in_piece f p)

  -- ---- joining two stations is one station after both sequences

  covered_both : (xs ys : List (List ℕ)) (p : ℕ) → covered number l (xs ++ ys) p ≡ (covered number l xs p || covered number l ys p)
  covered_both [] ys p = refl
  covered_both (frame ∷ xs) ys p =
      ap (λ (b : Bool). fits_file number l frame && in_piece frame p || b) (covered_both xs ys p)
      ∙ sym (or_assoc (fits_file number l frame && in_piece frame p) (covered number l xs p) (covered number l ys p))

  pub agree_both : (xs ys : List (List ℕ)) → AllAgree number l file xs → AllAgree number l file ys → AllAgree number l file (xs ++ ys)
  agree_both [] ys a b = b
  agree_both (frame ∷ xs) ys a b = (a.0, agree_both xs ys a.1 b)

  -- a station that takes in more frames
  abbrev pub and_then : (a : Station number l file) (frames : List (List ℕ)) → AllAgree number l file frames → Station number l file
  and_then a frames agree = record {
    map = a.map;
    buffer = a.buffer;
    bytes = a.bytes;
    opens = a.opens;
    frames = a.frames ++ frames;
    agree = agree_both a.frames frames a.agree agree;
  }

  joined_hold : (a b : Station number l file)
      → HoldsOf number l file (λ p. covered number l a.frames p || covered number l b.frames p) (joined (reception_of a) (reception_of b))
  joined_hold a b =
      joined_holds number l file ok (covered number l a.frames) (covered number l b.frames) (reception_of a) (reception_of b) (holds_fitting a) (holds_fitting b)

  pub join_is_any_station : (a b c : Station number l file)
      → ((p : ℕ) → covered number l c.frames p ≡ (covered number l a.frames p || covered number l b.frames p))
      → itself (joined (reception_of a) (reception_of b)) ≡ itself (reception_of c)
  join_is_any_station a b c e =
      same_reception number l file (λ p. covered number l a.frames p || covered number l b.frames p) (covered number l c.frames)
      (joined (reception_of a) (reception_of b)) (reception_of c) (joined_hold a b) (holds_fitting c) (λ p _. sym (e p))

  pub join_is_both : (a b : Station number l file) → joined (reception_of a) (reception_of b) ≡ taken_frames (fresh a) (a.frames ++ b.frames)
  join_is_both a b =
      let c = and_then a b.frames b.agree in
      all_of_it (joined (reception_of a) (reception_of b)) (reception_of c) (join_is_any_station a b c (covered_both a.frames b.frames))
      (joined_beyond (reception_of a) (holds_fitting a).map_bytes (reception_of b) ∙ beyond_unchanged a ∙ sym (beyond_unchanged c))

  pub join_is_one_station : (a b c : Station number l file) → c.map ≡ a.map → c.buffer ≡ a.buffer → c.frames ≡ a.frames ++ b.frames
      → joined (reception_of a) (reception_of b) ≡ reception_of c
  join_is_one_station a b c m d f =
      join_is_both a b ∙ sym (ap₂ (λ (s : Reception) (frames : List (List ℕ)). taken_frames s frames) (ap₂ (opened number l) m d) f)
