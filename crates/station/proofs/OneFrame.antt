-- One frame taken into a reception of a file, whatever set of its positions that holds: by what reading the frame answers, from the
-- laws of its piece.
-- Assumes nothing.
use mathlib.Core.Path.{◌≡◌, refl, sym, ap, ◌∙◌}
use mathlib.Core.Bool.{Bool, true, false, not, ◌&&◌, ◌||◌, or-false, false≢true}
use mathlib.Core.List.{List}
use Prim.Native.Nat.{ℕ}
use lib.ListN.{length}
use Rattle.reason.specs.Answer.{Answer, accepted, refused, is_accepted}
use Rattle.positions.specs.Spans.{count}
use Rattle.positions.specs.Map.{held}
use Rattle.frame.specs.declared.Piece as framed
use Rattle.frame.specs.Piece.{read_piece}
use Rattle.reception.specs.Reception.{Reception, wrong_length}
use Rattle.reception.specs.Adding.{of_piece, after}
use Rattle.reception.specs.Taking.{taken}
use Rattle.reception.specs.Fitting.{fits, covers, AgreesWith}
use Rattle.reception.specs.Contents.{HoldsOf, beyond}
use Rattle.reception.proofs.Holding as holding
use Rattle.reception.proofs.HoldingLaws as laws
use Rattle.reception.proofs.LentSpace.{taken_beyond}
use Rattle.taking.specs.Taking.{piece_data_in, taking_frame, taken_frame}
use Rattle.station.specs.Sequences.{in_piece, fits_file, AgreesIfFits}
use Rattle.taking.proofs.TakingLaws.{frame_refused, frame_accepted, frame_leaves, frame_taken}

-- a property of a reception, by another that is the same
carry : (P : Reception → Type 0) (s t : Reception) → s ≡ t → P t → P s
carry P s t e x = rw e x

-- a frame that fits is read as a piece that fits
fitting_frame : (number l : ℕ) (frame : List ℕ) → fits_file number l frame ≡ true
    → ((p : framed.Piece) × (read_piece frame ≡ accepted p)) × (fits number l (piece_data_in frame) ≡ true)
fitting_frame number l frame = go (read_piece frame) refl
  where
    go : (x : Answer framed.Piece) → read_piece frame ≡ x → (is_accepted x && fits number l (piece_data_in frame)) ≡ true
        → ((p : framed.Piece) × (read_piece frame ≡ accepted p)) × (fits number l (piece_data_in frame) ≡ true)
    go (accepted p) e fit = ((p, e), fit)
    go (refused n) e fit = absurd (false≢true fit)

module _ (number l : ℕ) (file : List ℕ) (ok : wrong_length l ≡ false) (S : ℕ → Bool) (s : Reception) (h : HoldsOf number l file S s) (frame : List ℕ) where
  -- one that fits and agrees is accepted, and counts its positions that are not held yet ..
  pub fitting_is_taken : fits_file number l frame ≡ true → AgreesWith file (piece_data_in frame)
      → taking_frame s frame ≡ accepted (count (λ p. not (held s.map p)) (piece_data_in frame).offset (length (piece_data_in frame).bytes))
  fitting_is_taken fit agree =
      let f = fitting_frame number l frame fit in
      frame_accepted s frame f.0.0 f.0.1 ∙ holding.fitting_is_taken number l file ok S s h (piece_data_in frame) f.1 agree

  -- .. any other is refused, and changes nothing
  pub other_is_refused : fits_file number l frame ≡ false → ((n : ℕ) × (taking_frame s frame ≡ refused n)) × (taken_frame s frame ≡ s)
  other_is_refused = go (read_piece frame) refl
    where
      go : (x : Answer framed.Piece) → read_piece frame ≡ x → (is_accepted x && fits number l (piece_data_in frame)) ≡ false
          → ((n : ℕ) × (taking_frame s frame ≡ refused n)) × (taken_frame s frame ≡ s)
      go (refused n) e _ = ((n, frame_refused s frame n e), frame_leaves s frame n e)
      go (accepted p) e unfit =
          let r = holding.unfitting_is_refused number l file ok S s h (piece_data_in frame) unfit in
          let answer : taking_frame s frame ≡ refused r.0 = frame_accepted s frame p e ∙ r.1 in
          ((r.0, answer), ap (after s (of_piece (piece_data_in frame))) answer)

  pub accepted_is_fitting : AgreesIfFits number l file frame → is_accepted (taking_frame s frame) ≡ fits_file number l frame
  accepted_is_fitting agree = by (fits_file number l frame) refl
    where
      by : (b : Bool) → fits_file number l frame ≡ b → is_accepted (taking_frame s frame) ≡ b
      by true e = ap is_accepted (fitting_is_taken e (agree e))
      by false e = ap is_accepted (other_is_refused e).0.1

  -- a piece whose positions are all held changes nothing
  pub held_counts_0 : fits_file number l frame ≡ true → AgreesWith file (piece_data_in frame)
      → ((p : ℕ) → in_piece frame p ≡ true → held s.map p ≡ true)
      → (taking_frame s frame ≡ accepted 0) × (taken_frame s frame ≡ s)
  held_counts_0 fit agree all =
      let f = fitting_frame number l frame fit in (
        frame_accepted s frame f.0.0 f.0.1 ∙ laws.held_counts_0 number l file ok S s h (piece_data_in frame) f.1 agree all,
        frame_taken s frame f.0.0 f.0.1 ∙ laws.held_changes_nothing number l file ok S s h (piece_data_in frame) f.1 agree all,
      )

  -- a position is held afterwards exactly if it was before, or the frame fits and its piece covers it
  pub frame_holds : AgreesIfFits number l file frame → HoldsOf number l file (λ p. S p || fits_file number l frame && in_piece frame p) (taken_frame s frame)
  frame_holds = go (read_piece frame) refl
    where
      go : (x : Answer framed.Piece) → read_piece frame ≡ x → ((is_accepted x && fits number l (piece_data_in frame)) ≡ true → AgreesWith file (piece_data_in frame))
          → HoldsOf number l file (λ p. S p || (is_accepted x && fits number l (piece_data_in frame)) && in_piece frame p) (taken_frame s frame)
      go (refused n) e _ =
          carry (HoldsOf number l file (λ p. S p || false)) (taken_frame s frame) s (frame_leaves s frame n e)
          (holding.told number l file S (λ p. S p || false) s (λ p. sym (or-false (S p))) h)
      go (accepted p) e agree =
          carry (HoldsOf number l file (λ q. S q || covers number l (piece_data_in frame) q)) (taken_frame s frame) (taken s (piece_data_in frame))
          (frame_taken s frame p e) (holding.taken_holds number l file ok S s h (piece_data_in frame) agree)

  -- lent space beyond the file stays, whatever the frame
  pub frame_beyond : beyond (taken_frame s frame) ≡ beyond s
  frame_beyond = go (read_piece frame) refl
    where
      go : (x : Answer framed.Piece) → read_piece frame ≡ x → beyond (taken_frame s frame) ≡ beyond s
      go (refused n) e = ap beyond (frame_leaves s frame n e)
      go (accepted p) e = ap beyond (frame_taken s frame p e) ∙ taken_beyond s h.map_bytes (piece_data_in frame)
