-- Calls of the functions, by their promises alone: what they leave is what the definitions of demand 3 say.
-- Assumes nothing.
use mathlib.Core.Path.{◌≡◌, refl, sym, ap, ap₂, ◌∙◌}
use mathlib.Core.Bool.{Bool, false}
use mathlib.Core.List.{List, [], ◌∷◌}
use Prim.Native.Nat.{ℕ, ◌^◌, ◌≤◌, ◌<◌}
use native.Mathlib.Omega.{arith}
use lib.ListN.{length, take}
use Rattle.std.specs.Prelude.{Result}
use Rattle.reason.specs.declared.Reason.{Reason}
use Rattle.reason.specs.Answer.{Answer, accepted, leaving, answer_of}
use Rattle.octets.specs.Numbers.{AllBytes}
use Rattle.octets.specs.Runs.{put_in}
use Rattle.reception.specs.declared.File.{File}
use Rattle.reception.specs.Reception.{Reception, wrong_length, short_space}
use Rattle.reception.specs.Adding.{Offer, after, Adds}
use Rattle.reception.specs.Opening.{opening, opened, opened_map, opened_buffer, Opens}
use Rattle.reception.specs.Contents.{HoldsOf}
use Rattle.record.specs.Record.{record_of, record_length}
use Rattle.record.specs.Saving.{Saves}
use Rattle.record.specs.Loading.{loaded_map, loaded_buffer, loaded, Loads}
use Rattle.record.proofs.RoundTrip.{record_stands, holding_is_saved, holding_is_loaded, holding_is_given_back}
use Rattle.station.specs.Lent.{Lent, reception_in}
use Rattle.station.specs.Sequences.{taken_frames}
use Rattle.station.specs.Calls.{Calls, none, more}

-- a reception in a map and a buffer that are told
in_these : (number l : ℕ) (left : Lent) (map buffer : List ℕ) → left.map ≡ map → left.buffer ≡ buffer
    → reception_in number l left ≡ record { number = number; length = l; map = map; buffer = buffer }
in_these number l left map buffer m b = ap₂ (λ (x y : List ℕ). reception_in number l (record { map = x; buffer = y })) m b

-- `open`, where the file opens
pub open_leaves : (number l : ℕ) (lent left : Lent) (r : Result Unit Reason) → opening l lent.map lent.buffer ≡ accepted tt
    → Opens l lent.map lent.buffer r left.map left.buffer → reception_in number l left ≡ opened number l lent.map lent.buffer
open_leaves number l lent left r e o =
    in_these number l left (opened_map l lent.map) (opened_buffer l lent.buffer)
    (o.leaves_map ∙ ap (leaving (λ u. opened_map l lent.map) lent.map) e)
    (o.leaves_buffer ∙ ap (leaving (λ u. opened_buffer l lent.buffer) lent.buffer) e)

-- `take` and `join`
pub adding_leaves : (s : Reception) (o : Offer) (answer : Answer ℕ) (r : Result ℕ Reason) (left : Lent) → Adds s o answer r left.map left.buffer
    → reception_in s.number s.length left ≡ after s o answer
adding_leaves s o answer r left a =
    in_these s.number s.length left (after s o answer).map (after s o answer).buffer a.leaves_map a.leaves_buffer

-- `take`, one frame after the other
pub calls_take : (number l : ℕ) (lent last : Lent) (frames : List (List ℕ)) → Calls number l lent frames last
    → reception_in number l last ≡ taken_frames (reception_in number l lent) frames
calls_take number l lent u [] (none v) = refl
calls_take number l u v (w ∷ ws) (more lent left last frame frames r t rest) =
    calls_take number l left last frames rest
    ∙ ap (λ (s : Reception). taken_frames s frames) (adding_leaves (reception_in number l lent) _ _ r left t)

module _ (number l : ℕ) (file : List ℕ) (ok : wrong_length l ≡ false) (set : ℕ → Bool) (s : Reception) (h : HoldsOf number l file set s) where
  -- `save`, into a target with room
  pub save_leaves : (target left : List ℕ) (r : Result ℕ Reason) → record_length l ≤ length target → Saves s target r left
      → (answer_of r ≡ accepted (record_length l)) × (take (record_length l) left ≡ record_of s)
  save_leaves target left r room w =
      let e = holding_is_saved number l file set s h ok target room in
      let z = h.sized in (
        w.answers ∙ e,
        ap₂ (λ (n : ℕ) (x : List ℕ). take (record_length n) x) (sym z) (w.bytes ∙ ap (leaving (λ n. put_in target 0 (record_of s)) target) e)
            ∙ record_stands s target (omega (arith, z, room)),
      )

  -- `load`, into a map and a buffer that are long enough
  pub load_leaves : number < 256 ^ 4 → (lent left : Lent) (r : Result File Reason) → AllBytes lent.map → short_space l lent.map lent.buffer ≡ false
      → Loads (record_of s) lent.map lent.buffer r left.map left.buffer
      → (answer_of r ≡ accepted (record { number = number; length = l }))
      × (reception_in number l left ≡ loaded (record_of s) lent.map lent.buffer)
  load_leaves four lent left r bytes room w =
      let e = holding_is_loaded number l file set s h ok four lent.map lent.buffer room bytes in
      let back = holding_is_given_back number l file set s h ok four lent.map lent.buffer room bytes in (
        w.answers ∙ e,
        in_these number l left (loaded_map (record_of s) lent.map) (loaded_buffer (record_of s) lent.buffer)
            (w.leaves_map ∙ ap (leaving (λ (x : File). loaded_map (record_of s) lent.map) lent.map) e)
            (w.leaves_buffer ∙ ap (leaving (λ (x : File). loaded_buffer (record_of s) lent.buffer) lent.buffer) e)
            ∙ ap₂ (λ (n k : ℕ). record { number = n; length = k; map = loaded_map (record_of s) lent.map; buffer = loaded_buffer (record_of s) lent.buffer })
            (sym back.numbered) (sym back.sized),
      )
