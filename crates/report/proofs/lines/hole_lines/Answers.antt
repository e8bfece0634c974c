-- `report::lines::hole_lines` meets its contract: what is there, with the lines of the holes from the place on behind it, is the whole.
-- Assumes nothing.
use mathlib.Core.Path.{◌≡◌, sym, ap, ap₂, ◌∙◌}
use mathlib.Core.List.{List, [], ◌++◌}
use Prim.Native.Nat.{ℕ, ◌+◌, ◌≤◌}
use native.Mathlib.Omega.{arith}
use lib.ListN.{length, length-append}
use Rattle.octets.specs.Runs.{put_in}
use Rattle.octets.proofs.RunLaws.{put_length, put_put, put_nothing}
use Rattle.reason.specs.Answer.{accepted, answer_of}
use Rattle.holes.specs.declared.Hole.{Hole}
use Rattle.holes.specs.Listing.{listing}
use Rattle.holes.specs.EveryHole.{end_of, listed_from}
use Rattle.report.specs.Text.{hole_line, hole_lines}
use Rattle.report.proofs.Writes.{Written}
use Rattle.holes.proofs.ListedLaws.{listed_bounds, listed_none, listed_next}
use Rattle.report.proofs.lines.hole_lines.Goals as goal

-- what is there, with a run behind it, is the whole
abbrev Left : List ℕ → ℕ → List ℕ → List ℕ → ℕ → List ℕ → Type 0
Left out₀ from whole out at run =
    (at + length run ≡ from + length whole) × (put_in out at run ≡ put_in out₀ from whole) × (length out ≡ length out₀)

module _ (out₀ : List ℕ) (from : ℕ) (whole out : List ℕ) (at : ℕ) where
  -- nothing left
  none : Left out₀ from whole out at [] → Written out₀ from whole at out
  none i = (omega (arith, i.0), sym (put_nothing out at) ∙ i.1)

  -- one run less
  less : (a b : List ℕ) (r : ℕ) (left : List ℕ) → from + length whole ≤ length out₀ → Left out₀ from whole out at (a ++ b) → Written out at a r left
      → Left out₀ from whole left r b
  less a b r left h i w =
      let e = length-append a b in
      let room : at + length a + length b ≤ length out = omega (arith, i.0, i.2) in (
        omega (arith, w.0, i.0),
        ap₂ (λ (l : List ℕ) (n : ℕ). put_in l n b) w.1 w.0 ∙ put_put out at a b room ∙ i.1,
        ap length w.1 ∙ put_length out at a (omega arith) ∙ i.2,
      )

-- the lines of the holes from a place on
abbrev lines : ℕ → List ℕ → ℕ → List ℕ
lines l map place = hole_lines (listed_from l l map place)

lines_next : (l : ℕ) (map : List ℕ) (place : ℕ) (hole : Hole) → listing l map place ≡ accepted hole
    → lines l map place ≡ hole_line hole ++ lines l map (end_of hole)
unfolding hole_lines
lines_next l map place hole e = ap hole_lines (listed_next l map place hole e)

lines_none : (l : ℕ) (map : List ℕ) (place : ℕ) → listed_from l l map place ≡ [] → lines l map place ≡ []
unfolding hole_lines
lines_none l map place e = ap hole_lines e

module _ (out₀ : List ℕ) (from : ℕ) (whole out : List ℕ) (at l : ℕ) (map : List ℕ) (place : ℕ)
    (i : Left out₀ from whole out at (lines l map place)) where
  -- the hole's line is next
  hole_next : (hole : Hole) → listing l map place ≡ accepted hole → Left out₀ from whole out at (hole_line hole ++ lines l map (end_of hole))
  hole_next hole e = rw (lines_next l map place hole e) at i

  -- no hole is left
  no_next : listed_from l l map place ≡ [] → Written out₀ from whole at out
  no_next e = none out₀ from whole out at (rw (lines_none l map place e) at i)

pub hole_line-at-requires : goal.hole_line-at-requires
hole_line-at-requires c =
    let a = c.args in
    let b = c.loop-hole in
    let h = c.in-Ok.hole in
    let listed : listing a.l a.map.now b.place ≡ accepted h = sym c.list.ensures ∙ ap answer_of c.in-Ok.is in
    let i = hole_next a.out.now a.from (lines a.l a.map.now 0) b.out b.at a.l a.map.now b.place b.invariant h listed in
    omega (arith, i.0, i.2, c.requires, length-append (hole_line h) (lines a.l a.map.now (end_of h)))

pub overflow_add-place : goal.overflow_add-place
overflow_add-place c =
    let a = c.args in
    let b = c.loop-hole in
    let h = c.in-Ok.hole in
    let listed : listing a.l a.map.now b.place ≡ accepted h = sym c.list.ensures ∙ ap answer_of c.in-Ok.is in
    omega (arith, listed_bounds a.l a.map.now b.place h listed, c.ranges.l.fits)

pub loop-hole-smaller : goal.loop-hole-smaller
loop-hole-smaller c =
    let a = c.args in
    let b = c.loop-hole in
    let h = c.in-Ok.hole in
    let listed : listing a.l a.map.now b.place ≡ accepted h = sym c.list.ensures ∙ ap answer_of c.in-Ok.is in
    omega (arith, listed_bounds a.l a.map.now b.place h listed)

pub loop-hole-preserved : goal.loop-hole-preserved
loop-hole-preserved c =
    let a = c.args in
    let b = c.loop-hole in
    let h = c.in-Ok.hole in
    let w = c.hole_line-at.ensures in
    let listed : listing a.l a.map.now b.place ≡ accepted h = sym c.list.ensures ∙ ap answer_of c.in-Ok.is in
    less a.out.now a.from (lines a.l a.map.now 0) b.out b.at (hole_line h) (lines a.l a.map.now (end_of h)) _ _ c.requires
    (hole_next a.out.now a.from (lines a.l a.map.now 0) b.out b.at a.l a.map.now b.place b.invariant h listed) (w.value, w.out_after)

pub returns : goal.returns
returns c =
    let a = c.args in
    let b = c.loop-hole in
    let w = no_next a.out.now a.from (lines a.l a.map.now 0) b.out b.at a.l a.map.now b.place b.invariant
    (listed_none a.l a.map.now b.place a.l _ (sym c.list.ensures ∙ ap answer_of c.in_default.is)) in
    record { value = w.0; out_after = w.1 }
