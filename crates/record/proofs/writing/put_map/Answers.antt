-- `record::writing::put_map` meets its contract: the bytes without spare bits are copied, and the last one's lowest bits are written.
-- Assumes nothing.
use mathlib.Core.Path.{◌≡◌, ap, ◌∙◌}
use mathlib.Core.Bool.{Bool}
use mathlib.Core.List.{List}
use Prim.Native.Nat.{ℕ, ◌+◌, ◌*◌, ◌/◌, ◌≤◌}
use native.Mathlib.Omega.{arith}
use lib.ListN.{length, take}
use Rattle.octets.specs.Numbers.{AllBytes}
use Rattle.octets.specs.Values.{values_from}
use Rattle.octets.specs.Runs.{put_in, Put}
use Rattle.positions.specs.Map.{map_size, bits_from, map_of}
use Rattle.reception.specs.Held.{held_of}
use Rattle.record.proofs.PutLaws.{put_all, put_one_more, low_byte, whole_bytes}
use Rattle.record.proofs.writing.put_map.Goals as goal

-- the bytes of the map of a file
abbrev F : ℕ → List ℕ → ℕ → ℕ
F l m = λ j. bits_from (held_of l m) (j * 8) 8

-- those without spare bits are copied
copied : (l : ℕ) (m out : List ℕ) (at : ℕ) (r : Bool) (left : List ℕ) → AllBytes m → l / 8 ≤ length m → at + l / 8 ≤ length out
    → Put out at (take (l / 8) m) r left → left ≡ put_in out at (values_from (F l m) 0 (l / 8))
copied l m out at r left all h g p =
    put_all (F l m) out at 0 (l / 8) _ r left g (whole_bytes l m (l / 8) all (omega arith) h) p

pub returns-then-i-l : goal.returns-then-i-l
unfolding map_of
returns-then-i-l c =
    let a = c.args in
    let i = a.l / 8 in
    let all : AllBytes a.map.now = λ i. (c.type_inv.map i).fits in
    let e : i + 1 ≡ map_size a.l = omega arith in
    put_one_more (F a.l a.map.now) a.target.now a.at i c.put.new.out (copied a.l a.map.now a.target.now a.at _ _ all (omega arith) (omega arith) c.put.ensures) c.lowest.result (omega arith)
    (c.lowest.ensures ∙ low_byte a.l a.map.now i (all i) (omega arith))
    ∙ ap (λ (n : ℕ). put_in a.target.now a.at (values_from (F a.l a.map.now) 0 n)) e

pub returns-else-i-l : goal.returns-else-i-l
unfolding map_of
returns-else-i-l c =
    let a = c.args in
    let all : AllBytes a.map.now = λ i. (c.type_inv.map i).fits in
    let e : a.l / 8 ≡ map_size a.l = omega arith in
    copied a.l a.map.now a.target.now a.at _ _ all (omega arith) (omega arith) c.put.ensures
    ∙ ap (λ (n : ℕ). put_in a.target.now a.at (values_from (F a.l a.map.now) 0 n)) e
