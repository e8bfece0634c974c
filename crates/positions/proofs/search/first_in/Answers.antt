-- `positions::search::first_in` meets its contract: each byte is looked at once, and what is passed over is on the other side.
-- Assumes nothing.
use mathlib.Core.Path.{◌≡◌, sym, ap, ◌∙◌}
use mathlib.Core.Bool.{false}
use mathlib.Core.List.{List}
use Prim.Native.Nat.{ℕ, ◌+◌, ◌*◌, ◌/◌, ◌%◌, ◌^◌, ◌≤◌, ◌<◌}
use native.Mathlib.Omega.{arith}
use Rattle.octets.specs.Numbers.{byte_at, AllBytes}
use Rattle.positions.specs.declared.Side.{Side}
use Rattle.positions.specs.Spans.{first}
use Rattle.positions.specs.Map.{is_set, on_side}
use Rattle.positions.specs.Inner.{side_of}
use Rattle.positions.proofs.SpanLaws.{first_none, first_by, no_between}
use Rattle.positions.proofs.SideLaws.{stops, none_in_byte, none_behind, byte_inside, one_behind}
use Rattle.positions.proofs.search.first_in.Goals as goal

-- the byte that is searched first: what is left of it, on the side
rest : (m : List ℕ) (side : Side) (p b : ℕ) → b ≡ side_of (byte_at m (p / 8)) side → b / 2 ^ (p % 8) ≡ side_of (byte_at m (p / 8)) side / 2 ^ (p % 8)
rest m side p b e = ap (λ (x : ℕ). x / 2 ^ (p % 8)) e

-- where it has no position on the side, none is before the byte behind it
none_yet : (m : List ℕ) → AllBytes m → (side : Side) (from b k : ℕ) → b ≡ side_of (byte_at m (from / 8)) side → k ≡ first (is_set (b / 2 ^ (from % 8))) 0 8
    → 8 ≤ k → (q : ℕ) → from ≤ q → q < (from / 8 + 1) * 8 → on_side m side q ≡ false
none_yet m all side from b k e f h q l g =
    none_in_byte m all side from (b / 2 ^ (from % 8)) (rest m side from b e) k f from (omega arith) (λ r a d. absurd (no_between from r a d)) h q l (omega arith)

pub returns-then-n-from : goal.returns-then-n-from
returns-then-n-from c =
    let x = c.args in
    sym (first_none (on_side x.map.now x.side) x.from x.n c.if-n-from.true)

pub returns-then-found : goal.returns-then-found
returns-then-found c =
    let x = c.args in
    c.min.ensures
    ∙ stops x.map.now (λ i. (c.type_inv.map i).fits) x.side x.from _ (rest x.map.now x.side x.from _ c.side_of.ensures) c.lowest_set-k.result c.lowest_set-k.ensures
    x.from (omega arith) (λ q l g. absurd (no_between x.from q l g)) x.n (omega arith) (omega arith)

pub overflow_add-next-in-Some-3 : goal.overflow_add-next-in-Some-3
overflow_add-next-in-Some-3 c =
    let x = c.args in
    let inside = byte_inside x.map.now (λ i. (c.type_inv.map i).fits) x.side (x.from / 8 + 1) ((x.n + 7) / 8) (omega arith) c.in-Some.i (sym c.first_byte.ensures ∙ c.in-Some.is) in
    let low = first_by (is_set c.side_of-in-Some.result) 0 8 in
    omega (arith, inside, low, c.lowest_set.ensures)

pub returns-in-Some : goal.returns-in-Some
returns-in-Some c =
    let x = c.args in
    let m = x.map.now in
    let all : AllBytes m = λ i. (c.type_inv.map i).fits in
    let before = none_yet m all x.side x.from c.side_of.result c.lowest_set-k.result c.side_of.ensures c.lowest_set-k.ensures c.if-found.false in
    c.min-in-Some.ensures
    ∙ one_behind m all x.side (x.from / 8 + 1) ((x.n + 7) / 8) (omega arith) x.from before c.in-Some.i (sym c.first_byte.ensures ∙ c.in-Some.is) x.n c.lowest_set.result
    (c.lowest_set.ensures ∙ ap (λ (b : ℕ). first (is_set b) 0 8) c.side_of-in-Some.ensures) (omega arith) (omega arith)

pub returns-in-None : goal.returns-in-None
returns-in-None c =
    let x = c.args in
    let m = x.map.now in
    let all : AllBytes m = λ i. (c.type_inv.map i).fits in
    let before = none_yet m all x.side x.from c.side_of.result c.lowest_set-k.result c.side_of.ensures c.lowest_set-k.ensures c.if-found.false in
    none_behind m all x.side (x.from / 8 + 1) ((x.n + 7) / 8) (omega arith) x.from before (sym c.first_byte.ensures ∙ c.in-None.is) x.n (omega arith) (omega arith)
