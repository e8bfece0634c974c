-- `positions::count_held` meets its contract: whole bytes, and the lowest bits of the one behind them.
-- Assumes nothing.
use mathlib.Core.Path.{◌≡◌, ap, ap₂, ◌∙◌}
use mathlib.Core.List.{List}
use Prim.Native.Nat.{ℕ, ◌+◌, ◌*◌, ◌/◌, ◌%◌, ◌^◌, min}
use native.Mathlib.Omega.{arith}
use lib.Count.{ones}
use lib.ListN.{length, take}
use Rattle.std.specs.Prelude.{sum_by}
use Rattle.std.proofs.lemmas.List.{take_min}
use Rattle.octets.specs.Numbers.{byte_at, AllBytes}
use Rattle.positions.specs.Spans.{count}
use Rattle.positions.specs.Map.{held}
use Rattle.positions.proofs.SpanLaws.{count_most}
use Rattle.positions.proofs.MapLaws.{count_bytes, count_low}
use Rattle.positions.proofs.count_held.Goals as goal

-- the first i bytes of a map, all of it where it has no more
in_map : (m : List ℕ) (i j : ℕ) → AllBytes m → j ≡ min i (length m) → sum_by ones (take j m) ≡ count (held m) 0 (i * 8)
in_map m i j all e = ap (sum_by ones) (ap (λ (k : ℕ). take k m) e ∙ take_min i m) ∙ count_bytes m i all

-- whole bytes, and the positions behind them, as they were counted
sum : (m : List ℕ) (n j whole low set byte : ℕ) → AllBytes m → j ≡ min (n / 8) (length m) → whole ≡ sum_by ones (take j m) → byte ≡ byte_at m (n / 8)
    → low ≡ byte % 2 ^ (n % 8) → set ≡ ones low → whole + set ≡ count (held m) 0 n
sum m n j whole low set byte all a b d e f =
    let places : n / 8 * 8 + n % 8 ≡ n = omega arith in
    ap₂ (λ (x y : ℕ). x + y) (b ∙ in_map m (n / 8) j all a) (f ∙ ap ones (e ∙ ap (λ (x : ℕ). x % 2 ^ (n % 8)) d))
    ∙ count_low m (n / 8) (n % 8) (omega arith)
    ∙ ap (count (held m) 0) places

pub count_bytes-requires : goal.count_bytes-requires
count_bytes-requires c =
    let m = c.args.map.now in
    let e = in_map m (c.args.n / 8) c.min.result (λ i. (c.type_inv.map i).fits) c.min.ensures in
    let b = count_most (held m) 0 (c.args.n / 8 * 8) in
    let f = c.ranges.n in
    omega (arith, e, b, f)

pub overflow_add-result : goal.overflow_add-result
overflow_add-result c =
    let m = c.args.map.now in
    let e =
    sum m c.args.n c.min.result c.count_bytes.result _ _ _ (λ i. (c.type_inv.map i).fits) c.min.ensures c.count_bytes.ensures c.byte.ensures c.lowest-last.ensures c.count_set.ensures in
    let b = count_most (held m) 0 c.args.n in
    let f = c.ranges.n in
    omega (arith, e, b, f)

pub returns : goal.returns
returns c =
    sum c.args.map.now c.args.n c.min.result _ _ _ _ (λ i. (c.type_inv.map i).fits) c.min.ensures c.count_bytes.ensures c.byte.ensures c.lowest-last.ensures c.count_set.ensures
