-- `record::writing::put_buffer` meets its contract: the bytes of whole map bytes are written, and those of the last one behind them.
-- Assumes nothing.
use mathlib.Core.Path.{◌≡◌, sym, ap, ◌∙◌}
use mathlib.Core.Bool.{cond}
use mathlib.Core.List.{List, []}
use Prim.Native.Nat.{ℕ, ◌+◌, ◌-◌, ◌*◌, ◌/◌, ◌%◌, ◌≤◌, ◌<◌}
use native.Mathlib.Omega.{arith}
use lib.ListN.{length, get_or, take, drop}
use lib.Seq.{length-take-le}
use Rattle.octets.specs.Numbers.{byte_at}
use Rattle.octets.specs.Values.{values_from}
use Rattle.octets.specs.Runs.{put_in}
use Rattle.octets.proofs.ValueLaws.{values_long}
use Rattle.octets.proofs.RunLaws.{put_fits, put_nothing}
use Rattle.positions.specs.Map.{held}
use Rattle.record.specs.Inner.{byte_saved}
use Rattle.record.proofs.ReadSteps.{chunk_byte, rest_byte}
use Rattle.record.proofs.PutLaws.{copied, values_take, saved_run_more}
use Rattle.record.proofs.writing.put_buffer.Goals as goal

-- the bytes of the positions, unheld ones zero
abbrev F : List ℕ → List ℕ → ℕ → ℕ
F m b = λ q. cond (held m q) (byte_at b q) 0

pub loop-i-init : goal.loop-i-init
loop-i-init c = sym (put_nothing c.args.target.now c.args.at)

pub loop-i-preserved : goal.loop-i-preserved
loop-i-preserved c =
    let a = c.args in
    let d = c.loop-i in
    let s = c.as_saved in
    let l = a.reception.file.length in
    let m = a.reception.map.now in
    let b = a.reception.buffer.now in
    let k = c.as_chunks.ensures in
    let p = a.at + d.i * 8 in
    let eight = get_or c.as_chunks.result.0.now d.i [] in
    let long = length-take-le l b c.requires.room.buffered in
    let test = c.loop-i-test.true in
    let few : d.i < length (take l b) / 8 = omega (arith, test, k.front_len) in
    let below : d.i * 8 + 8 ≤ l = omega (arith, few, long) in
    let size : length s.result ≡ 8 = ap length s.ensures ∙ values_long (byte_saved (byte_at m d.i) eight) 0 8 in
    let same : (j : ℕ) → j < 8 → byte_at eight j ≡ byte_at b (d.i * 8 + j) =
    chunk_byte b l (length (take l b) / 8) d.i eight few below (ap (λ (x : List (List ℕ)). get_or x d.i []) k.front) in
    let kept = d.auto.target in
    let next = copied d.target p (p + 8 - p) s.result _ (omega (arith, size, below, kept)) (omega (arith, size)) c.copy_from_slice.ensures.after in
    let more : d.i * 8 + 8 ≡ (d.i + 1) * 8 = omega arith in
    saved_run_more m b a.target.now a.at d.i d.target d.invariant 8 (omega arith) (omega (arith, below)) eight same _ (next ∙ ap (put_in d.target p) s.ensures)
    ∙ ap (λ (n : ℕ). put_in a.target.now a.at (values_from (F m b) 0 n)) more

pub returns-then-l-ne0 : goal.returns-then-l-ne0
returns-then-l-ne0 c =
    let a = c.args in
    let d = c.loop-i in
    let s = c.as_saved-last in
    let l = a.reception.file.length in
    let m = a.reception.map.now in
    let b = a.reception.buffer.now in
    let k = c.as_chunks.ensures in
    let rest = c.as_chunks.result.1.now in
    let n = length rest in
    let f = byte_saved (byte_at m (l / 8)) c.array.result in
    let long = length-take-le l b c.requires.room.buffered in
    let left : n ≡ l % 8 = omega (arith, long, k.back_len) in
    let at_end : d.i ≡ l / 8 = omega (arith, long, k.front_len) in
    let place : length (take l b) / 8 * 8 ≡ l / 8 * 8 = omega (arith, long) in
    let run : take n s.result ≡ values_from f 0 n = ap (take n) s.ensures ∙ values_take f 0 n 8 (omega (arith, left)) in
    let size : length (take n s.result) ≡ n = ap length run ∙ values_long f 0 n in
    let kept = d.auto.target in
    let next = (put_fits d.target (a.at + l / 8 * 8) (take n s.result) _ _ c.put.ensures (omega (arith, size, left, kept))).1 in
    let so_far = d.invariant ∙ ap (λ (i : ℕ). put_in a.target.now a.at (values_from (F m b) 0 (i * 8))) at_end in
    let all : l / 8 * 8 + n ≡ l = omega (arith, left) in
    saved_run_more m b a.target.now a.at (l / 8) d.target so_far n (omega (arith, left)) (omega (arith, left)) c.array.result
    (λ j h. rest_byte b l (l / 8 * 8) rest c.array.result (k.back ∙ ap (λ (i : ℕ). drop i (take l b)) place) c.array.ensures j (omega (arith, left, h)) (omega (arith, left, h)))
    _ (next ∙ ap (put_in d.target (a.at + l / 8 * 8)) run)
    ∙ ap (λ (i : ℕ). put_in a.target.now a.at (values_from (F m b) 0 i)) all
