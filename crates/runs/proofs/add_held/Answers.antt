-- `runs::add_held` meets its contract: inside both, and then copied and marked.
-- Assumes nothing.
use Rattle.std.proofs.Common.{◌≡◌, not, true, ◌&&◌, sym, ap₂}
use Rattle.positions.specs.Map.{held}
use Rattle.runs.specs.Offers.{held_in, buffer_with, inside}
use Rattle.runs.proofs.OfferLaws.{stores_run, run_buffer}
use Rattle.runs.proofs.add_held.Goals as goal

pub returns : goal.returns
returns c =
    let x = c.args in
    let m = x.map.now in
    let b = x.buffer.now in
    let o = held_in x.n x.second.map.now x.second.buffer.now in
    let fits : (inside m b 0 x.n && inside x.second.map.now x.second.buffer.now 0 x.n) ≡ true = sym (ap₂ ◌&&◌ c.if-not-inside.ensures c.if-not-inside-2.ensures) in
    stores_run (inside m b 0 x.n && inside x.second.map.now x.second.buffer.now 0 x.n) m b o (buffer_with m b o) fits _ _ _ c.add.ensures.map_run
    (run_buffer (λ q. held x.second.map.now q && not (held m q)) x.second.buffer.now b 0 x.n _ c.add.ensures.buffer_run)
