-- `runs::eights::hold` meets its contract: one byte of the map with the bits that are asked for.
-- Assumes nothing.
use Rattle.std.proofs.Common.{rules}
use Rattle.octets.specs.Numbers.{AllBytes}
use Rattle.runs.proofs.MarkLaws.{run_byte, fresh_is}
use Rattle.runs.proofs.eights.hold.Goals as goal

pub returns-clause-map_run : goal.returns-clause-map_run
returns-clause-map_run c =
    let x = c.args in
    let all : AllBytes x.map.now = search rules in
    run_byte x.map.now x.i x.asked c.requires all c.ranges.asked.fits

pub returns-clause-new : goal.returns-clause-new
returns-clause-new c =
    let x = c.args in
    let all : AllBytes x.map.now = search rules in
    fresh_is x.map.now x.i x.asked c.requires all c.ranges.asked.fits
