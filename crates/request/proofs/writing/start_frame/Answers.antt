-- `request::writing::start_frame` meets its contract: both runs have room, and are one.
-- Assumes nothing.
use mathlib.Core.Path.{refl}
use native.Mathlib.Omega.{arith}
use Rattle.reason.proofs.Writing.{when_accepted}
use Rattle.ax25.specs.Head.{write_head}
use Rattle.ax25.specs.Information.{file_protocol}
use Rattle.ax25.proofs.WriteLaws.{head_written}
use Rattle.request.proofs.WritingLaws.{head_and_seven}
use Rattle.request.proofs.writing.start_frame.Goals as goal

-- a head that can be written, where there is room for it, is not refused
pub unwrap-requires : goal.unwrap-requires
unwrap-requires c =
    let a = c.args in
    rw (when_accepted a.target.now (write_head a.target.now a.head.destination a.head.source file_protocol) c.write_head.result c.write_head.new.out _
    c.write_head.ensures (head_written a.target.now a.head.destination a.head.source file_protocol c.requires.0 (omega (arith, c.requires.1)))).0 refl

pub returns : goal.returns
returns c =
    let a = c.args in
    head_and_seven a.target.now a.head.destination a.head.source c.requires.0 c.requires.1 _ _ _ _
    c.write_head.result c.put.result refl c.seven.ensures c.write_head.ensures c.put.ensures
