use Rattle.std.proofs.Common.{refl}
use Rattle.program_tools.proofs.cases.Case.changes.Goals as goal

pub returns : goal.returns
returns c =
    rw (c.changed.ensures, c.changed-2.ensures, c.map-old_map.ensures, c.buffer-old_buffer.ensures, c.number.ensures, c.number-2.ensures, c.number-3.ensures) refl
