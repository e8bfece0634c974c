-- `station_load` meets its contract: by what `record::load` answers.
-- Assumes nothing.
use mathlib.Core.Path.{◌≡◌, refl}
use Rattle.std.proofs.Common.{rules}
use Rattle.reason.specs.Answer.{leaving, answer_of}
use Rattle.reception.specs.declared.File.{File}
use Rattle.station.proofs.ExportLaws.{loaded_out}
use Rattle.station.proofs.boundary.station_load.Goals as goal
use Rattle.station.proofs.boundary.station_load.Goals.{in-Ok, in_default}

pub returns : goal.returns
returns c =
    let lent : File = record { number = c.args.number.now; length = c.args.length.now } in
    let left : File = record { number = c.match-loaded.number; length = c.match-loaded.length } in
    let told : left ≡ leaving (λ x. x) lent (answer_of c.load-loaded.result) = elim c.match-loaded.branch [
      | in-Ok w ↦ rw (w.number-is, w.length-is, w.in-Ok.is)
      | in_default w ↦ (search rules)
    ] in
    let same : answer_of c.load-loaded.result ≡ answer_of c.match-loaded.loaded = (search rules) in
    rw (c.code_of.ensures, ← same) (loaded_out lent left c.load-loaded.ensures refl told)
