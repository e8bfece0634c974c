-- `record::load` meets its contract: the record is read, then the map and the buffer are written.
-- Assumes nothing.
use mathlib.Core.Path.{◌≡◌, sym, ap, ◌∙◌}
use Rattle.std.proofs.Common.{rules}
use Rattle.std.specs.Prelude.{Err}
use Rattle.reason.specs.declared.Reason.TheVariants.{Space}
use Rattle.reason.specs.Reasons.{number_of}
use Rattle.reception.specs.Reception.{short_space}
use Rattle.reception.specs.declared.File.{File}
use Rattle.record.specs.Reading.{length_in}
use Rattle.record.proofs.GivenAnswers.{not_read, read_says, loads_13, loads_12, loads_refused, loads_accepted}
use Rattle.record.proofs.load.Goals as goal

pub returns-in_err-file : goal.returns-in_err-file
returns-in_err-file c =
    let a = c.args in
    let reason = c.in_err-file.field-0.0 in
    let passed : c.from_residual.result ≡ Err reason = search rules in
    let w = not_read a.saved.now (number_of reason) (sym c.in_err-file.ensures) in
    rw passed (loads_refused a.saved.now a.map.now a.buffer.now reason (rw w.1 (loads_13 a.saved.now a.map.now a.buffer.now w.0)))

pub returns-then-short : goal.returns-then-short
returns-then-short c =
    let a = c.args in
    let w = read_says a.saved.now c.in_ok-file.file (sym c.in_ok-file.ensures) in
    let short_is : c.short.result ≡ short_space (length_in a.saved.now) a.map.now a.buffer.now =
    c.short.ensures ∙ ap (λ (x : File). short_space x.length a.map.now a.buffer.now) w.1 in
    loads_refused a.saved.now a.map.now a.buffer.now Space
    (loads_12 a.saved.now a.map.now a.buffer.now w.0 (sym short_is ∙ c.if-short.true))

pub returns : goal.returns
returns c =
    let a = c.args in
    let w = read_says a.saved.now c.in_ok-file.file (sym c.in_ok-file.ensures) in
    let short_is : c.short.result ≡ short_space (length_in a.saved.now) a.map.now a.buffer.now =
    c.short.ensures ∙ ap (λ (x : File). short_space x.length a.map.now a.buffer.now) w.1 in
    loads_accepted a.saved.now a.map.now a.buffer.now w.0 (sym short_is ∙ c.if-short.false) c.in_ok-file.file w.1
    c.map_by.result.now c.buffer_by.result.now c.map_by.ensures c.buffer_by.ensures _ _ _ _
    c.put.ensures c.put-2.ensures
