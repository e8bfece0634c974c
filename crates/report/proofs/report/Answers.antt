-- `report::report` meets its contract: by what reading the record answers.
-- Assumes nothing.
use mathlib.Core.Path.{◌≡◌, sym, ap, ◌∙◌}
use Rattle.reason.specs.Reasons.{number_of}
use Rattle.reason.specs.Answer.{accepted, refused, answer_of}
use Rattle.record.specs.Reading.{read_record, map_read}
use Rattle.report.proofs.ReportLaws.{reports_12, reports_file, reports_refusal, file_needs}
use Rattle.report.proofs.report.Goals as goal

pub returns-then-out-lt-LONGEST_TEXT : goal.returns-then-out-lt-LONGEST_TEXT
returns-then-out-lt-LONGEST_TEXT c = reports_12 c.args.input.now c.args.out.now c.if-out-lt-LONGEST_TEXT.true

pub file_lines-requires : goal.file_lines-requires
file_lines-requires c =
    let s = c.args.input.now in
    let said = c.in-Ok.file in
    let is_read : read_record s ≡ accepted said = sym c.read_record-read.ensures ∙ ap answer_of c.in-Ok.is in
    let is_map : c.map_of.result.now ≡ map_read (accepted said) s = c.map_of.ensures in
    let needs = file_needs s said is_read c.map_of.result.now is_map in
    (needs.0, needs.1, c.if-out-lt-LONGEST_TEXT.false)

pub returns-in-Ok : goal.returns-in-Ok
returns-in-Ok c =
    let s = c.args.input.now in
    let said = c.in-Ok.file in
    let is_read : read_record s ≡ accepted said = sym c.read_record-read.ensures ∙ ap answer_of c.in-Ok.is in
    let is_map : c.map_of.result.now ≡ map_read (accepted said) s = c.map_of.ensures in
    let w = c.file_lines.ensures in
    reports_file s c.args.out.now c.if-out-lt-LONGEST_TEXT.false said is_read c.map_of.result.now is_map _ _ w.value w.out_after

pub returns-in-Err : goal.returns-in-Err
returns-in-Err c =
    let s = c.args.input.now in
    let n = number_of c.in-Err.reason in
    let is_read : read_record s ≡ refused n = sym c.read_record-read.ensures ∙ ap answer_of c.in-Err.is in
    let w = c.refused_line.ensures in
    reports_refusal s c.args.out.now c.if-out-lt-LONGEST_TEXT.false n is_read _ _ w.value w.out_after
