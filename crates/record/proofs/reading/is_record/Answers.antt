-- `record::reading::is_record` meets its contract: test by test.
-- Assumes nothing.
use mathlib.Core.Path.{◌≡◌, sym, ap, ◌∙◌}
use mathlib.Core.List.{List}
use Prim.Native.Nat.{ℕ}
use mathlib.Core.Bool.{true, false}
use native.Mathlib.Omega.{arith}
use lib.ListN.{length}
use Rattle.reception.specs.Reception.{wrong_length}
use Rattle.record.specs.Record.{record_length}
use Rattle.reception.specs.declared.File.{File}
use Rattle.record.specs.Reading.{length_in, fields_right, recorded_in}
use Rattle.record.proofs.GivenAnswers.{fails_length, fails_size, fails_fields, fails_spare, by_unheld, map_enough, buffer_enough}
use Rattle.record.proofs.reading.is_record.Goals as goal

-- the length that it says
said_length : (s : List ℕ) (x : File) → x ≡ recorded_in s → x.length ≡ length_in s
said_length s x e = ap (λ (y : File). y.length) e

pub returns-then-wrong_length : goal.returns-then-wrong_length
returns-then-wrong_length c =
    fails_length c.args.saved.now c.says-l.result.length (said_length c.args.saved.now c.says-l.result c.says-l.ensures) (sym c.wrong_length.ensures ∙ c.if-wrong_length.true)

pub returns-then-saved-record_length : goal.returns-then-saved-record_length
returns-then-saved-record_length c =
    let right : wrong_length c.says-l.result.length ≡ false = sym c.wrong_length.ensures ∙ c.if-wrong_length.false in
    fails_size c.args.saved.now c.says-l.result.length (said_length c.args.saved.now c.says-l.result c.says-l.ensures) right (λ e. omega arith)

pub returns-then-not-fields_right : goal.returns-then-not-fields_right
returns-then-not-fields_right c =
    let right : wrong_length c.says-l.result.length ≡ false = sym c.wrong_length.ensures ∙ c.if-wrong_length.false in
    let long : length c.args.saved.now ≡ record_length c.says-l.result.length = omega arith in
    fails_fields c.args.saved.now c.says-l.result.length (said_length c.args.saved.now c.says-l.result c.says-l.ensures) right long (sym c.fields_right.ensures ∙ c.if-not-fields_right.true)

pub spare_clear-requires : goal.spare_clear-requires
spare_clear-requires c =
    let right : wrong_length c.says-l.result.length ≡ false = sym c.wrong_length.ensures ∙ c.if-wrong_length.false in
    let long : length c.args.saved.now ≡ record_length c.says-l.result.length = omega arith in
    map_enough c.args.saved.now c.says-l.result.length (said_length c.args.saved.now c.says-l.result c.says-l.ensures) right long c.map_by-map.result.now c.map_by-map.ensures

pub returns-then-not-spare_clear : goal.returns-then-not-spare_clear
returns-then-not-spare_clear c =
    let right : wrong_length c.says-l.result.length ≡ false = sym c.wrong_length.ensures ∙ c.if-wrong_length.false in
    let long : length c.args.saved.now ≡ record_length c.says-l.result.length = omega arith in
    let fields : fields_right c.says-l.result.length c.args.saved.now ≡ true = sym c.fields_right.ensures ∙ c.if-not-fields_right.false in
    fails_spare c.args.saved.now c.says-l.result.length (said_length c.args.saved.now c.says-l.result c.says-l.ensures) right long fields c.map_by-map.result.now c.map_by-map.ensures
    (sym c.spare_clear.ensures ∙ c.if-not-spare_clear.true)

pub unheld_clear-requires : goal.unheld_clear-requires
unheld_clear-requires c =
    let right : wrong_length c.says-l.result.length ≡ false = sym c.wrong_length.ensures ∙ c.if-wrong_length.false in
    let long : length c.args.saved.now ≡ record_length c.says-l.result.length = omega arith in
    let w = buffer_enough c.args.saved.now c.says-l.result.length (said_length c.args.saved.now c.says-l.result c.says-l.ensures) right long c.map_by-map.result.now c.buffer_by.result.now
    c.map_by-map.ensures c.buffer_by.ensures in
    record { mapped = omega (arith, w); buffered = omega (arith, w) }

pub returns : goal.returns
returns c =
    let right : wrong_length c.says-l.result.length ≡ false = sym c.wrong_length.ensures ∙ c.if-wrong_length.false in
    let long : length c.args.saved.now ≡ record_length c.says-l.result.length = omega arith in
    let fields : fields_right c.says-l.result.length c.args.saved.now ≡ true = sym c.fields_right.ensures ∙ c.if-not-fields_right.false in
    c.unheld_clear.ensures
    ∙ by_unheld c.args.saved.now c.says-l.result.length (said_length c.args.saved.now c.says-l.result c.says-l.ensures) right long fields c.map_by-map.result.now c.map_by-map.ensures
    (sym c.spare_clear.ensures ∙ c.if-not-spare_clear.false)
    c.buffer_by.result.now c.buffer_by.ensures
