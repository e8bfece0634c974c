-- `request::read_request` meets its contract: the head's answer where it refuses, and else that of the information behind it.
-- Assumes nothing.
use mathlib.Core.Path.{◌≡◌, refl, ◌∙◌}
use Rattle.std.proofs.Common.{rules}
use Rattle.reason.specs.Reasons.{number_of}
use Rattle.reason.specs.Answer.{refused, answer_of}
use Rattle.ax25.specs.Information.{file_protocol}
use Rattle.ax25.proofs.Layers.{long, behind_head, refused_head}
use Rattle.request.specs.Reading.{request_checks, request_fields, read_request}
use Rattle.request.proofs.read_request.Goals as goal

-- behind an accepted head there is information
pub slice_bounds-read-count : goal.slice_bounds-read-count
slice_bounds-read-count c = long file_protocol c.args.frame.now request_checks request_fields _ c.in_ok-head.ensures _ refl

pub slice_bounds-read-start : goal.slice_bounds-read-start
slice_bounds-read-start c = long file_protocol c.args.frame.now request_checks request_fields _ c.in_ok-head.ensures _ refl

pub returns : goal.returns
unfolding read_request
returns c = behind_head file_protocol c.args.frame.now request_checks request_fields _ c.in_ok-head.ensures _ refl _ c.read.ensures

pub returns-in_err-head : goal.returns-in_err-head
unfolding read_request
returns-in_err-head c =
    let passed : answer_of c.from_residual.result ≡ refused (number_of c.in_err-head.field-0.0) = search rules in
    passed ∙ refused_head file_protocol c.args.frame.now request_checks request_fields _ c.in_err-head.ensures _ refl
