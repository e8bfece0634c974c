-- What the hole program prints for an input (01, "Both sides of the line"), and how it is written into a lent slice.
-- Assumes nothing.
use Rattle.std.specs.Prelude.{List, [], ◌∷◌, ℕ, ltb, length, Result}
use Rattle.reason.specs.declared.Reason.{Reason}
use Rattle.reason.specs.Answer.{Answer, accepted, refused, answer_of, WritesAndTells}
use Rattle.reason.specs.Order.{Check, check, first_of}
use Rattle.octets.specs.Runs.{put_in}
use Rattle.reception.specs.declared.File.{File}
use Rattle.record.specs.Reading.{map_in, read_record}
use Rattle.report.specs.Text.{refused_line, file_lines, longest_text}

-- the lines of a record, by what reading it answers
abbrev pub lines_of : Answer File → List ℕ → List ℕ
lines_of (accepted r) s = file_lines r.number r.length (map_in s)
lines_of (refused n) s = refused_line n

-- what is printed for an input
abbrev pub text_of : List ℕ → List ℕ
text_of s = lines_of (read_record s) s

-- 12: the lent slice has no room for the longest text, whatever the text is
abbrev pub reporting_checks : List ℕ → List Check
reporting_checks out = check (ltb (length out) longest_text) 12 ∷ []

-- the answer: how many bytes the text has, or the reason
unfoldable pub reporting : List ℕ → List ℕ → Answer ℕ
reporting s out = first_of (reporting_checks out) (length (text_of s))

-- The promise of `report`: what it answers, and that it leaves the text in the first bytes of the lent slice, or every byte as it was.
abbrev pub Reports : List ℕ → List ℕ → Result ℕ Reason → List ℕ → Type 0
Reports s out r left = WritesAndTells out (reporting s out) (λ n. put_in out 0 (text_of s)) (answer_of r) left
