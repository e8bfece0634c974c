-- What the text says of the whole input: it fits the space that `report` asks for, an input longer than the largest record is refused, and
-- so it is enough to read one byte more than the largest record has.
-- Assumes nothing.
use mathlib.Core.Path.{◌≡◌, refl, sym, ap, ◌∙◌}
use mathlib.Core.Bool.{Bool, true, false}
use mathlib.Core.Logic.{⊎_elim}
use mathlib.Core.List.{List, ◌++◌}
use Prim.Native.Nat.{ℕ, ◌≤◌, ◌<◌}
use native.Mathlib.Omega.{arith}
use lib.ListN.{length, take}
use lib.Seq.{take_all, length-take-le}
use borrow.Author.Tests.{ltb-false}
use Rattle.std.specs.Prelude.{Result, Ok}
use Rattle.reason.specs.declared.Reason.{Reason}
use Rattle.reason.specs.Answer.{Answer, accepted, refused, leaving, answer_of}
use Rattle.reason.specs.Order.{first_of}
use Rattle.reason.proofs.Bools.{le_or_lt}
use Rattle.reason.proofs.OrderLaws.{accepted_only_if}
use Rattle.octets.specs.Runs.{put_in}
use Rattle.octets.proofs.RunLaws.{put_length}
use Rattle.holes.specs.declared.Hole.{Hole}
use Rattle.reception.specs.Reception.{longest, wrong_length}
use Rattle.reception.specs.Held.{held_count}
use Rattle.holes.specs.EveryHole.{listed_from, AllHoles}
use Rattle.holes.proofs.HoleLaws.{all_holes}
use Rattle.reception.specs.declared.File.{File}
use Rattle.record.specs.Record.{record_length}
use Rattle.record.specs.Reading.{map_in, is_record, read_record}
use Rattle.record.proofs.GivenAnswers.{is_formed, reads_13, read_says, map_handed_out}
use Rattle.record.proofs.RoundTrip.{never_larger}
use Rattle.report.specs.Text.{file_line, hole_lines, refused_line, longest_text}
use Rattle.report.specs.Reporting.{lines_of, text_of, reporting_checks, reporting, Reports}
use Rattle.report.proofs.TextLaws.{fits, refusal_fits}
use Rattle.report.proofs.ReportLaws.{file_needs}

-- The text of every input fits.
pub text_fits : (s : List ℕ) → length (text_of s) ≤ longest_text
text_fits s = by (read_record s) refl
  where
    by : (x : Answer File) → read_record s ≡ x → length (lines_of x s) ≤ longest_text
    by (accepted r) e = let says = read_says s r e in fits r.number r.length (map_in s) (ap (λ (x : File). wrong_length x.length) says.1 ∙ (is_formed s says.0).right)
    by (refused n) e = refusal_fits n

-- The size that is told is within the lent slice.
pub told_within : (s out : List ℕ) (r : Result ℕ Reason) (left : List ℕ) (n : ℕ) → Reports s out r left → r ≡ Ok n → n ≤ length left
unfolding reporting
told_within s out r left n w e =
    let accepts : reporting s out ≡ accepted n = sym w.answers ∙ ap answer_of e in
    let is = accepted_only_if (reporting_checks out) (length (text_of s)) n accepts in
    let room : longest_text ≤ length out = ltb-false (length out) longest_text is.0.0 in
    let fit = text_fits s in
    let made : left ≡ put_in out 0 (text_of s) = w.bytes ∙ ap (leaving (λ k. put_in out 0 (text_of s)) out) accepts in
    let long = ap length made ∙ put_length out 0 (text_of s) (omega arith) in
    omega (arith, is.1, long)

-- An input of more bytes than the largest record has is refused 13.
pub too_long_is_refused : (s : List ℕ) → record_length longest < length s → text_of s ≡ refused_line 13
too_long_is_refused s h = by (is_record s) refl
  where
    by : (b : Bool) → is_record s ≡ b → text_of s ≡ refused_line 13
    by true e = absurd (let k = never_larger s e in omega arith)
    by false e = ap (λ (x : Answer File). lines_of x s) (reads_13 s e)

-- So it is enough to read that many bytes and one more.
pub cut_says_the_same : (s : List ℕ) (n : ℕ) → record_length longest < n → text_of (take n s) ≡ text_of s
cut_says_the_same s n h =
    ⊎_elim
    (λ w. ap text_of (take_all n s w))
    (λ w.
    let size : length (take n s) ≡ n = length-take-le n s (omega arith) in
    too_long_is_refused (take n s) (omega arith) ∙ sym (too_long_is_refused s (omega arith)))
    (le_or_lt (length s) n)

-- What is promised of the text of what was read is promised of the whole input: all of it was read, or that many bytes.
pub cut_reports_the_same : (s read out : List ℕ) (n : ℕ) (r : Result ℕ Reason) (left : List ℕ) → record_length longest < n → take n s ≡ read
    → Reports read out r left → Reports s out r left
unfolding reporting
cut_reports_the_same s read out n r left h e w =
    let same : text_of read ≡ text_of s = ap text_of (sym e) ∙ cut_says_the_same s n h in
    record {
      answers = w.answers ∙ ap (λ (t : List ℕ). first_of (reporting_checks out) (length t)) same;
      bytes = w.bytes ∙ ap (λ (t : List ℕ). leaving (λ k. put_in out 0 t) out (first_of (reporting_checks out) (length t))) same;
    }

-- The text of a record lists every hole of its map, once, ascending.
pub text_lists_every_hole : (s : List ℕ) (r : File) → read_record s ≡ accepted r
    → (holes : List Hole) × (AllHoles r.length (map_in s) holes
    × (text_of s ≡ file_line r.number r.length (held_count r.length (map_in s)) ++ hole_lines holes))
text_lists_every_hole s r e =
    let needs = file_needs s r e (map_in s) (sym (map_handed_out s r e)) in (
      listed_from r.length r.length (map_in s) 0,
      (all_holes r.length (map_in s) needs.0 needs.1, ap (λ (x : Answer File). lines_of x s) e),
    )
