-- Laws of the whole text: which answer `report` gives, and that the text is the one of the record that was read.
-- Assumes nothing.
use mathlib.Core.Path.{◌≡◌, refl, sym, ap, ◌∙◌}
use mathlib.Core.Bool.{false}
use mathlib.Core.List.{List}
use Prim.Native.Nat.{ℕ, ◌≤◌, ◌<◌}
use native.Mathlib.Omega.{arith}
use lib.ListN.{length}
use borrow.Author.Tests.{lt-ltb, le-ltb}
use Rattle.std.specs.Prelude.{Ok, Err}
use Rattle.reason.specs.declared.Reason.TheVariants.{Space}
use Rattle.reason.specs.Answer.{Answer, accepted, refused}
use Rattle.reason.proofs.OrderLaws.{skip, stop, none_left}
use Rattle.reason.proofs.Writing.{tells_refused, tells_accepted}
use Rattle.octets.specs.Runs.{put_in}
use Rattle.positions.specs.Map.{map_size}
use Rattle.reception.specs.Reception.{wrong_length}
use Rattle.reception.specs.declared.File.{File}
use Rattle.record.specs.Reading.{read_record, map_read}
use Rattle.record.proofs.GivenAnswers.{is_formed, map_in_long, read_says, map_handed_out}
use Rattle.report.specs.Text.{refused_line, file_lines, longest_text}
use Rattle.report.specs.Reporting.{lines_of, text_of, reporting, Reports}

module _ (s out : List ℕ) where
  -- no room for the longest text
  pub reports_12 : length out < longest_text → Reports s out (Err Space) out
  unfolding reporting
  reports_12 h = tells_refused out (reporting s out) (λ n. put_in out 0 (text_of s)) out 12 (stop _ _ _ (lt-ltb _ _ h)) refl

  module _ (room : longest_text ≤ length out) where
    -- a text that was written
    reported : (text : List ℕ) → text_of s ≡ text → (n : ℕ) (left : List ℕ) → n ≡ length text → left ≡ put_in out 0 text → Reports s out (Ok n) left
    unfolding reporting
    reported text is n left d e =
        tells_accepted out (reporting s out) (λ k. put_in out 0 (text_of s)) left n
        (skip _ _ _ (le-ltb _ _ room) ∙ none_left _ ∙ sym (ap accepted (d ∙ ap length (sym is))))
        (e ∙ ap (put_in out 0) (sym is))

    -- of a record that is read, with its map handed out
    pub reports_file : (r : File) → read_record s ≡ accepted r → (map : List ℕ) → map ≡ map_read (accepted r) s → (n : ℕ) (left : List ℕ)
        → n ≡ length (file_lines r.number r.length map) → left ≡ put_in out 0 (file_lines r.number r.length map) → Reports s out (Ok n) left
    reports_file r e map is n left =
        reported (file_lines r.number r.length map)
        (ap (λ (x : Answer File). lines_of x s) e ∙ sym (ap (file_lines r.number r.length) (is ∙ map_handed_out s r e))) n left

    -- of a record that is refused
    pub reports_refusal : (k : ℕ) → read_record s ≡ refused k → (n : ℕ) (left : List ℕ) → n ≡ length (refused_line k) → left ≡ put_in out 0 (refused_line k)
        → Reports s out (Ok n) left
    reports_refusal k e n left = reported (refused_line k) (ap (λ (x : Answer File). lines_of x s) e) n left

-- a record's length is right, and its map is long enough
pub file_needs : (s : List ℕ) (r : File) → read_record s ≡ accepted r → (map : List ℕ) → map ≡ map_read (accepted r) s
    → (wrong_length r.length ≡ false) × (map_size r.length ≤ length map)
file_needs s r e map is =
    let says = read_says s r e in
    let f = is_formed s says.0 in
    let l : r.length ≡ _ = ap (λ (x : File). x.length) says.1 in
    let long = ap length (is ∙ map_handed_out s r e) ∙ map_in_long s (omega (arith, f.long)) in
    (ap wrong_length l ∙ f.right, omega (arith, long, l))
