-- `header::read_header` meets its contract: one test of the rules fails at each refusal, and all hold at the end.
-- Assumes nothing.
use Rattle.std.proofs.Common.{◌≡◌, sym, ap, ap₂, ◌∙◌, Bool, true, false, List, [], ◌∷◌, ℕ, ◌%◌, ◌≤◌, ◌<◌, arith, rules, take, sum, None}
use mathlib.Core.Bool.{true≢false}
use Rattle.std.specs.List.{list_all}
use Rattle.std.proofs.Math.Seq.{length-take-le}
use borrow.Author.Tests.{le-leb}
use Rattle.reason.specs.Answer.{accepted, refused}
use Rattle.octets.specs.Runs.{put_in}
use Rattle.header.specs.declared.Meaning.TheVariants.{HeaderSum, UploadTime}
use Rattle.header.specs.declared.notes.Note.{Note}
use Rattle.header.specs.declared.notes.Notes.{Notes}
use Rattle.header.specs.declared.Header.{Header}
use Rattle.header.specs.Items.{items, count_of, comes_to_end}
use Rattle.header.specs.Header.{begins_right, mandatory, once, values_agree, values_by, header_of, all_once, upload_right, values_right, keeps_rules, read_header}
use Rattle.header.specs.Rules.{Rules}
use Rattle.header.specs.Notes.{note_of, counts, sizes, starts, Noted}
use Rattle.header.proofs.NoteLaws.{once_by_notes, values_by_notes, uploads_by_notes, sum_by_notes, sum_in_header}
use Rattle.header.proofs.HeaderLaws.{reads_header}
use Rattle.header.proofs.RulesKept.{all_5, begins_kept, once_kept, values_kept, refuses_if}
use Rattle.header.proofs.read_header.Goals as goal
use Rattle.header.proofs.read_header.Goals.{then-not-all_once-via-then-not-all_once, then-not-all_once-via-else-not-all_once+then-of-gt1}

module _ (s : List ℕ) (number : ℕ) where
  -- a test that the rules would pass and that fails
  fails : (b : Bool) → (Rules s number → b ≡ true) → b ≡ false → refused 8 ≡ read_header s number
  fails b k h = sym (refuses_if s number (λ r. true≢false (sym (k r) ∙ h)))

  not_begun : begins_right s ≡ false → refused 8 ≡ read_header s number
  not_begun = fails (begins_right s) (begins_kept s number)

  not_ended : comes_to_end (items s) ≡ false → refused 8 ≡ read_header s number
  not_ended = fails (comes_to_end (items s)) (λ r. r.ends)

  -- by the notes
  module _ (n : Notes) (noted : Noted s n) where
    abbrev Once : Bool
    Once = list_all (once (counts n.notes) (sizes n.notes)) mandatory

    not_once : Once ≡ false → refused 8 ≡ read_header s number
    not_once h = fails (all_once s) (once_kept s number) (sym (once_by_notes s n noted) ∙ h)

    twice : 1 < (note_of n.notes UploadTime).count → refused 8 ≡ read_header s number
    twice h = sym (refuses_if s number (λ r. omega (arith, uploads_by_notes s n noted, r.upload)))

    -- what `agree` answered of the values and the sum
    module _ (h : Header) (at total : ℕ) (valued : h ≡ values_by (counts n.notes) (starts n.notes) n.end s) (placed : at ≡ (note_of n.notes HeaderSum).start)
        (summed : total ≡ sum (put_in (take n.end s) at (0 ∷ 0 ∷ [])) % 65536) (r : Bool) (agreed : r ≡ values_agree h total number) where
      is : h ≡ header_of s
      is = valued ∙ values_by_notes s n noted

      agrees : values_right s number ≡ r
      agrees = ap₂ (λ (x : Header) (y : ℕ). values_agree x y number) (sym is) (sym (summed ∙ sum_by_notes s n noted at placed)) ∙ sym agreed

      not_agreed : r ≡ false → refused 8 ≡ read_header s number
      not_agreed e = fails (values_right s number) (values_kept s number) (agrees ∙ e)

      all_kept : begins_right s ≡ true → Once ≡ true → (note_of n.notes UploadTime).count ≤ 1 → r ≡ true → accepted h ≡ read_header s number
      unfolding keeps_rules
      all_kept b o u a =
          let kept =
          all_5 (begins_right s) (comes_to_end (items s)) (all_once s) (upload_right s) (values_right s number) b noted.ends
          (sym (once_by_notes s n noted) ∙ o)
          (le-leb (count_of (items s) 0x12) 1 (omega (arith, uploads_by_notes s n noted)))
          (agrees ∙ a) in
          ap accepted is ∙ sym (reads_header s number kept)

pub returns-then-not-begins : goal.returns-then-not-begins
returns-then-not-begins c = not_begun c.args.s.now c.args.number (sym c.begins.ensures ∙ c.if-not-begins.true)

pub returns-in_err-notes : goal.returns-in_err-notes
returns-in_err-notes c = let w : c.walk.result ≡ None = search rules in let x = not_ended c.args.s.now c.args.number (c.walk.ensures.broken w) in search rules

pub returns-then-not-all_once : goal.returns-then-not-all_once
returns-then-not-all_once c =
    let noted : Noted c.args.s.now c.in_ok-notes.notes = c.walk.ensures.ended c.in_ok-notes.notes (search rules) in
    elim c.then-not-all_once.branch [
      | then-not-all_once-via-then-not-all_once w ↦ not_once c.args.s.now c.args.number _ noted (sym c.all_once.ensures ∙ w.if-not-all_once.true)
      | then-not-all_once-via-else-not-all_once+then-of-gt1 w ↦ twice c.args.s.now c.args.number _ noted (omega (arith, ap (λ (n : Note). n.count) w.of.ensures, w.if-of-gt1.true))
    ]

pub sum_but-sum-requires : goal.sum_but-sum-requires
sum_but-sum-requires c =
    let noted : Noted c.args.s.now c.in_ok-notes.notes = c.walk.ensures.ended c.in_ok-notes.notes (search rules) in
    let long = length-take-le c.in_ok-notes.notes.end c.args.s.now noted.inside in
    omega (arith, long, ap (λ (n : Note). n.start) c.of-2.ensures, sum_in_header _ _ noted (sym c.all_once.ensures ∙ c.if-not-all_once.false))

pub returns-then-not-agree : goal.returns-then-not-agree
returns-then-not-agree c =
    let noted : Noted c.args.s.now c.in_ok-notes.notes = c.walk.ensures.ended c.in_ok-notes.notes (search rules) in
    not_agreed c.args.s.now c.args.number _ noted _ _ _ c.values-header.ensures (ap (λ (n : Note). n.start) c.of-2.ensures) c.sum_but-sum.ensures _
    c.agree.ensures c.if-not-agree.true

pub returns : goal.returns
returns c =
    let noted : Noted c.args.s.now c.in_ok-notes.notes = c.walk.ensures.ended c.in_ok-notes.notes (search rules) in
    all_kept c.args.s.now c.args.number _ noted _ _ _ c.values-header.ensures (ap (λ (n : Note). n.start) c.of-2.ensures) c.sum_but-sum.ensures _
    c.agree.ensures (sym c.begins.ensures ∙ c.if-not-begins.false) (sym c.all_once.ensures ∙ c.if-not-all_once.false) (omega (arith, c.if-of-gt1.false, ap (λ (n : Note). n.count) c.of.ensures)) c.if-not-agree.false
