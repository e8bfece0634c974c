-- What an accepted request says (demand 2): what its reasons leave of it, and its fields and holes as its bytes at their places.
-- Assumes nothing.
use mathlib.Core.Path.{◌≡◌, refl, sym, ap, ap₂, ◌∙◌}
use mathlib.Core.Bool.{Bool, true, false, cond, ◌&&◌, ◌||◌}
use mathlib.Core.List.{List}
use Prim.Native.Nat.{ℕ, ◌+◌, ◌-◌, ◌*◌, ◌≤◌, ◌<◌}
use native.Mathlib.Omega.{arith}
use lib.Dec.{eqb}
use lib.ListN.{length, length-drop}
use lib.Seq.{get_or-drop}
use borrow.Author.Tests.{lt-ltb, ltb-false, eqb-true, not-false}
use Rattle.reason.specs.Answer.{Answer, accepted}
use Rattle.reason.specs.Order.{first_of}
use Rattle.reason.proofs.Bools.{and_left, and_right}
use Rattle.reason.proofs.OrderLaws.{both_accept, accepted_only_if}
use Rattle.octets.specs.Numbers.{byte_at, number_at}
use Rattle.octets.proofs.NumberLaws.{number_drop}
use Rattle.ax25.specs.Head.{head_length, head_checks, head_of, read_head}
use Rattle.ax25.specs.Information.{file_protocol, information_of}
use Rattle.ax25.proofs.HeadLaws.{head_says}
use Rattle.holes.specs.declared.Hole.{Hole}
use Rattle.request.specs.declared.Asks.TheVariants.{Start, Holes}
use Rattle.request.specs.declared.Request.{Request}
use Rattle.request.specs.Request.{flags_of, block_size, holes_of_kind, before_holes, bytes_per_hole, holes_right}
use Rattle.request.specs.Reading.{asks_start, flags_allowed, asks_by, count_in, odd_bytes, count_right, hole_spelled, hole_in, holes_in, request_checks, request_fields, request_of, read_request, no_hole, hole_read, hole_at, holes_read, holes_of}
use Rattle.request.specs.Says.{RequestSays}

-- allowed flags are those of what they ask for
pub asked_flags : (flags : ℕ) → flags_allowed flags ≡ true → flags_of (asks_by flags) ≡ flags
asked_flags flags e = by (asks_start flags) refl
  where
    by : (b : Bool) → asks_start flags ≡ b → flags_of (cond b Start Holes) ≡ flags
    by true d = sym (eqb-true flags 0x10 d)
    by false d = sym (eqb-true flags 0x11 (sym (ap (λ (b : Bool). b || eqb flags 0x11) d) ∙ e))

-- a right count: nothing is left over, and there are as many as there may be
pub count_exact : (s : List ℕ) → before_holes ≤ length s → count_right s ≡ true
    → (length s ≡ before_holes + (0 + count_in s) * bytes_per_hole) × (holes_of_kind (asks_by (byte_at s 0)) (count_in s) ≡ true)
count_exact s l e =
    let kind = holes_of_kind (asks_by (byte_at s 0)) (count_in s) in
    let odd = eqb-true (odd_bytes s) 0 (and_left (eqb (odd_bytes s) 0) kind e) in
    (omega arith, and_right (eqb (odd_bytes s) 0) kind e)

module _ (frame : List ℕ) (r : Request) (read : read_request frame ≡ accepted r) where
  abbrev S : List ℕ
  S = information_of frame

  pub layers : (read_head file_protocol frame ≡ accepted (head_of frame)) × (first_of (request_checks S) (request_of frame) ≡ accepted r)
  unfolding read_request
  layers = both_accept (head_checks file_protocol frame) (request_checks S) (head_of frame) (request_of frame) r read

  pub said : r ≡ request_of frame
  said = (accepted_only_if (request_checks S) (request_of frame) r layers.1).1

  pub long : before_holes ≤ length S
  unfolding request_checks
  long = ltb-false (length S) before_holes (accepted_only_if (request_checks S) (request_of frame) r layers.1).0.0

  pub flagged : flags_allowed (byte_at S 0) ≡ true
  unfolding request_checks
  flagged = not-false _ (accepted_only_if (request_checks S) (request_of frame) r layers.1).0.1.0

  pub sized : (eqb (number_at 2 S 5) block_size && count_right S) ≡ true
  unfolding request_checks
  sized = not-false _ (accepted_only_if (request_checks S) (request_of frame) r layers.1).0.1.1.0

  pub right : holes_right 0 (holes_in S) ≡ true
  unfolding request_checks
  right = not-false _ (accepted_only_if (request_checks S) (request_of frame) r layers.1).0.1.1.1.0

  pub counted : count_right S ≡ true
  counted = and_right (eqb (number_at 2 S 5) block_size) (count_right S) sized

  pub holes_are_in : holes_of frame ≡ holes_in S
  unfolding request_fields
  holes_are_in = ap (λ (x : Answer Request). holes_read x frame) (read ∙ ap accepted said)

  -- a hole by its index stands in the frame's own bytes
  each_hole : (i : ℕ) → i < count_in S → hole_at frame i ≡ record { start = number_at 3 frame (23 + i * 5); length = number_at 2 frame (26 + i * 5) }
  unfolding request_fields hole_spelled
  each_hole i below =
      let three : 16 + (7 + i * 5) ≡ 23 + i * 5 = omega arith in
      let two : 16 + (7 + i * 5 + 3) ≡ 26 + i * 5 = omega arith in
      ap (λ (x : Answer Request). hole_read x frame i) (read ∙ ap accepted said)
      ∙ ap (λ (b : Bool). cond b (hole_in S i) no_hole) (lt-ltb i (count_in S) below)
      ∙ ap₂ (λ (a b : ℕ). let hole : Hole = record { start = a; length = b } in hole) (number_drop 3 head_length frame (7 + i * 5) ∙ ap (number_at 3 frame) three)
      (number_drop 2 head_length frame (7 + i * 5 + 3) ∙ ap (number_at 2 frame) two)

  pub request_says : RequestSays frame r
  unfolding request_fields
  request_says =
      let h = head_says file_protocol frame (head_of frame) layers.0 in
      let size = count_exact S long counted in
      let block = eqb-true (number_at 2 S 5) block_size (and_left (eqb (number_at 2 S 5) block_size) (count_right S) sized) in
      let all : length S ≡ length frame - 16 = length-drop 16 frame in
      rw said (record {
        head = h;
        flags = sym (get_or-drop head_length frame 0 0) ∙ sym (asked_flags (byte_at S 0) flagged);
        number = number_drop 4 head_length frame 1;
        block = sym (number_drop 2 head_length frame 5) ∙ block;
        size = omega (arith, size.0, all, h.long);
        as_many = size.1;
        each = each_hole;
        right = ap (holes_right 0) holes_are_in ∙ right;
      })
