-- Laws of a directory entry's information: which reason is given, one after the other, and acceptance when none holds.
-- Assumes nothing.
use mathlib.Core.Path.{◌≡◌, ap, ◌∙◌}
use mathlib.Core.Bool.{true, false, not}
use mathlib.Core.List.{List, [], ◌∷◌}
use Prim.Native.Nat.{ℕ, ◌+◌, ◌≤◌, ◌<◌}
use lib.ListN.{length}
use borrow.Author.Tests.{lt-ltb, le-ltb}
use Rattle.reason.specs.Answer.{accepted, refused}
use Rattle.reason.specs.Order.{check, first_of}
use Rattle.reason.proofs.OrderLaws.{skip, stop, none_left}
use Rattle.octets.specs.Numbers.{byte_at, number_at}
use Rattle.remainder.specs.Check.{check_length, check_right}
use Rattle.frame.specs.Entry.{before_header, flags_allowed, header_whole, header_right, entry_checks}

module _ {A : Type 0} (s : List ℕ) (a : A) where
  pub reads_1 : length s < before_header + check_length → first_of (entry_checks s) a ≡ refused 1
  unfolding entry_checks
  reads_1 h = stop _ _ _ (lt-ltb _ _ h)

  module _ (long : before_header + check_length ≤ length s) where
    pub reads_6 : check_right s ≡ false → first_of (entry_checks s) a ≡ refused 6
    unfolding entry_checks
    reads_6 h = skip _ _ _ (le-ltb _ _ long) ∙ stop _ _ _ (ap not h)

    module _ (right : check_right s ≡ true) where
      pub reads_5 : flags_allowed (byte_at s 0) ≡ false → first_of (entry_checks s) a ≡ refused 5
      unfolding entry_checks
      reads_5 h = skip _ _ _ (le-ltb _ _ long) ∙ skip _ _ _ (ap not right) ∙ stop _ _ _ (ap not h)

      module _ (flagged : flags_allowed (byte_at s 0) ≡ true) where
        pub reads_14 : header_whole (byte_at s 0) (number_at 4 s 5) ≡ false → first_of (entry_checks s) a ≡ refused 14
        unfolding entry_checks
        reads_14 h = skip _ _ _ (le-ltb _ _ long) ∙ skip _ _ _ (ap not right) ∙ skip _ _ _ (ap not flagged) ∙ stop _ _ _ (ap not h)

        module _ (whole : header_whole (byte_at s 0) (number_at 4 s 5) ≡ true) where
          past_14 : first_of (entry_checks s) a ≡ first_of (check (not (header_right s)) 8 ∷ []) a
          unfolding entry_checks
          past_14 = skip _ _ _ (le-ltb _ _ long) ∙ skip _ _ _ (ap not right) ∙ skip _ _ _ (ap not flagged) ∙ skip _ _ _ (ap not whole)

          pub reads_8 : header_right s ≡ false → first_of (entry_checks s) a ≡ refused 8
          reads_8 h = past_14 ∙ stop _ _ _ (ap not h)

          pub reads_entry : header_right s ≡ true → first_of (entry_checks s) a ≡ accepted a
          reads_entry h = past_14 ∙ skip _ _ _ (ap not h) ∙ none_left _
