-- Laws of a file piece's information: which reason is given, one after the other, and acceptance when none holds.
-- Assumes nothing.
use mathlib.Core.Path.{◌≡◌, ap, ◌∙◌}
use mathlib.Core.Bool.{true, false, not}
use mathlib.Core.List.{List, [], ◌∷◌}
use Prim.Native.Nat.{ℕ, ◌+◌, ◌≤◌, ◌<◌}
use lib.Dec.{eqb}
use lib.ListN.{length}
use borrow.Author.Tests.{lt-ltb, le-ltb, eq-eqb, ne_eqb}
use Rattle.reason.specs.Answer.{accepted, refused}
use Rattle.reason.specs.Order.{check, first_of}
use Rattle.reason.proofs.OrderLaws.{skip, stop, none_left}
use Rattle.octets.specs.Numbers.{byte_at}
use Rattle.remainder.specs.Check.{check_length, check_right}
use Rattle.frame.specs.Piece.{before_data, piece_flags, piece_checks}

module _ {A : Type 0} (s : List ℕ) (a : A) where
  pub reads_1 : length s < before_data + check_length → first_of (piece_checks s) a ≡ refused 1
  unfolding piece_checks
  reads_1 h = stop _ _ _ (lt-ltb _ _ h)

  module _ (long : before_data + check_length ≤ length s) where
    pub reads_6 : check_right s ≡ false → first_of (piece_checks s) a ≡ refused 6
    unfolding piece_checks
    reads_6 h = skip _ _ _ (le-ltb _ _ long) ∙ stop _ _ _ (ap not h)

    module _ (right : check_right s ≡ true) where
      pub reads_5 : (byte_at s 0 ≡ piece_flags → ⊥) → first_of (piece_checks s) a ≡ refused 5
      unfolding piece_checks
      reads_5 h = skip _ _ _ (le-ltb _ _ long) ∙ skip _ _ _ (ap not right) ∙ stop _ _ _ (ap not (ne_eqb _ _ h))

      module _ (flagged : byte_at s 0 ≡ piece_flags) where
        past_5 : first_of (piece_checks s) a ≡ first_of (check (eqb (length s) (before_data + check_length)) 7 ∷ []) a
        unfolding piece_checks
        past_5 = skip _ _ _ (le-ltb _ _ long) ∙ skip _ _ _ (ap not right) ∙ skip _ _ _ (ap not (eq-eqb _ _ flagged))

        pub reads_7 : length s ≡ before_data + check_length → first_of (piece_checks s) a ≡ refused 7
        reads_7 h = past_5 ∙ stop _ _ _ (eq-eqb _ _ h)

        pub reads_piece : (length s ≡ before_data + check_length → ⊥) → first_of (piece_checks s) a ≡ accepted a
        reads_piece h = past_5 ∙ skip _ _ _ (ne_eqb _ _ h) ∙ none_left _
