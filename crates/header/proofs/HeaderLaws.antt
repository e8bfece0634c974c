-- Laws of reading a header: accepted exactly if it keeps the rules, and else refused 8.
-- Assumes nothing.
use mathlib.Core.Path.{◌≡◌, refl, sym, ap, ◌∙◌}
use mathlib.Core.Bool.{true, false, not}
use mathlib.Core.List.{List, []}
use mathlib.Core.Logic.{⊎_elim}
use Prim.Native.Nat.{ℕ}
use borrow.Author.Tests.{not-true, not-false}
use Rattle.reason.specs.Answer.{accepted, refused}
use Rattle.reason.proofs.OrderLaws.{skip, stop, none_left, accepted_only_if, refused_only_if}
use Rattle.header.specs.declared.Header.{Header}
use Rattle.header.specs.Header.{header_length, keeps_rules, header_checks, header_of, read_header}

module _ (s : List ℕ) (number : ℕ) where
  pub reads_8 : keeps_rules s number ≡ false → read_header s number ≡ refused 8
  unfolding read_header
  reads_8 e = stop 8 [] (header_of s) (ap not e)

  pub reads_header : keeps_rules s number ≡ true → read_header s number ≡ accepted (header_of s)
  unfolding read_header
  reads_header e = skip 8 [] (header_of s) (ap not e) ∙ none_left (header_of s)

  -- what a caller learns of the answer
  pub header_accepted : (h : Header) → read_header s number ≡ accepted h → (keeps_rules s number ≡ true) × (h ≡ header_of s)
  unfolding read_header
  header_accepted h e =
      let all = accepted_only_if (header_checks s number) (header_of s) h e in
      (not-false (keeps_rules s number) all.0.0, all.1)

  pub header_refused : (n : ℕ) → read_header s number ≡ refused n → (keeps_rules s number ≡ false) × (n ≡ 8)
  unfolding read_header
  header_refused n e =
      ⊎_elim (λ w. (not-true (keeps_rules s number) w.0, sym w.1)) (λ w. absurd w.1) (refused_only_if n (header_checks s number) (header_of s) e)

-- the header's length, as its values tell it
pub told_size : (s : List ℕ) → (header_of s).size ≡ header_length s
unfolding header_of
told_size s = refl
