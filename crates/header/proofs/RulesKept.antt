-- A header is accepted exactly if it keeps the rules (01, "File header"), and else it is refused 8.
-- Assumes nothing.
use mathlib.Core.Path.{◌≡◌, refl}
use mathlib.Core.Bool.{Bool, true, false, ◌&&◌}
use mathlib.Core.List.{List}
use Prim.Native.Nat.{ℕ}
use native.Mathlib.Omega.{arith}
use Rattle.std.proofs.lemmas.Bool.{and_parts}
use Rattle.std.proofs.lemmas.Bool.Decides.{nat_tests}
use Rattle.reason.proofs.Bools.{and_both}
use Rattle.octets.specs.Lists.{OneOf}
use Rattle.header.specs.declared.Pair.{Pair}
use borrow.Author.Tests.{eqb-true, eq-eqb, leb-true, le-leb}
use Rattle.reason.specs.Answer.{accepted, refused}
use Rattle.reason.proofs.OrderLaws.{not_both}
use Rattle.header.specs.declared.Header.{Header}
use Rattle.header.specs.Items.{items, count_of, size_of, comes_to_end}
use Rattle.header.specs.Header.{begins_right, all_once, upload_right, values_right, mandatory, once, header_of, keeps_rules, read_header}
use Rattle.header.specs.Rules.{Rules}
use Rattle.header.proofs.TableLaws.{each, all_pass}
use Rattle.header.proofs.HeaderLaws.{reads_8, reads_header, header_accepted, header_refused}

-- four and five tests that all pass, from each and to each
all_4 : (a b c d : Bool) → a ≡ true → b ≡ true → c ≡ true → d ≡ true → (a && b && c && d) ≡ true
all_4 a b c d p q r s = rw (p, q, r, s)

pub all_5 : (a b c d e : Bool) → a ≡ true → b ≡ true → c ≡ true → d ≡ true → e ≡ true → (a && b && c && d && e) ≡ true
all_5 a b c d e p q r s t = rw (p, q, r, s, t)

each_4 : (a b c d : Bool) → (a && b && c && d) ≡ true → (a ≡ true) × (b ≡ true) × (c ≡ true) × (d ≡ true)
each_4 a b c d h = (grind (arith, nat_tests), grind (arith, nat_tests), grind (arith, nat_tests), grind (arith, nat_tests))

each_5 : (a b c d e : Bool) → (a && b && c && d && e) ≡ true → (a ≡ true) × (b ≡ true) × (c ≡ true) × (d ≡ true) × (e ≡ true)
each_5 a b c d e h = (grind (arith, nat_tests), grind (arith, nat_tests), grind (arith, nat_tests), grind (arith, nat_tests), grind (arith, nat_tests))

module _ (s : List ℕ) (number : ℕ) where
  pub rules : keeps_rules s number ≡ true → Rules s number
  unfolding keeps_rules header_of
  rules k =
      let five = each_5 (begins_right s) (comes_to_end (items s)) (all_once s) (upload_right s) (values_right s number) k in
      let begun = and_parts _ _ five.0 in
      let values = each_4 _ _ _ _ five.4 in
      let listed = λ (p : Pair) (m : OneOf p mandatory). and_parts _ _ (each (once (count_of (items s)) (size_of (items s))) mandatory five.2 p m) in
      record {
        marker = (eqb-true _ _ begun.0, eqb-true _ _ begun.1);
        ends = five.1;
        each_once = λ p m. eqb-true _ _ (listed p m).0;
        each_sized = λ p m. eqb-true _ _ (listed p m).1;
        upload = leb-true _ _ five.3;
        sum = eqb-true _ _ values.0;
        numbered = eqb-true _ _ values.1;
        behind = leb-true _ _ values.2;
        before = leb-true _ _ values.3;
      }

  -- the tests, by the rules
  pub begins_kept : Rules s number → begins_right s ≡ true
  begins_kept r = and_both _ _ (eq-eqb _ _ r.marker.0) (eq-eqb _ _ r.marker.1)

  pub once_kept : Rules s number → all_once s ≡ true
  once_kept r =
      all_pass (once (count_of (items s)) (size_of (items s))) mandatory (λ p m. and_both _ _ (eq-eqb _ _ (r.each_once p m)) (eq-eqb _ _ (r.each_sized p m)))

  pub values_kept : Rules s number → values_right s number ≡ true
  unfolding header_of
  values_kept r = all_4 _ _ _ _ (eq-eqb _ _ r.sum) (eq-eqb _ _ r.numbered) (le-leb _ _ r.behind) (le-leb _ _ r.before)

  pub kept : Rules s number → keeps_rules s number ≡ true
  unfolding keeps_rules
  kept r = all_5 _ _ _ _ _ (begins_kept r) r.ends (once_kept r) (le-leb _ _ r.upload) (values_kept r)

  -- accepted exactly if it keeps them, and then with its values
  pub accepts_if : Rules s number → read_header s number ≡ accepted (header_of s)
  accepts_if r = reads_header s number (kept r)

  pub accepts_only_if : (h : Header) → read_header s number ≡ accepted h → Rules s number × (h ≡ header_of s)
  accepts_only_if h e = (rules (header_accepted s number h e).0, (header_accepted s number h e).1)

  -- refused 8 exactly if it does not keep them all, and never for another reason
  pub refuses_only_if : (n : ℕ) → read_header s number ≡ refused n → (n ≡ 8) × (Rules s number → ⊥)
  refuses_only_if n e = ((header_refused s number n e).1, λ r. not_both (header_of s) n (accepts_if r) e)

  refuses_by : (b : Bool) → keeps_rules s number ≡ b → (Rules s number → ⊥) → read_header s number ≡ refused 8
  refuses_by true k broken = absurd (broken (rules k))
  refuses_by false k broken = reads_8 s number k

  pub refuses_if : (Rules s number → ⊥) → read_header s number ≡ refused 8
  refuses_if broken = refuses_by (keeps_rules s number) refl broken
