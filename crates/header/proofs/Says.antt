-- What an accepted header says (demand 2): each value is that of its item's data, and its numbers keep their bounds.
-- Assumes nothing.
use mathlib.Core.Path.{◌≡◌, refl, sym, ap, subst, ◌∙◌}
use mathlib.Core.Bool.{Bool, true, false, cond}
use mathlib.Core.List.{List, ◌∷◌}
use Prim.Native.Nat.{ℕ, zero, suc, ◌+◌, ◌≤◌, ◌<◌}
use native.Mathlib.Nat.{add-zero}
use native.Mathlib.Omega.{arith}
use lib.Dec.{eqb}
use lib.ListN.{length, get_or, take, drop}
use lib.Seq.{drop-cons}
use borrow.Author.Tests.{eqb-false}
use Rattle.std.specs.Prelude.{Some, None}
use Rattle.reason.specs.Answer.{accepted}
use Rattle.octets.specs.Lists.{OneOf}
use Rattle.octets.specs.Numbers.{byte_at, number_at}
use Rattle.octets.specs.Values.{values_from}
use Rattle.octets.proofs.NumberLaws.{number_drop, number_take}
use Rattle.header.specs.declared.Pair.{Pair}
use Rattle.header.specs.declared.Header.{Header}
use Rattle.header.specs.Items.{mandatory_items, items, count_of, start_of, size_of}
use Rattle.header.specs.Header.{mandatory, header_of, read_header}
use Rattle.header.specs.Rules.{Rules}
use Rattle.header.specs.Data.{data_of}
use Rattle.header.specs.Says.{HeaderSays}
use Rattle.header.proofs.TableLaws.{in_list, eleven}
use Rattle.header.proofs.ItemLaws.{item_within, end_within, upload_sized}
use Rattle.header.proofs.RulesKept.{accepts_only_if}

-- a part of a list, byte by byte
part : (s : List ℕ) (at n : ℕ) → at + n ≤ length s → values_from (byte_at s) at n ≡ take n (drop at s)
part s at zero h = refl
part s at (suc n) h = ap (λ (l : List ℕ). byte_at s at ∷ l) (part s (suc at) n (omega arith)) ∙ ap (take (suc n)) (sym (drop-cons s at 0 (omega arith)))

-- a number in an item's data
in_item : (n id : ℕ) (s : List ℕ) → size_of (items s) id ≡ n → number_at n s (start_of (items s) id) ≡ number_at n (data_of id s) 0
unfolding data_of
in_item n id s h =
    ap (number_at n s) (sym (add-zero (start_of (items s) id)))
    ∙ sym (number_drop n (start_of (items s) id) s 0)
    ∙ sym (number_take n (size_of (items s) id) (drop (start_of (items s) id) s) 0 (omega arith))

module _ (s : List ℕ) (number : ℕ) (r : Rules s number) where
  -- the length of each item that is told: that of the table, and 4 of item 12
  listed : (k id size : ℕ) → k < 11 → get_or mandatory k (record { id = 0; size = 0 }) ≡ record { id = id; size = size } → size_of (items s) id ≡ size
  listed k id size h e = r.each_sized (record { id = id; size = size }) (subst (λ (p : Pair). OneOf p mandatory) e (in_list mandatory (record { id = 0; size = 0 }) k (omega (arith, eleven))))

  -- the bytes of an item
  spelled : (id n : ℕ) → size_of (items s) id ≡ n → values_from (byte_at s) (start_of (items s) id) n ≡ data_of id s
  unfolding data_of
  spelled id n h = part s (start_of (items s) id) n (omega (arith, item_within s id)) ∙ ap (λ (m : ℕ). take m (drop (start_of (items s) id) s)) (sym h)

  upload_by : (b : Bool) → eqb (count_of (items s) 0x12) 0 ≡ b
      → cond b None (Some (number_at 4 s (start_of (items s) 0x12))) ≡ cond b None (Some (number_at 4 (data_of 0x12 s) 0))
  upload_by true e = refl
  upload_by false e = ap Some (in_item 4 0x12 s (upload_sized s (omega (arith, eqb-false (count_of (items s) 0x12) 0 e))))

  says : HeaderSays s number (header_of s)
  unfolding header_of mandatory_items data_of
  says = record {
    ruled = r;
    size = refl;
    within = end_within s r.ends;
    numbered = r.numbered;
    number_item = in_item 4 0x01 s (listed 0 0x01 4 (omega arith) refl);
    length = in_item 4 0x04 s (listed 3 0x04 4 (omega arith) refl);
    created = in_item 4 0x05 s (listed 4 0x05 4 (omega arith) refl);
    modified = in_item 4 0x06 s (listed 5 0x06 4 (omega arith) refl);
    upset = sym (add-zero _) ∙ in_item 1 0x07 s (listed 6 0x07 1 (omega arith) refl);
    kind = sym (add-zero _) ∙ in_item 1 0x08 s (listed 7 0x08 1 (omega arith) refl);
    bodysum = in_item 2 0x09 s (listed 8 0x09 2 (omega arith) refl);
    headersum = in_item 2 0x0A s (listed 9 0x0A 2 (omega arith) refl);
    body = in_item 2 0x0B s (listed 10 0x0B 2 (omega arith) refl);
    name = spelled 0x02 8 (listed 1 0x02 8 (omega arith) refl);
    extension = spelled 0x03 3 (listed 2 0x03 3 (omega arith) refl);
    upload = upload_by (eqb (count_of (items s) 0x12) 0) refl;
    behind = r.behind;
    before = r.before;
  }

pub header_says : (s : List ℕ) (number : ℕ) (h : Header) → read_header s number ≡ accepted h → HeaderSays s number h
header_says s number h e =
    let a = accepts_only_if s number h e in
    rw a.1 (says s number a.0)
