-- Laws of runs of positions that become held: nothing new, one position, one byte, and two runs one after the other.
-- Assumes nothing.
use mathlib.Core.Path.{◌≡◌, refl, sym, ap, ap₂, ◌∙◌}
use mathlib.Core.Bool.{Bool, true, false, not, ◌&&◌, ◌||◌, or_assoc, or-true, or-false, and-or_distrib_right}
use mathlib.Core.Logic.{⊎_elim}
use mathlib.Core.List.{List}
use Prim.Native.Nat.{ℕ, ◌+◌, ◌-◌, ◌*◌, ◌/◌, ◌%◌, ◌≤◌, ◌<◌}
use native.Mathlib.Nat.{add-zero, lt_of_le_of_lt}
use native.Mathlib.Omega.{arith}
use lib.ListN.{length, set, length-set}
use lib.Seq.{get_or-set_same}
use lib.Bits.{bit_or, bit_and, or_lt, and_le_l}
use lib.Count.{ones}
use lib.Dec.{eqb}
use borrow.Author.Tests.{eqb-true}
use Rattle.reason.proofs.Bools.{le_or_lt}
use Rattle.octets.specs.Numbers.{byte_at, AllBytes}
use Rattle.positions.specs.Spans.{within, count}
use Rattle.positions.specs.Map.{is_set, held, map_of}
use Rattle.positions.proofs.BitLaws.{set_or, set_and, set_not, ones_count}
use Rattle.positions.proofs.SpanLaws.{in_span, before_span, behind_span, by_span, no_between, span_join, span_one, count_zero, count_one, count_split, count_same, count_moved, count_both, count_most}
use Rattle.positions.proofs.MapLaws.{held_in, held_by, held_past, held_set, held_other, set_bytes, full_byte, byte_count, map_long, map_bytes, held_map, map_is}
use Rattle.runs.specs.Inner.{MapRun}

-- ---- nothing new in the run
absorbed : (a h : Bool) → (h && not a) ≡ false → a ≡ (a || h)
absorbed true h e = refl
absorbed false true e = sym e
absorbed false false e = refl

pub run_nothing : (m : List ℕ) (has : ℕ → Bool) (p n : ℕ) → AllBytes m → ((q : ℕ) → p ≤ q → q < p + n → (has q && not (held m q)) ≡ false)
    → MapRun m has p n m 0
run_nothing m has p n all none = record {
  long = refl;
  bytes = all;
  holds = λ q _. by_span p n q
      (λ l g. absorbed (held m q) (has q) (none q l g) ∙ rw (in_span p n q l g))
      (λ g. sym (or-false (held m q)) ∙ rw (before_span p n q g))
      (λ g. sym (or-false (held m q)) ∙ rw (behind_span p n q g));
  new = sym (count_zero (λ q. has q && not (held m q)) p n none);
}

-- .. of no position
pub run_none : (m : List ℕ) (has : ℕ → Bool) (p : ℕ) → AllBytes m → MapRun m has p 0 m 0
run_none m has p all = run_nothing m has p 0 all (λ q l g. absurd (no_between p q l (omega arith)))

-- ---- two runs one after the other
apart : (a w v h : Bool) → ((a || w && h) || v && h) ≡ (a || (w || v) && h)
apart a w v h = or_assoc a (w && h) (v && h) ∙ ap (λ (b : Bool). a || b) (sym (and-or_distrib_right w v h))

module _ (m : List ℕ) (has : ℕ → Bool) (p n : ℕ) (m' : List ℕ) (r : ℕ) (run : MapRun m has p n m' r) where
  -- a position behind the run is held as before
  pub later_same : (q : ℕ) → p + n ≤ q → held m' q ≡ held m q
  later_same q g =
      ⊎_elim
      (λ h. held_past m' q (let e = run.long in omega arith) ∙ sym (held_past m q h))
      (λ h. run.holds q h ∙ ap (λ (w : Bool). held m q || w && has q) (behind_span p n q g) ∙ or-false (held m q))
      (le_or_lt (length m * 8) q)

  pub run_then : (k : ℕ) (m'' : List ℕ) (r' : ℕ) → MapRun m' has (p + n) k m'' r' → MapRun m has p (n + k) m'' (r + r')
  run_then k m'' r' next = record {
    long = next.long ∙ run.long;
    bytes = next.bytes;
    holds = λ q h. next.holds q (let e = run.long in omega arith)
        ∙ ap (λ (a : Bool). a || within (p + n) k q && has q) (run.holds q h)
        ∙ apart (held m q) (within p n q) (within (p + n) k q) (has q)
        ∙ ap (λ (w : Bool). held m q || w && has q) (span_join p n k q);
    new =
        ap₂ (λ (x y : ℕ). x + y) run.new
        (next.new ∙ count_same (λ q. has q && not (held m' q)) (λ q. has q && not (held m q)) (p + n) k (λ q l g. ap (λ (a : Bool). has q && not a) (later_same q l)))
        ∙ sym (count_split (λ q. has q && not (held m q)) p n k);
  }

  -- the same run, told by another test that agrees with it there
  pub run_told : (also : ℕ → Bool) → ((q : ℕ) → p ≤ q → q < p + n → has q ≡ also q) → MapRun m also p n m' r
  run_told also same = record {
    long = run.long;
    bytes = run.bytes;
    holds = λ q h. run.holds q h ∙ by_span p n q
        (λ l g. ap (λ (a : Bool). held m q || within p n q && a) (same q l g))
        (λ g. rw (before_span p n q g))
        (λ g. rw (behind_span p n q g));
    new =
        run.new
        ∙ count_same (λ q. has q && not (held m q)) (λ q. also q && not (held m q)) p n
        (λ q l g. ap (λ (a : Bool). a && not (held m q)) (same q l g));
  }

  -- a run has no more new positions than it has positions
  pub run_most : r ≤ n
  run_most = let e = run.new in let c = count_most (λ q. has q && not (held m q)) p n in omega (arith, e, c)

  -- the map that a run leaves
  pub run_map : m' ≡ map_of (λ q. held m q || within p n q && has q) (length m)
  run_map = map_is (λ q. held m q || within p n q && has q) m' (length m) run.bytes run.long run.holds

-- ---- one position
one_by : (has : ℕ → Bool) (p q : ℕ) → has p ≡ true → (b : Bool) → eqb q p ≡ b → b ≡ (b && has q)
one_by has p q there true e = sym there ∙ ap has (sym (eqb-true q p e))
one_by has p q there false e = refl

pub run_one : (m : List ℕ) (has : ℕ → Bool) (p : ℕ) (m' : List ℕ) → has p ≡ true → held m p ≡ false → m' ≡ map_of (λ q. held m q || eqb q p) (length m)
    → MapRun m has p 1 m' 1
run_one m has p m' there free is = rw is record {
  long = map_long (λ q. held m q || eqb q p) (length m);
  bytes = map_bytes (λ q. held m q || eqb q p) (length m);
  holds = λ q h. held_map (λ q. held m q || eqb q p) (length m) q h
      ∙ ap (λ (b : Bool). held m q || b) (one_by has p q there (eqb q p) refl ∙ ap (λ (b : Bool). b && has q) (sym (span_one p q)));
  new = sym (count_one (λ q. has q && not (held m q)) p ∙ rw (there, free));
}

-- ---- the eight positions of one byte
inside : (i q : ℕ) → i * 8 ≤ q → q < i * 8 + 8 → q / 8 ≡ i
inside i q l g = omega arith

low : (i q : ℕ) → q < i * 8 → q / 8 ≡ i → ⊥
low i q g e = omega arith

high : (i q : ℕ) → i * 8 + 8 ≤ q → q / 8 ≡ i → ⊥
high i q g e = omega arith

pub run_eight : (m : List ℕ) (i : ℕ) → i < length m → AllBytes m → MapRun m (λ q. true) (i * 8) 8 (set m i 255) (8 - ones (byte_at m i))
run_eight m i h all =
    let same = get_or-set_same m i 255 0 h in
    let some = count_both (held m) (i * 8) 8 in
    let bits = byte_count m i (all i) in
    record {
      long = length-set m i 255;
      bytes = set_bytes m i 255 h all (omega arith);
      holds = λ q _. by_span (i * 8) 8 q
          (λ l g. rw (in_span (i * 8) 8 q l g) (full_byte (set m i 255) q (ap (byte_at (set m i 255)) (inside i q l g) ∙ same) ∙ sym (or-true (held m q))))
          (λ g. rw (before_span (i * 8) 8 q g) (held_other m i 255 q (low i q g) ∙ sym (or-false (held m q))))
          (λ g. rw (behind_span (i * 8) 8 q g) (held_other m i 255 q (high i q g) ∙ sym (or-false (held m q))));
      new = left (ones (byte_at m i)) (count (held m) (i * 8) 8) (count (λ q. not (held m q)) (i * 8) 8) bits some;
    }
  where
    left : (o c d : ℕ) → c ≡ o → c + d ≡ 8 → 8 - o ≡ d
    left o c d e f = omega arith

-- ---- one byte of a second map
module _ (m : List ℕ) (i theirs : ℕ) (h : i < length m) (all : AllBytes m) (small : theirs < 256) where
  -- where a bit of the new byte stands in the map
  pub fresh_is : (j : ℕ) → j < 8 → is_set (bit_and theirs (255 - byte_at m i)) j ≡ (is_set theirs j && not (held m (i * 8 + j)))
  fresh_is j l =
      set_and theirs (255 - byte_at m i) j ∙ ap (λ (b : Bool). is_set theirs j && b) (set_not (byte_at m i) j (all i) l ∙ ap not (sym (held_in m i j l)))

  counted : ones (bit_and theirs (255 - byte_at m i)) ≡ count (λ q. is_set theirs (q - i * 8) && not (held m q)) (i * 8) 8
  counted =
      let test : ℕ → Bool = λ q. is_set theirs (q - i * 8) && not (held m q) in
      ones_count 8 (bit_and theirs (255 - byte_at m i)) (lt_of_le_of_lt (and_le_l theirs (255 - byte_at m i)) small)
      ∙ count_same (is_set (bit_and theirs (255 - byte_at m i))) (λ j. test (i * 8 + j)) 0 8 (λ j _ l. let e : j ≡ i * 8 + j - i * 8 = omega arith in
      fresh_is j (omega arith) ∙ ap (λ (x : ℕ). is_set theirs x && not (held m (i * 8 + j))) e)
      ∙ sym (count_moved test (i * 8) 0 8)
      ∙ ap (λ (p : ℕ). count test p 8) (add-zero (i * 8))

  in_byte : (q : ℕ) → q / 8 ≡ i → held (set m i (bit_or (byte_at m i) theirs)) q ≡ (held m q || is_set theirs (q - i * 8))
  in_byte q e =
      let place : q % 8 ≡ q - i * 8 = omega arith in
      held_set m i (bit_or (byte_at m i) theirs) q h e
      ∙ set_or (byte_at m i) theirs (q % 8)
      ∙ ap₂ ◌||◌ (ap (λ (x : ℕ). is_set (byte_at m x) (q % 8)) (sym e) ∙ sym (held_by m q)) (ap (is_set theirs) place)

  beside : (q : ℕ) → (q / 8 ≡ i → ⊥) → within (i * 8) 8 q ≡ false
      → held (set m i (bit_or (byte_at m i) theirs)) q ≡ (held m q || within (i * 8) 8 q && is_set theirs (q - i * 8))
  beside q d out = rw out (held_other m i (bit_or (byte_at m i) theirs) q d ∙ sym (or-false (held m q)))

  pub run_byte : MapRun m (λ q. is_set theirs (q - i * 8)) (i * 8) 8 (set m i (bit_or (byte_at m i) theirs)) (ones (bit_and theirs (255 - byte_at m i)))
  run_byte = record {
    long = length-set m i (bit_or (byte_at m i) theirs);
    bytes = set_bytes m i (bit_or (byte_at m i) theirs) h all (or_lt 8 (byte_at m i) theirs (all i) small);
    holds = λ q _. by_span (i * 8) 8 q
        (λ l g. in_byte q (inside i q l g) ∙ rw (in_span (i * 8) 8 q l g))
        (λ g. beside q (low i q g) (before_span (i * 8) 8 q g))
        (λ g. beside q (high i q g) (behind_span (i * 8) 8 q g));
    new = counted;
  }
