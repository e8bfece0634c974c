-- How the first position on a side of the map is found in a map byte, and in the bytes behind it.
-- Assumes nothing.
use mathlib.Core.Path.{◌≡◌, sym, ap, ◌∙◌}
use mathlib.Core.Bool.{Bool, true, false, not, true≢false}
use mathlib.Core.Logic.{⊎_elim}
use mathlib.Core.List.{List}
use Prim.Native.Nat.{ℕ, ◌+◌, ◌-◌, ◌*◌, ◌/◌, ◌%◌, ◌^◌, ◌≤◌, ◌<◌, min}
use native.Mathlib.Nat.{div-one}
use native.Mathlib.Omega.{arith}
use lib.Dec.{eqb}
use lib.ListN.{length, take, drop, length-drop}
use lib.Seq.{get_or-take, get_or-drop, length-take-le}
use borrow.Author.Tests.{not-false, eqb-true, eq-eqb}
use Rattle.std.specs.Prelude.{Some, None, position}
use Rattle.std.specs.List.{position_or_len}
use Rattle.std.proofs.lemmas.Grind.{common_steps}
use Rattle.std.proofs.lemmas.List.Sums.{fails_before_first}
use Rattle.std.proofs.lemmas.List.Quantifiers.{position-Some}
use Rattle.reason.proofs.Bools.{le_or_lt}
use Rattle.octets.specs.Numbers.{byte_at, AllBytes}
use Rattle.positions.specs.declared.Side.{Side}
use Rattle.positions.specs.declared.Side.TheVariants.{Held, Unheld}
use Rattle.positions.specs.Spans.{first}
use Rattle.positions.specs.Map.{is_set, on_side}
use Rattle.positions.specs.Inner.{side_of}
use Rattle.positions.proofs.BitLaws.{set_not, set_shr, set_high, some_set}
use Rattle.positions.proofs.SpanLaws.{passed_over, found, first_is}
use Rattle.positions.proofs.MapLaws.{held_by, empty_byte, full_byte}

-- no position is below n and not below it
nothing : (n from : ℕ) → from ≤ n → n < from + (n - from) → ⊥
nothing n from l a = omega arith

-- nothing found
pub not_found : (test : ℕ → Bool) (from n p : ℕ) → from ≤ n → n ≤ p → ((q : ℕ) → from ≤ q → q < p → test q ≡ false) → n ≡ first test from (n - from)
not_found test from n p l g before =
    sym (first_is test from (n - from) n l (omega arith) (λ q a b. before q a (omega arith)) (λ a. absurd (nothing n from l a)))

side_small : (b : ℕ) (side : Side) → b < 256 → side_of b side < 256
side_small b Held h = h
side_small b Unheld h = omega arith

-- a byte's bit on the side is a position on the side
bit_on_side : (m : List ℕ) → AllBytes m → (side : Side) (q : ℕ) → is_set (side_of (byte_at m (q / 8)) side) (q % 8) ≡ on_side m side q
bit_on_side m all Held q = sym (held_by m q)
bit_on_side m all Unheld q = set_not (byte_at m (q / 8)) (q % 8) (all (q / 8)) (omega arith) ∙ ap not (sym (held_by m q))

-- a byte from its first position on
whole_byte : (m : List ℕ) (side : Side) (i : ℕ) → side_of (byte_at m i) side ≡ side_of (byte_at m (i * 8 / 8)) side / 2 ^ (i * 8 % 8)
whole_byte m side i =
    let a : i * 8 / 8 ≡ i = omega arith in
    let b : i * 8 % 8 ≡ 0 = omega arith in
    rw (a, b) (sym (div-one (side_of (byte_at m i) side)))

-- where no element passes, all are passed over
none_passes : (p : ℕ → Bool) (xs : List ℕ) → position p xs ≡ None → length xs ≤ position_or_len p xs
none_passes p xs e = grind (arith, common_steps)

-- a byte of which no position is on the side, and one of which some are
none_there : (m : List ℕ) (side : Side) (q : ℕ) → byte_at m (q / 8) ≡ side_of 0 side → on_side m side q ≡ false
none_there m Held q e = empty_byte m q e
none_there m Unheld q e = ap not (full_byte m q e)

some_there : (b : ℕ) (side : Side) → b < 256 → (b ≡ side_of 0 side → ⊥) → side_of b side ≡ 0 → ⊥
some_there b Held h d e = d e
some_there b Unheld h d e = d (omega arith)

module _ (m : List ℕ) (all : AllBytes m) (side : Side) where
  -- what is left of a byte from the position p on, its lowest bit that is set, and what was passed over from a position on
  module _ (p rest : ℕ) (is : rest ≡ side_of (byte_at m (p / 8)) side / 2 ^ (p % 8)) (k : ℕ) (lowest : k ≡ first (is_set rest) 0 8)
      (from : ℕ) (reached : from ≤ p) (before : (q : ℕ) → from ≤ q → q < p → on_side m side q ≡ false) where
    rest_is : (j : ℕ) → p % 8 + j < 8 → is_set rest j ≡ on_side m side (p + j)
    rest_is j h =
        let a : (p + j) / 8 ≡ p / 8 = omega arith in
        let b : (p + j) % 8 ≡ p % 8 + j = omega arith in
        ap (λ (x : ℕ). is_set x j) is
        ∙ set_shr (side_of (byte_at m (p / 8)) side) (p % 8) j
        ∙ rw (sym a, sym b) (bit_on_side m all side (p + j))

    rest_high : (j : ℕ) → 8 ≤ p % 8 + j → is_set rest j ≡ false
    rest_high j h =
        ap (λ (x : ℕ). is_set x j) is
        ∙ set_shr (side_of (byte_at m (p / 8)) side) (p % 8) j
        ∙ set_high 8 (side_of (byte_at m (p / 8)) side) (p % 8 + j) (side_small (byte_at m (p / 8)) side (all (p / 8))) h

    found_set : k < 8 → is_set rest k ≡ true
    found_set h = let g : first (is_set rest) 0 8 < 0 + 8 = omega arith in rw lowest (found (is_set rest) 0 8 g)

    inside : k < 8 → p % 8 + k < 8
    inside h = ⊎_elim (λ g. absurd (true≢false (sym (found_set h) ∙ rest_high k g))) (λ g. g) (le_or_lt 8 (p % 8 + k))

    -- the positions of the byte before the one found, and those before the byte
    passed : (q : ℕ) → from ≤ q → q < p + k → q < p / 8 * 8 + 8 → on_side m side q ≡ false
    passed q l g h =
        ⊎_elim
        (λ a. let e : p + (q - p) ≡ q = omega arith in
        let small : q - p < first (is_set rest) 0 8 = omega arith in
        let there : on_side m side (p + (q - p)) ≡ false = sym (rest_is (q - p) (omega arith)) ∙ passed_over (is_set rest) 0 8 (q - p) (omega arith) small in
        rw e at there)
        (λ a. before q l a)
        (le_or_lt p q)

    -- where one is found, the search ends there, or at n
    pub stops : (n : ℕ) → k < 8 → from ≤ n → min n (p + k) ≡ first (on_side m side) from (n - from)
    stops n h l =
        let i = inside h in
        sym
        (first_is (on_side m side) from (n - from) (min n (p + k)) (omega arith) (omega arith) (λ q a b. passed q a (omega arith) (omega (arith, i)))
        (λ a. let here : min n (p + k) ≡ p + k = omega arith in rw here (sym (rest_is k i) ∙ found_set h)))

    -- where none is found, none is in the byte
    pub none_in_byte : 8 ≤ k → (q : ℕ) → from ≤ q → q < p / 8 * 8 + 8 → on_side m side q ≡ false
    none_in_byte h q l g = passed q l (omega arith) g

  -- the bytes from `next` on and below `end`
  module _ (next end : ℕ) (fits : end ≤ length m) where
    abbrev pub bytes : List ℕ
    bytes = take (end - next) (drop next m)

    abbrev pub test : ℕ → Bool
    test b = not (eqb b (side_of 0 side))

    byte_in : (j : ℕ) → j < end - next → byte_at bytes j ≡ byte_at m (next + j)
    byte_in j h = get_or-take (end - next) (drop next m) j 0 h ∙ get_or-drop next m j 0

    long : length bytes ≡ end - next
    long = length-take-le (end - next) (drop next m) (omega (arith, length-drop next m))

    none_in : (j : ℕ) → j < end - next → test (byte_at bytes j) ≡ false → byte_at m (next + j) ≡ side_of 0 side
    none_in j h e = sym (byte_in j h) ∙ eqb-true _ (side_of 0 side) (not-false _ e)

    pub byte_inside : (i : ℕ) → position test bytes ≡ Some i → i < end - next
    byte_inside i is = omega (arith, long, (position-Some test bytes i 0 is).0)

    some_in : (i : ℕ) → position test bytes ≡ Some i → side_of (byte_at m (next + i)) side ≡ 0 → ⊥
    some_in i is =
        some_there (byte_at m (next + i)) side (all (next + i))
        (λ e. true≢false (sym ((position-Some test bytes i 0 is).1) ∙ ap not (eq-eqb _ _ (byte_in i (byte_inside i is) ∙ e))))

    -- .. behind positions of which none is on the side
    module _ (from : ℕ) (before : (q : ℕ) → from ≤ q → q < next * 8 → on_side m side q ≡ false) where
      passed_bytes : (n : ℕ) → ((j : ℕ) → j < n → byte_at m (next + j) ≡ side_of 0 side) → (q : ℕ) → from ≤ q → q < (next + n) * 8
          → on_side m side q ≡ false
      passed_bytes n none q l g =
          ⊎_elim
          (λ a. let e : next + (q / 8 - next) ≡ q / 8 = omega arith in
          none_there m side q (ap (λ (i : ℕ). byte_at m i) (sym e) ∙ none (q / 8 - next) (omega arith)))
          (λ a. before q l a)
          (le_or_lt (next * 8) q)

      -- where none of the bytes has a position on the side, the search ends at n
      pub none_behind : position test bytes ≡ None → (n : ℕ) → from ≤ n → n ≤ end * 8 → n ≡ first (on_side m side) from (n - from)
      none_behind e n l g =
          let all_fail = none_passes test bytes e in
          not_found (on_side m side) from n ((next + (end - next)) * 8) l (omega arith)
          (passed_bytes (end - next) (λ j h. none_in j h (fails_before_first test bytes j 0 (omega (arith, all_fail, long)))))

      -- where one of them has, it ends there, or at n
      pub one_behind : (i : ℕ) → position test bytes ≡ Some i → (n k : ℕ) → k ≡ first (is_set (side_of (byte_at m (next + i)) side)) 0 8
          → from ≤ next * 8 → from ≤ n → min n ((next + i) * 8 + k) ≡ first (on_side m side) from (n - from)
      one_behind i is n k e g l =
          let b = side_of (byte_at m (next + i)) side in
          let small : k < 8 = omega (arith, some_set b (side_small (byte_at m (next + i)) side (all (next + i))) (some_in i is), e) in
          stops ((next + i) * 8) b (whole_byte m side (next + i)) k e from (omega arith)
          (passed_bytes i (λ j h. none_in j (omega (arith, byte_inside i is)) ((position-Some test bytes i 0 is).2 j h))) n small l
