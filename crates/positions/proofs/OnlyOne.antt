-- No second answer meets a promise of this crate, and no other bytes in a lent map.
-- Assumes nothing.
use mathlib.Core.Path.{◌≡◌}
use mathlib.Core.Bool.{Bool, not, ◌||◌}
use mathlib.Core.List.{List}
use Prim.Native.Nat.{ℕ, ◌-◌, ◌%◌, ◌^◌}
use lib.ListN.{length}
use lib.Dec.{eqb}
use lib.Count.{ones}
use Rattle.reason.proofs.OnlyOne.{only_one}
use Rattle.positions.specs.Spans.{count, first}
use Rattle.positions.specs.declared.Side.{Side}
use Rattle.positions.specs.declared.Side.TheVariants.{Held, Unheld}
use Rattle.positions.specs.Map.{is_set, held, map_of, on_side}

-- `is_set`, `lowest` and `count_set`
pub only_one_is_set : (b k : ℕ) (r q : Bool) → r ≡ is_set b k → q ≡ is_set b k → r ≡ q
only_one_is_set b k r q = only_one r q

pub only_one_lowest : (b n r q : ℕ) → r ≡ b % 2 ^ n → q ≡ b % 2 ^ n → r ≡ q
only_one_lowest b n r q = only_one r q

pub only_one_count_set : (b r q : ℕ) → r ≡ ones b → q ≡ ones b → r ≡ q
only_one_count_set b r q = only_one r q

-- `is_held` and `count_held`
pub only_one_is_held : (map : List ℕ) (p : ℕ) (r q : Bool) → r ≡ held map p → q ≡ held map p → r ≡ q
only_one_is_held map p r q = only_one r q

pub only_one_count_held : (map : List ℕ) (n r q : ℕ) → r ≡ count (held map) 0 n → q ≡ count (held map) 0 n → r ≡ q
only_one_count_held map n r q = only_one r q

-- `mark`: the map that it leaves
pub only_one_mark : (map : List ℕ) (p : ℕ) (m m' : List ℕ) → m ≡ map_of (λ q. held map q || eqb q p) (length map)
    → m' ≡ map_of (λ q. held map q || eqb q p) (length map) → m ≡ m'
only_one_mark map p m m' = only_one m m'

-- `first_on`; for either side
pub only_one_first_on : (map : List ℕ) (side : Side) (from n r q : ℕ) → r ≡ first (on_side map side) from (n - from)
    → q ≡ first (on_side map side) from (n - from) → r ≡ q
only_one_first_on map side from n r q = only_one r q

pub only_one_first_held : (map : List ℕ) (from n r q : ℕ) → r ≡ first (held map) from (n - from) → q ≡ first (held map) from (n - from) → r ≡ q
only_one_first_held map from n r q = only_one_first_on map Held from n r q

pub only_one_first_unheld : (map : List ℕ) (from n r q : ℕ) → r ≡ first (λ p. not (held map p)) from (n - from)
    → q ≡ first (λ p. not (held map p)) from (n - from) → r ≡ q
only_one_first_unheld map from n r q = only_one_first_on map Unheld from n r q
