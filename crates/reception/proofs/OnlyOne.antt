-- No second answer meets a promise of this crate, and no other bytes in a lent map or buffer.
-- Assumes nothing.
use mathlib.Core.Path.{◌≡◌}
use mathlib.Core.Bool.{Bool}
use mathlib.Core.List.{List}
use Prim.Native.Nat.{ℕ}
use Rattle.std.specs.Prelude.{Result}
use Rattle.reason.specs.declared.Reason.{Reason}
use Rattle.reason.specs.Answer.{Answer}
use Rattle.reason.proofs.OnlyOne.{only_one, only_one_answer}
use Rattle.positions.specs.Map.{map_size}
use Rattle.reception.specs.Reception.{Reception, PieceData, wrong_length, short_map, short_space}
use Rattle.reception.specs.Adding.{Offer, Adds}
use Rattle.reception.specs.Opening.{Opens}
use Rattle.reception.specs.Taking.{Takes}
use Rattle.reception.specs.Joining.{Joins}
use Rattle.reception.specs.Held.{held_of, held_count}

-- `open`
pub only_one_open : (l : ℕ) (map buffer : List ℕ) (r q : Result Unit Reason) (m m' b b' : List ℕ) → Opens l map buffer r m b → Opens l map buffer q m' b'
    → (r ≡ q) × (m ≡ m') × (b ≡ b')
only_one_open l map buffer r q m m' b b' d e =
    (only_one_answer r q d.answers e.answers, only_one m m' d.leaves_map e.leaves_map, only_one b b' d.leaves_buffer e.leaves_buffer)

-- `take` and `join`
pub only_one_added : (s : Reception) (o : Offer) (a : Answer ℕ) (r q : Result ℕ Reason) (m m' b b' : List ℕ) → Adds s o a r m b → Adds s o a q m' b'
    → (r ≡ q) × (m ≡ m') × (b ≡ b')
only_one_added s o a r q m m' b b' d e =
    (only_one_answer r q d.answers e.answers, only_one m m' d.leaves_map e.leaves_map, only_one b b' d.leaves_buffer e.leaves_buffer)

pub only_one_take : (s : Reception) (x : PieceData) (r q : Result ℕ Reason) (m m' b b' : List ℕ) → Takes s x r m b → Takes s x q m' b'
    → (r ≡ q) × (m ≡ m') × (b ≡ b')
only_one_take s x r q m m' b b' d e = only_one_added s _ _ r q m m' b b' d e

pub only_one_join : (s t : Reception) (r q : Result ℕ Reason) (m m' b b' : List ℕ) → Joins s t r m b → Joins s t q m' b'
    → (r ≡ q) × (m ≡ m') × (b ≡ b')
only_one_join s t r q m m' b b' d e = only_one_added s _ _ r q m m' b b' d e

-- `is_held` and `count_held`
pub only_one_is_held : (l : ℕ) (map : List ℕ) (position : ℕ) (r q : Bool) → r ≡ held_of l map position → q ≡ held_of l map position → r ≡ q
only_one_is_held l map position r q = only_one r q

pub only_one_count_held : (l : ℕ) (map : List ℕ) (r q : ℕ) → r ≡ held_count l map → q ≡ held_count l map → r ≡ q
only_one_count_held l map r q = only_one r q

-- `wrong_length`, `map_size`, `short_map` and `short`
pub only_one_wrong_length : (l : ℕ) (r q : Bool) → r ≡ wrong_length l → q ≡ wrong_length l → r ≡ q
only_one_wrong_length l r q = only_one r q

pub only_one_map_size : (l r q : ℕ) → r ≡ map_size l → q ≡ map_size l → r ≡ q
only_one_map_size l r q = only_one r q

pub only_one_short_map : (l : ℕ) (map : List ℕ) (r q : Bool) → r ≡ short_map l map → q ≡ short_map l map → r ≡ q
only_one_short_map l map r q = only_one r q

pub only_one_short : (l : ℕ) (map buffer : List ℕ) (r q : Bool) → r ≡ short_space l map buffer → q ≡ short_space l map buffer → r ≡ q
only_one_short l map buffer r q = only_one r q
