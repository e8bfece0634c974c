-- No second answer meets a promise of this crate, and no other bytes in a lent map or buffer.
-- Assumes nothing.
use mathlib.Core.Path.{◌≡◌}
use mathlib.Core.Bool.{Bool, ◌&&◌}
use mathlib.Core.List.{List}
use Prim.Native.Nat.{ℕ}
use lib.ListN.{length}
use Rattle.reason.proofs.OnlyOne.{only_one}
use Rattle.runs.specs.Offers.{Offer, piece_at, held_in, agrees, inside, Stores, PutsPiece, AddsHeld}

-- `piece_agrees` and `both_agree`
pub only_one_piece_agrees : (map buffer : List ℕ) (at : ℕ) (piece : List ℕ) (r q : Bool)
    → r ≡ (inside map buffer at (length piece) && agrees map buffer (piece_at at piece))
    → q ≡ (inside map buffer at (length piece) && agrees map buffer (piece_at at piece)) → r ≡ q
only_one_piece_agrees map buffer at piece r q = only_one r q

pub only_one_both_agree : (map buffer other bytes : List ℕ) (n : ℕ) (r q : Bool)
    → r ≡ (inside map buffer 0 n && inside other bytes 0 n && agrees map buffer (held_in n other bytes))
    → q ≡ (inside map buffer 0 n && inside other bytes 0 n && agrees map buffer (held_in n other bytes)) → r ≡ q
only_one_both_agree map buffer other bytes n r q = only_one r q

-- `put_piece` and `add_held`: the count, the map and the buffer
only_one_stored : (fits : Bool) (map buffer : List ℕ) (o : Offer) (made : List ℕ) (r q : ℕ) (m m' b b' : List ℕ) → Stores fits map buffer o made r m b
    → Stores fits map buffer o made q m' b' → (r ≡ q) × (m ≡ m') × (b ≡ b')
only_one_stored fits map buffer o made r q m m' b b' d e =
    (only_one r q d.counts e.counts, only_one m m' d.leaves_map e.leaves_map, only_one b b' d.leaves_buffer e.leaves_buffer)

pub only_one_put_piece : (map buffer : List ℕ) (at : ℕ) (piece : List ℕ) (r q : ℕ) (m m' b b' : List ℕ) → PutsPiece map buffer at piece r m b
    → PutsPiece map buffer at piece q m' b' → (r ≡ q) × (m ≡ m') × (b ≡ b')
only_one_put_piece map buffer at piece r q m m' b b' d e = only_one_stored _ _ _ _ _ r q m m' b b' d e

pub only_one_add_held : (map buffer other bytes : List ℕ) (n r q : ℕ) (m m' b b' : List ℕ) → AddsHeld map buffer other bytes n r m b
    → AddsHeld map buffer other bytes n q m' b' → (r ≡ q) × (m ≡ m') × (b ≡ b')
only_one_add_held map buffer other bytes n r q m m' b b' d e = only_one_stored _ _ _ _ _ r q m m' b b' d e
