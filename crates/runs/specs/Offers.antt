-- Bytes that are offered at positions, under a map and a buffer (01, "Reception"): whether they agree with what is held, how many
-- positions are new, and the map and the buffer afterwards.
-- Assumes nothing.
use Rattle.std.specs.Prelude.{◌≡◌, Bool, true, cond, not, ◌&&◌, ◌||◌, List, ℕ, ◌+◌, ◌-◌, ◌^◌, eqb, leb, ltb, length}
use Rattle.octets.specs.Numbers.{byte_at}
use Rattle.octets.specs.Values.{values_from}
use Rattle.octets.specs.Runs.{put_in}
use Rattle.positions.specs.Spans.{within, every, count}
use Rattle.positions.specs.Map.{held, map_size, map_of}

-- an offer: of the `size` positions from `start` on, those that `has` tells, each with its byte
pub record Offer : Type 0 where
  pub start : ℕ
  pub size : ℕ
  pub has : ℕ → Bool
  pub byte : ℕ → ℕ

-- a piece, put at a position, offers all its positions, and there its bytes
abbrev pub piece_at : ℕ → List ℕ → Offer
piece_at at piece = record { start = at; size = length piece; has = λ p. true; byte = λ p. byte_at piece (p - at) }

-- a second map and buffer offer, of the first n positions, those that the map holds
abbrev pub held_in : ℕ → List ℕ → List ℕ → Offer
held_in n map buffer = record { start = 0; size = n; has = held map; byte = byte_at buffer }

-- the position is offered
abbrev pub offered : Offer → ℕ → Bool
offered o p = within o.start o.size p && o.has p

-- at a position that is held and offered, the two bytes are the same
abbrev pub agrees_at : List ℕ → List ℕ → Offer → ℕ → Bool
agrees_at map buffer o p = not (held map p && o.has p) || eqb (byte_at buffer p) (o.byte p)

-- .. at each position
abbrev pub agrees : List ℕ → List ℕ → Offer → Bool
agrees map buffer o = every (agrees_at map buffer o) o.start o.size

-- of the positions of an offer, one that it has and that is not held yet
abbrev pub is_new : List ℕ → Offer → ℕ → Bool
is_new map o p = o.has p && not (held map p)

-- the count of newly held positions
abbrev pub new_in : List ℕ → Offer → ℕ
new_in map o = count (is_new map o) o.start o.size

-- the map afterwards: held are the positions held before, and those offered
abbrev pub map_with : List ℕ → Offer → List ℕ
map_with map o = map_of (λ p. held map p || offered o p) (length map)

-- the buffer afterwards: at each new position the offered byte, elsewhere the byte that was there
abbrev pub buffer_with : List ℕ → List ℕ → Offer → List ℕ
buffer_with map buffer o = values_from (λ p. cond (within o.start o.size p && is_new map o p) (o.byte p) (byte_at buffer p)) 0 (length buffer)

-- the n positions from `at` on lie inside the map and the buffer, and are numbers of 32 bits
abbrev pub inside : List ℕ → List ℕ → ℕ → ℕ → Bool
inside map buffer at n = ltb (at + n) (2 ^ 32) && leb (map_size (at + n)) (length map) && leb (at + n) (length buffer)

-- The promise of a function that stores an offer: where its positions lie inside, the count of new ones, the map with them and
-- the buffer that is made; elsewhere 0, and nothing changes.
pub record Stores (lies : Bool) (map buffer : List ℕ) (o : Offer) (made : List ℕ) (r : ℕ) (map' buffer' : List ℕ) : Type 0 where
  pub counts : r ≡ cond lies (new_in map o) 0
  pub leaves_map : map' ≡ cond lies (map_with map o) map
  pub leaves_buffer : buffer' ≡ cond lies made buffer

-- The promise of `put_piece`: all bytes of the piece are written.
abbrev pub PutsPiece : List ℕ → List ℕ → ℕ → List ℕ → ℕ → List ℕ → List ℕ → Type 0
PutsPiece map buffer at piece r map' buffer' =
    Stores (inside map buffer at (length piece)) map buffer (piece_at at piece) (put_in buffer at piece) r map' buffer'

-- The promise of `add_held`: the bytes of new positions are copied.
abbrev pub AddsHeld : List ℕ → List ℕ → List ℕ → List ℕ → ℕ → ℕ → List ℕ → List ℕ → Type 0
AddsHeld map buffer second_map second_buffer n r map' buffer' =
    let offer = held_in n second_map second_buffer in
    Stores (inside map buffer 0 n && inside second_map second_buffer 0 n) map buffer offer (buffer_with map buffer offer) r map' buffer'
