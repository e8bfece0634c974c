-- What the private functions promise each other (01, "Reception"): the questions of the other files, asked of map bytes and of
-- runs of positions. No promise of a public function cites it.
-- Assumes nothing.
use Rattle.std.specs.Prelude.{◌≡◌, Bool, cond, not, ◌&&◌, ◌||◌, List, ℕ, ◌+◌, ◌-◌, ◌*◌, ◌^◌, ◌<◌, ◌≤◌, eqb, leb, length}
use Rattle.octets.specs.Numbers.{byte_at, AllBytes}
use Rattle.positions.specs.Spans.{within, count}
use Rattle.positions.specs.Map.{is_set, held}

-- the positions below an end lie inside a map and a buffer, and are numbers of 32 bits
pub record Within (map buffer : List ℕ) (end : ℕ) : Type 0 where
  pub few : end < 2 ^ 32
  pub mapped : end ≤ length map * 8
  pub buffered : end ≤ length buffer

-- where the eight positions from p on that are below n end
abbrev pub up_to : ℕ → ℕ → ℕ
up_to p n = cond (leb (p + 8) n) (p + 8) n

-- position p of a buffer has the byte of a piece whose first position is at
abbrev pub same_at : List ℕ → ℕ → List ℕ → ℕ → Bool
same_at buffer at piece p = eqb (byte_at buffer p) (byte_at piece (p - at))

-- position p is not held, or has the byte of the piece
abbrev pub piece_agrees : List ℕ → List ℕ → ℕ → List ℕ → ℕ → Bool
piece_agrees map buffer at piece p = not (held map p) || same_at buffer at piece p

-- bit p - from of a byte is not set, or position p has the byte of the piece
abbrev pub bit_agrees : ℕ → List ℕ → ℕ → List ℕ → ℕ → ℕ → Bool
bit_agrees asked buffer at piece from p = not (is_set asked (p - from)) || same_at buffer at piece p

-- a position that both maps hold has the same byte in both buffers
abbrev pub both_agree : List ℕ → List ℕ → List ℕ → List ℕ → ℕ → Bool
both_agree map buffer second_map second_buffer p = not (held map p && held second_map p) || eqb (byte_at buffer p) (byte_at second_buffer p)

-- Of the n positions from p on, those that `has` tells are now held, and r of them were not before.
pub record MapRun (map : List ℕ) (has : ℕ → Bool) (p n : ℕ) (map' : List ℕ) (r : ℕ) : Type 0 where
  pub long : length map' ≡ length map
  pub bytes : AllBytes map'
  pub holds : (q : ℕ) → q < length map * 8 → held map' q ≡ (held map q || within p n q && has q)
  pub new : r ≡ count (λ q. has q && not (held map q)) p n

-- Of the n positions from p on, those that `new` tells now have their byte from `from`.
pub record BufferRun (new : ℕ → Bool) (from buffer : List ℕ) (p n : ℕ) (buffer' : List ℕ) : Type 0 where
  pub long : length buffer' ≡ length buffer
  pub bytes : (q : ℕ) → q < length buffer → byte_at buffer' q ≡ cond (within p n q && new q) (byte_at from q) (byte_at buffer q)
