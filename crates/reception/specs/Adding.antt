-- What a piece or a second reception adds to a reception (01, "Reception"): both offer bytes at positions. They must agree
-- at every position already held, and each position that is new is held afterwards, with its byte. What that means under a
-- map and a buffer stands in `runs`, specs/Offers.
-- Assumes nothing.
use Rattle.std.specs.Prelude.{◌≡◌, Bool, List, ℕ, Result}
use Rattle.reason.specs.declared.Reason.{Reason}
use Rattle.reason.specs.Answer.{Answer, leaving, answer_of}
use Rattle.runs.specs.Offers as offers
use Rattle.reception.specs.Reception.{Reception, PieceData}

-- an offer: of some positions one after the other, those that it has, each with its byte
abbrev pub Offer : Type 0
Offer = offers.Offer

-- a piece offers all its positions, and there its bytes
abbrev pub of_piece : PieceData → Offer
of_piece x = offers.piece_at x.offset x.bytes

-- a second reception offers the positions that it holds; its spare bits are not among them
abbrev pub of_reception : Reception → Offer
of_reception t = offers.held_in t.length t.map t.buffer

-- the position is offered
abbrev pub offered : Offer → ℕ → Bool
offered o p = offers.offered o p

-- at a position that is held and offered, the two bytes are the same
abbrev pub agrees_at : Reception → Offer → ℕ → Bool
agrees_at s o p = offers.agrees_at s.map s.buffer o p

-- .. at each position: reason 11 is given where this fails
abbrev pub agrees : Reception → Offer → Bool
agrees s o = offers.agrees s.map s.buffer o

-- of the positions of an offer, one that it has and that is not held yet
abbrev pub is_new : Reception → Offer → ℕ → Bool
is_new s o p = offers.is_new s.map o p

-- the count of newly held positions
abbrev pub new_in : Reception → Offer → ℕ
new_in s o = offers.new_in s.map o

-- the map afterwards: held are the positions held before, and those offered
abbrev pub map_with : Reception → Offer → List ℕ
map_with s o = offers.map_with s.map o

-- the buffer afterwards: at each new position the offered byte, elsewhere the byte that was there
abbrev pub buffer_with : Reception → Offer → List ℕ
buffer_with s o = offers.buffer_with s.map s.buffer o

-- the reception after an answer: a refusal changes no lent byte
abbrev pub after : Reception → Offer → Answer ℕ → Reception
after s o answer = record {
  number = s.number;
  length = s.length;
  map = leaving (λ n. map_with s o) s.map answer;
  buffer = leaving (λ n. buffer_with s o) s.buffer answer;
}

-- The promise of an operation that adds an offer to a reception: what it answers, and what it leaves in the lent map and buffer.
pub record Adds (s : Reception) (o : Offer) (answer : Answer ℕ) (r : Result ℕ Reason) (map buffer : List ℕ) : Type 0 where
  pub answers : answer_of r ≡ answer
  pub leaves_map : map ≡ (after s o answer).map
  pub leaves_buffer : buffer ≡ (after s o answer).buffer
