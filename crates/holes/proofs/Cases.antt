-- The cases of 01 that listing decides, and both sides of its limits, by computation.
-- Assumes nothing.
use mathlib.Core.Path.{◌≡◌, refl}
use mathlib.Core.List.{[], ◌∷◌}
use Prim.Native.Nat.{ℕ}
use lib.ListN.{replicate}
use Rattle.std.specs.Prelude.{Ok, Err}
use Rattle.reason.specs.declared.Reason.TheVariants.{NoHole}
use Rattle.reason.specs.Answer.{Answer, accepted, refused, answer_of}
use Rattle.reason.specs.Order.{first_of}
use Rattle.positions.specs.Spans.{first}
use Rattle.positions.specs.Map.{bit, held}
use Rattle.holes.specs.declared.Hole.{Hole}
use Rattle.holes.specs.Listing.{listing}
use Rattle.holes.specs.EveryHole.{listed_from}

abbrev hole : ℕ → ℕ → Answer Hole
hole start size = accepted (record { start = start; length = size })

pub record Cases : Type 0 where
  -- of 20 positions, 0 to 3 and 8 to 9 held: 01's example
  pub first_hole : listing 20 (0x0F ∷ 0x03 ∷ 0x00 ∷ []) 0 ≡ hole 4 4
  pub hole_at_place : listing 20 (0x0F ∷ 0x03 ∷ 0x00 ∷ []) 4 ≡ hole 4 4
  pub place_in_hole : listing 20 (0x0F ∷ 0x03 ∷ 0x00 ∷ []) 5 ≡ hole 10 10
  pub second_hole : listing 20 (0x0F ∷ 0x03 ∷ 0x00 ∷ []) 8 ≡ hole 10 10
  pub no_more : listing 20 (0x0F ∷ 0x03 ∷ 0x00 ∷ []) 11 ≡ refused 15
  pub all_listed : listed_from 20 20 (0x0F ∷ 0x03 ∷ 0x00 ∷ []) 0 ≡ record { start = 4; length = 4 } ∷ record { start = 10; length = 10 } ∷ []
  pub place_at_end : listing 20 (0x0F ∷ 0x03 ∷ 0x00 ∷ []) 20 ≡ refused 15
  pub place_beyond : listing 20 (0x0F ∷ 0x03 ∷ 0x00 ∷ []) 4294967295 ≡ refused 15
  pub place_65536 : listing 20 (0x0F ∷ 0x03 ∷ 0x00 ∷ []) 65536 ≡ refused 15
  pub over_a_byte : listing 20 (0x0F ∷ 0xF0 ∷ 0x0F ∷ []) 0 ≡ hole 4 8
  pub nothing_held : listing 20 (0x00 ∷ 0x00 ∷ 0x00 ∷ []) 0 ≡ hole 0 20
  pub nothing_held_spare_set : listing 20 (0x00 ∷ 0x00 ∷ 0xF0 ∷ []) 0 ≡ hole 0 20
  pub all_held : listing 20 (0xFF ∷ 0xFF ∷ 0x0F ∷ []) 0 ≡ refused 15
  pub last_position : listing 20 (0xFF ∷ 0xFF ∷ 0xF7 ∷ []) 0 ≡ hole 19 1
  pub list_length : listing 0 [] 0 ≡ refused 7
  pub list_length_32769 : listing 32769 (replicate 4097 0) 0 ≡ refused 7
  pub list_seven_before_twelve : listing 32769 [] 0 ≡ refused 7
  pub list_longer_map : listing 20 (0x0F ∷ 0x03 ∷ 0xF0 ∷ 0xA5 ∷ []) 10 ≡ hole 10 10
  pub list_short : listing 20 (0x0F ∷ 0x03 ∷ []) 20 ≡ refused 12
  -- the paper's number and values of each answer
  pub listed_accepted : answer_of (Ok (record { start = 4; length = 6 })) ≡ hole 4 6
  pub listed_refused : answer_of {A = Hole} (Err NoHole) ≡ refused 15

pub cases : Cases
unfolding first_of first bit held listing
cases = record {
  first_hole = refl;
  hole_at_place = refl;
  place_in_hole = refl;
  second_hole = refl;
  no_more = refl;
  all_listed = refl;
  place_at_end = refl;
  place_beyond = refl;
  place_65536 = refl;
  over_a_byte = refl;
  nothing_held = refl;
  nothing_held_spare_set = refl;
  all_held = refl;
  last_position = refl;
  list_length = refl;
  list_length_32769 = refl;
  list_seven_before_twelve = refl;
  list_longer_map = refl;
  list_short = refl;
  listed_accepted = refl;
  listed_refused = refl;
}
