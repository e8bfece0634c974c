-- A request that can be made (01, "Fill request"), for the theorems that a request made so is read as that request, and that every
-- accepted frame is one.
-- Assumes nothing.
use Rattle.std.specs.Prelude.{◌≡◌, true, List, ℕ, ◌^◌, ◌<◌, length}
use Rattle.ax25.specs.declared.Head.{Head}
use Rattle.ax25.specs.Address.{is_writable}
use Rattle.holes.specs.declared.Hole.{Hole}
use Rattle.request.specs.declared.Asks.{Asks}
use Rattle.request.specs.Request.{holes_of_kind, holes_right}

-- both addresses can be written, the number fits its bytes, there are as many holes as there may be, and they are right
pub record MakeableRequest (head : Head) (asks : Asks) (number : ℕ) (holes : List Hole) : Type 0 where
  pub destination : is_writable head.destination ≡ true
  pub source : is_writable head.source ≡ true
  pub number_fits : number < 256 ^ 4
  pub as_many : holes_of_kind asks (length holes) ≡ true
  pub right : holes_right 0 holes ≡ true
