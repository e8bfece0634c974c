-- No second answer meets a promise of this crate.
-- Assumes nothing.
use mathlib.Core.Path.{◌≡◌, ap}
use mathlib.Core.List.{List}
use Prim.Native.Nat.{ℕ}
use Rattle.std.specs.Prelude.{Result}
use Rattle.reason.specs.declared.Reason.{Reason}
use Rattle.reason.specs.Answer.{answer_of}
use Rattle.reason.proofs.OnlyOne.{only_one, only_one_answer}
use Rattle.header.specs.declared.Cursor.{Cursor}
use Rattle.header.specs.declared.Decision.{Decision}
use Rattle.header.specs.declared.Step.{Step}
use Rattle.header.specs.declared.Header.{Header}
use Rattle.header.specs.Items.{decision_of, step_at}
use Rattle.header.specs.Header.{read_header}
use Rattle.header.specs.Data.{data_of}

-- `decide`
pub only_one_decision : (id : ℕ) (r q : Decision) → r ≡ decision_of id → q ≡ decision_of id → r ≡ q
only_one_decision id r q = only_one r q

-- `Cursor::first`: a cursor is its place
pub only_one_first : (r q : Cursor) → r.at ≡ 2 → q.at ≡ 2 → r ≡ q
only_one_first r q d e = let made : ℕ → Cursor = λ at. record { at = at } in ap made (only_one r.at q.at d e)

-- `Cursor::step`
pub only_one_step : (s : List ℕ) (at : ℕ) (r q : Step) → r ≡ step_at s at → q ≡ step_at s at → r ≡ q
only_one_step s at r q = only_one r q

-- `item_bytes`
pub only_one_item : (id : ℕ) (s r q : List ℕ) → r ≡ data_of id s → q ≡ data_of id s → r ≡ q
only_one_item id s r q = only_one r q

-- `read_header`
pub only_one_header : (s : List ℕ) (number : ℕ) (r q : Result Header Reason) → answer_of r ≡ read_header s number
    → answer_of q ≡ read_header s number → r ≡ q
only_one_header s number r q = only_one_answer r q
