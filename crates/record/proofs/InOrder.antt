-- Each operation of this crate gives each of its reasons exactly when it is the first that holds (demand 1).
-- Assumes nothing.
use mathlib.Core.Bool.{not}
use mathlib.Core.List.{List, [], ◌∷◌}
use Prim.Native.Nat.{ℕ}
use Rattle.reason.specs.Order.{check, Exactly}
use Rattle.reason.proofs.OrderLaws.{exactly}
use Rattle.reception.specs.Reception.{Reception}
use Rattle.record.specs.Record.{record_length}
use Rattle.record.specs.Reading.{is_record, recorded_in, read_record}
use Rattle.record.specs.Saving.{saving_checks, saving}
use Rattle.record.specs.Loading.{loading_checks, loading}

-- saving: 7, 12
pub save_in_order : (s : Reception) (target : List ℕ) → Exactly (saving_checks s target) (record_length s.length) (saving s target)
unfolding saving
save_in_order s target = exactly (saving_checks s target) (record_length s.length)

-- loading: 13, 12
pub load_in_order : (s map buffer : List ℕ) → Exactly (loading_checks s map buffer) (recorded_in s) (loading s map buffer)
unfolding loading
load_in_order s map buffer = exactly (loading_checks s map buffer) (recorded_in s)

-- reading: 13
pub read_record_in_order : (s : List ℕ) → Exactly (check (not (is_record s)) 13 ∷ []) (recorded_in s) (read_record s)
unfolding read_record
read_record_in_order s = exactly (check (not (is_record s)) 13 ∷ []) (recorded_in s)
