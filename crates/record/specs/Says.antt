-- What an accepted record says (01, "Record"; demand 2): its fields are its bytes at their places, counted from 0.
-- Assumes nothing.
use Rattle.std.specs.Prelude.{◌≡◌, false, List, ℕ, ◌+◌, ◌*◌, ◌≤◌, ◌<◌, length}
use Rattle.octets.specs.Numbers.{byte_at, number_at}
use Rattle.positions.specs.Map.{held, map_size}
use Rattle.reception.specs.Reception.{wrong_length}
use Rattle.reception.specs.declared.File.{File}
use Rattle.record.specs.Reading.{map_in, buffer_in}

-- Its length is in range and nothing follows; each field has its tag and its length at its place; spare bits and unheld bytes are
-- zero.
pub record RecordSays (saved : List ℕ) (x : File) : Type 0 where
  pub right : wrong_length x.length ≡ false
  pub size : length saved ≡ 20 + map_size x.length + x.length
  pub number_field : (byte_at saved 0 ≡ 0x01) × (number_at 2 saved 1 ≡ 4) × (x.number ≡ number_at 4 saved 3)
  pub length_field : (byte_at saved 7 ≡ 0x02) × (number_at 2 saved 8 ≡ 4) × (x.length ≡ number_at 4 saved 10)
  pub map_field : (byte_at saved 14 ≡ 0x03) × (number_at 2 saved 15 ≡ map_size x.length)
  pub buffer_field : (byte_at saved (17 + map_size x.length) ≡ 0x04) × (number_at 2 saved (17 + map_size x.length + 1) ≡ x.length)
  pub spare : (p : ℕ) → x.length ≤ p → p < map_size x.length * 8 → held (map_in saved) p ≡ false
  pub unheld : (p : ℕ) → p < x.length → held (map_in saved) p ≡ false → byte_at (buffer_in saved) p ≡ 0
