-- The rules of a file header (01, "File header"), one by one. `proofs/RulesKept.antt` shows that a header is accepted exactly
-- if it keeps them all.
-- Assumes nothing.
use Rattle.std.specs.Prelude.{◌≡◌, true, List, ℕ, ◌≤◌}
use Rattle.octets.specs.Lists.{OneOf}
use Rattle.octets.specs.Numbers.{byte_at, number_at}
use Rattle.header.specs.declared.Pair.{Pair}
use Rattle.header.specs.Items.{items, count_of, start_of, size_of, comes_to_end}
use Rattle.header.specs.Header.{header_length, mandatory, header_sum}

-- the value of the item with the id, a number of n bytes
abbrev pub value_of : ℕ → ℕ → List ℕ → ℕ
value_of id n s = number_at n s (start_of (items s) id)

pub record Rules (s : List ℕ) (number : ℕ) : Type 0 where
  -- it begins with AA 55
  pub marker : (byte_at s 0 ≡ 0xAA) × (byte_at s 1 ≡ 0x55)
  -- its items come to the end item: each is there whole and has a length that its id allows, a known item its own and the end
  -- item none
  pub ends : comes_to_end (items s) ≡ true
  -- each mandatory item is there exactly once, with its length
  pub each_once : (p : Pair) → OneOf p mandatory → count_of (items s) p.id ≡ 1
  pub each_sized : (p : Pair) → OneOf p mandatory → size_of (items s) p.id ≡ p.size
  -- item 12 is there at most once
  pub upload : count_of (items s) 0x12 ≤ 1
  -- item 0A is the sum of all header bytes, with its own two data bytes taken as 0
  pub sum : value_of 0x0A 2 s ≡ header_sum s
  -- item 01 is the file's number
  pub numbered : value_of 0x01 4 s ≡ number
  -- item 0B is at least the header's length and at most item 04, the whole file's
  pub behind : header_length s ≤ value_of 0x0B 2 s
  pub before : value_of 0x0B 2 s ≤ value_of 0x04 4 s
