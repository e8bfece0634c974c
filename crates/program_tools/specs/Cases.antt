-- How the lines of cases are read, letter by letter, and what is counted of them.
-- Assumes nothing.
use Rattle.std.specs.Prelude.{ℕ, ◌+◌, ◌*◌, ◌%◌, ◌^◌, Bool, false, cond, not, ◌&&◌, ◌||◌, List, replicate, ◌==◌, nat_le, slice_index, slice_set}
use Rattle.program_tools.specs.declared.cases.Case.{Case}
use Rattle.program_tools.specs.declared.cases.Tally.{Tally}
use Rattle.program_tools.specs.declared.cases.Place.{Place}
use Rattle.program_tools.specs.declared.cases.Place.TheVariants.{Name, Number, Due, Usual}
use Rattle.program_tools.specs.declared.cases.Reading.{Reading}

-- before the first letter: all numbers are 0
abbrev pub start : Reading
start = record {
  case = record { numbers = replicate 32 0 };
  usual = record { numbers = replicate 32 0 };
  place = Name;
  tally = record { cases = 0; differ = 0 };
}

-- the cell that a letter names: a to z the first 26, = the first expected number, a space the next
abbrev pub cell_of : ℕ → ℕ → ℕ
cell_of b cell =
    cond (nat_le 97 b && nat_le b 122) ((b + 31) % 32)
    (cond (b == 61) 26
    (cond (b == 32) (cell % 30 + 1) 31))

-- a case with a number in a cell
abbrev pub stored : Case → ℕ → ℕ → Case
stored case cell value = record { numbers = slice_set case.numbers (cell % 32) value }

-- a number that has ended: at a newline (10) a case is due, at a semicolon (59) its numbers are the usual ones
abbrev pub ended_of : ℕ → ℕ → ℕ → Reading → Reading
ended_of b cell value r =
    record {
      case = stored r.case cell value;
      usual = cond (b == 59) (stored r.case cell value) r.usual;
      place = cond (b == 10) Due (cond (b == 59) Usual (Number (cell_of b cell) 0));
      tally = r.tally;
    }

-- a number with one digit more
abbrev pub digit_read : ℕ → ℕ → ℕ
digit_read b value = (value % 429496730 * 10 + b % 16) % 2 ^ 32

-- one letter more of a number: a digit, or the end of it
abbrev pub number_of : ℕ → ℕ → ℕ → Reading → Reading
number_of b cell value r =
    cond (nat_le 48 b && nat_le b 57)
    (record r { place = Number cell (digit_read b value) })
    (ended_of b cell value r)

-- one letter more of a name, which a colon (58) ends
abbrev pub name_of : ℕ → Reading → Reading
name_of b r = record r { place = cond (b == 58) (Number 31 0) Name }

-- one letter more at a place
abbrev pub next_at : Place → ℕ → Reading → Reading
next_at (Number cell value) b r = number_of b cell value r
next_at Name b r = name_of b r
next_at Due b r = name_of b r
next_at Usual b r = name_of b r

-- one letter more
abbrev pub next_of : ℕ → Reading → Reading
next_of b r = next_at r.place b r

-- the letter at a place is printed: of a name, but not the colon behind it, nor the newline behind a semicolon
abbrev pub is_shown_at : Place → ℕ → Bool
is_shown_at (Number cell value) b = false
is_shown_at Name b = not (b == 58)
is_shown_at Due b = not (b == 58)
is_shown_at Usual b = not (b == 58) && not (b == 10)

-- the next letter is printed
abbrev pub is_shown : ℕ → Reading → Bool
is_shown b r = is_shown_at r.place b

-- something else was expected, in the cells from 26 on, than was got
abbrev pub differing : List ℕ → List ℕ → Bool
differing c got =
    ((not (slice_index c 26 == slice_index got 0) || not (slice_index c 27 == slice_index got 1))
    || not (slice_index c 28 == slice_index got 2)) || not (slice_index c 29 == slice_index got 3)

-- a tally with one case more
abbrev pub counted : Tally → Bool → Tally
counted t differs = record { cases = (t.cases + 1) % 2 ^ 32; differ = cond differs ((t.differ + 1) % 2 ^ 32) t.differ }

-- where the reading is once a case that was due is run: in a name; where none was due it goes on where it is
abbrev pub answered_at : Place → Place
answered_at Due = Name
answered_at Name = Name
answered_at Usual = Usual
answered_at (Number cell value) = Number cell value

-- behind a case that was run: it is counted, and the usual numbers hold again
abbrev pub answered_of : Reading → List ℕ → Reading
answered_of r got =
    record { case = r.usual; usual = r.usual; place = answered_at r.place; tally = counted r.tally (differing r.case.numbers got) }
