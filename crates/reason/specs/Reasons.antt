-- The numbered reasons (01, "Numbered reasons").
-- Assumes nothing.
use Rattle.std.specs.Prelude.{ℕ}
use Rattle.reason.specs.declared.Reason.{Reason}
use Rattle.reason.specs.declared.Reason.TheVariants.{Short, Address, Control, Protocol, Flags, Check, Size, Header, OtherFile, Beyond, Differs, Space, Record, NotWhole, NoHole}

-- the number of each reason
abbrev pub number_of : Reason → ℕ
number_of Short = 1
number_of Address = 2
number_of Control = 3
number_of Protocol = 4
number_of Flags = 5
number_of Check = 6
number_of Size = 7
number_of Header = 8
number_of OtherFile = 9
number_of Beyond = 10
number_of Differs = 11
number_of Space = 12
number_of Record = 13
number_of NotWhole = 14
number_of NoHole = 15
