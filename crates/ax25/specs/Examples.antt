-- The two worked addresses of 01, "Frame", those of a frame from a newer controller (02, C-12), and addresses that break a rule.
-- Assumes nothing.
use Rattle.std.specs.Prelude.{List, [], ◌∷◌, ℕ, set}
use Rattle.ax25.specs.declared.Address.{Address}

-- VA3SFL-0
abbrev pub va3sfl : Address
va3sfl = record { characters = 0x56 ∷ 0x41 ∷ 0x33 ∷ 0x53 ∷ 0x46 ∷ 0x4C ∷ []; number = 0; bit7 = 0 }

-- .. as destination
abbrev pub va3sfl_bytes : List ℕ
va3sfl_bytes = 0xAC ∷ 0x82 ∷ 0x66 ∷ 0xA6 ∷ 0x8C ∷ 0x98 ∷ 0x60 ∷ []

-- UOSAT5 with a number; the worked one is 11
abbrev pub uosat5 : ℕ → Address
uosat5 n = record { characters = 0x55 ∷ 0x4F ∷ 0x53 ∷ 0x41 ∷ 0x54 ∷ 0x35 ∷ []; number = n; bit7 = 0 }

-- .. with an SSID byte; of UOSAT5-11 as source it is 77
abbrev pub uosat5_bytes : ℕ → List ℕ
uosat5_bytes ssid = 0xAA ∷ 0x9E ∷ 0xA6 ∷ 0x82 ∷ 0xA8 ∷ 0x6A ∷ ssid ∷ []

-- QST-1 with its bit 7 set
abbrev pub qst : Address
qst = record { characters = 0x51 ∷ 0x53 ∷ 0x54 ∷ 0x20 ∷ 0x20 ∷ 0x20 ∷ []; number = 1; bit7 = 1 }

-- .. as destination, as Direwolf sends it; its source's SSID byte is then F7
abbrev pub qst_bytes : List ℕ
qst_bytes = 0xA2 ∷ 0xA6 ∷ 0xA8 ∷ 0x40 ∷ 0x40 ∷ 0x40 ∷ 0xE2 ∷ []

-- a frame with other SSID bytes, of its destination and of its source
abbrev pub ssids : ℕ → ℕ → List ℕ → List ℕ
ssids to from frame = set (set frame 6 to) 13 from

-- uOSAT5-11 as source: the first character in lower case
abbrev pub lower_bytes : List ℕ
lower_bytes = 0xEA ∷ 0x9E ∷ 0xA6 ∷ 0x82 ∷ 0xA8 ∷ 0x6A ∷ 0x77 ∷ []

-- six spaces and the number 0
abbrev pub spaces : Address
spaces = record { characters = 0x20 ∷ 0x20 ∷ 0x20 ∷ 0x20 ∷ 0x20 ∷ 0x20 ∷ []; number = 0; bit7 = 0 }

-- .. as destination
abbrev pub spaces_bytes : List ℕ
spaces_bytes = 0x40 ∷ 0x40 ∷ 0x40 ∷ 0x40 ∷ 0x40 ∷ 0x40 ∷ 0x60 ∷ []
