-- The lines that the hole program prints (01, "Both sides of the line"): number, length and positions held, then start and length of
-- each hole; or the reason.
-- Assumes nothing.
use Rattle.std.specs.Prelude.{List, [], ◌∷◌, ◌++◌, ℕ, suc, ◌+◌, ◌*◌}
use Rattle.holes.specs.declared.Hole.{Hole}
use Rattle.reception.specs.Reception.{longest}
use Rattle.reception.specs.Held.{held_count}
use Rattle.holes.specs.EveryHole.{listed_from}
use Rattle.report.specs.Decimal.{decimal}

-- the words: `file `, ` length `, ` held `, `refused `; a space, and the end of a line
abbrev pub file_word : List ℕ
file_word = 0x66 ∷ 0x69 ∷ 0x6C ∷ 0x65 ∷ 0x20 ∷ []

abbrev pub length_word : List ℕ
length_word = 0x20 ∷ 0x6C ∷ 0x65 ∷ 0x6E ∷ 0x67 ∷ 0x74 ∷ 0x68 ∷ 0x20 ∷ []

abbrev pub held_word : List ℕ
held_word = 0x20 ∷ 0x68 ∷ 0x65 ∷ 0x6C ∷ 0x64 ∷ 0x20 ∷ []

abbrev pub refused_word : List ℕ
refused_word = 0x72 ∷ 0x65 ∷ 0x66 ∷ 0x75 ∷ 0x73 ∷ 0x65 ∷ 0x64 ∷ 0x20 ∷ []

abbrev pub space : List ℕ
space = 0x20 ∷ []

abbrev pub newline : List ℕ
newline = 0x0A ∷ []

-- `file N length L held H`
abbrev pub file_line : ℕ → ℕ → ℕ → List ℕ
file_line number l h = (file_word ++ decimal number) ++ (length_word ++ decimal l) ++ (held_word ++ decimal h) ++ newline

-- `start length`
abbrev pub hole_line : Hole → List ℕ
hole_line hole = decimal hole.start ++ (space ++ decimal hole.length) ++ newline

-- .. of each hole
unfoldable pub hole_lines : List Hole → List ℕ
hole_lines [] = []
hole_lines (hole ∷ holes) = hole_line hole ++ hole_lines holes

-- `refused n`
abbrev pub refused_line : ℕ → List ℕ
refused_line n = (refused_word ++ decimal n) ++ newline

-- the lines of a file with a number, a length and a map
abbrev pub file_lines : ℕ → ℕ → List ℕ → List ℕ
file_lines number l map = file_line number l (held_count l map) ++ hole_lines (listed_from l l map 0)

-- no text is longer: a first line of 40 bytes, and twelve bytes for every second position
abbrev pub longest_text : ℕ
longest_text = 40 + 6 * suc longest
