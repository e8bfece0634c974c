-- What lines show of answers, bytes and faults, as text.
-- Assumes nothing.
use Rattle.std.specs.Prelude.{ℕ, ◌/◌, ◌%◌, Bool, true, cond, List, [], ◌∷◌, ◌++◌, Option, Some, Result, Ok, Err, codes}
use Rattle.std.specs.Fmt.{decimal, digit_glyph, option_append}
use Rattle.std.specs.List.{flat_map}
use Rattle.reason.specs.declared.Reason.{Reason}
use Rattle.reason.specs.Reasons.{number_of}

-- a refusal: its word, and the number of its reason
abbrev pub refusal_text : Reason → List ℕ
refusal_text reason = codes "refused " ++ decimal (number_of reason)

-- an answer: accepted, whatever it tells, or the refusal
abbrev pub answer_text : {A : Type 0} → Result A Reason → List ℕ
answer_text (Ok _) = codes "accepted"
answer_text (Err reason) = refusal_text reason

-- the texts of one fault, or of two that are not the same
abbrev pub names_of : Bool → Option (List ℕ) → Option (List ℕ) → Option (List ℕ)
names_of same first second = cond same first (option_append first (option_append (Some (codes " and ")) second))

-- a byte: a space, and its two hexadecimal digits
abbrev pub hex_of : ℕ → List ℕ
hex_of b = 32 ∷ digit_glyph true (b / 16) ∷ digit_glyph true (b % 16) ∷ []

-- bytes one after the other
abbrev pub hex_text : List ℕ → List ℕ
hex_text s = flat_map hex_of s
