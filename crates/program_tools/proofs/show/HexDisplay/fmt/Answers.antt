use Rattle.std.proofs.Common.{◌≡◌, ℕ, zero, suc, ◌+◌, ◌/◌, ◌%◌, ◌<◌, ◌==◌, true, false, List, [], ◌∷◌, ◌++◌, length, take, get_or, slice_index_or, Some, Ok, refl, sym, ap, ◌∙◌, subst}
use native.Mathlib.Omega.{arith}
use Rattle.std.specs.Fmt.{padded_integral, digits, digit_glyph, char_count, format_spec, styled_digits_output, ◌++?◌, DisplaysOnOk}
use Rattle.std.proofs.Output.{has_written_of_eq, has_written_append}
use Rattle.std.proofs.lemmas.Bool.{ne_eqb}
use Rattle.std.proofs.lemmas.List.{take_more, flat_map_more}
use Rattle.program_tools.specs.Show.{hex_of, hex_text}
use Rattle.program_tools.proofs.show.HexDisplay.fmt.Goals as goal

-- a byte whose high digit is q
two : (q b : ℕ) → b / 16 ≡ q → q < 16 → padded_integral (format_spec 32 0 4 2 18446744073709551615) false [] (digits 16 true b) ≡ digit_glyph true q ∷ digit_glyph true (b % 16) ∷ []
unfolding padded_integral digits char_count
two zero b e h = rw e refl
two (suc k) b e h =
    let d : suc k / 16 ≡ 0 = omega arith in
    let m : suc k % 16 ≡ suc k = omega arith in
    let z : (suc k == 0) ≡ false = ne_eqb (suc k) 0 (omega arith) in
    rw (e, z, d, m) refl

-- the text with one byte more
more : (s : List ℕ) (i b : ℕ) → i < length s → b ≡ get_or s i 0 → hex_text (take i s) ++ hex_of b ≡ hex_text (take (i + 1) s)
more s i b h e = ap (λ x. hex_text (take i s) ++ hex_of x) e ∙ flat_map_more hex_of [] (take i s) (get_or s i 0) ∙ ap hex_text (sym (take_more s i 0 h))

pub loop-byte-preserved : goal.loop-byte-preserved
loop-byte-preserved g c =
    λ plain.
    let s = c.args.self.now.0.now in
    let b = slice_index_or s c.loop-byte.byte-index 0 in
    let now = c.loop-byte.invariant plain in
    let printed : Some (32 ∷ []) ++? styled_digits_output c.in_radix.result c.laid_out.result ≡ Some (hex_of b) =
    rw (c.in_radix.ensures, c.laid_out.ensures, two (b / 16) b refl (omega arith)) refl in
    let wrote = subst (λ o. DisplaysOnOk g.W.Write.write_str_gives c.loop-byte.f (Ok c.in_ok-write.field-0) o c.write.new.self) printed c.in_ok-write.ensures.writes in
    has_written_of_eq _ _ _ _ _ (more s c.loop-byte.byte-index b c.loop-byte-test.true refl) (has_written_append _ _ _ _ (hex_of b) _ now (wrote now.plain refl))
