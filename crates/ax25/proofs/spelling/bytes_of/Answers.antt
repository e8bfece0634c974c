-- `ax25::spelling::bytes_of` meets its contract: a character of an address that can be written is below 128, its number below 16, its bit below 2.
-- Assumes nothing.
use Rattle.std.proofs.Common.{◌≡◌, ℕ, ◌*◌, ◌<◌, List, [], ◌∷◌, ◌++◌, get_or, rules, sym, ap₂, ◌∙◌, arith}
use lib.Seq.{ext_get_or}
use Rattle.octets.specs.Numbers.{byte_at}
use Rattle.octets.specs.Values.{values_from}
use Rattle.octets.proofs.ValueLaws.{value_at}
use Rattle.ax25.proofs.SpellingLaws.{character_of_writable}
use Rattle.ax25.proofs.spelling.bytes_of.Goals as goal

pub returns : goal.returns
returns c =
    let a = c.args.a in
    let shifted : ℕ → ℕ = λ i. byte_at a.characters i * 2 in
    let each : (i : ℕ) → i < 6 → get_or c.map.result i 0 ≡ byte_at a.characters i * 2 =
    λ i h. let called = c.map.ensures.items.at i 0 0 h in let below = character_of_writable a c.requires i in search rules in
    let characters : c.map.result ≡ values_from shifted 0 6 =
    ext_get_or 0 c.map.result (values_from shifted 0 6) c.map.ensures.items.long (λ i h. each i (omega (arith, c.map.ensures.items.long)) ∙ sym (value_at shifted 0 6 i (omega (arith, c.map.ensures.items.long)))) in
    ap₂ (λ (l : List ℕ) (x : ℕ). l ++ x ∷ []) (c.copy_from_slice.ensures.after ∙ characters) (grind arith)
