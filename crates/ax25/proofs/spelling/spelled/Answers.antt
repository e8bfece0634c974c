-- `ax25::spelling::spelled` meets its contract: each of the six bytes is halved.
-- Assumes nothing.
use Rattle.std.proofs.Common.{◌≡◌, ℕ, ◌+◌, ◌/◌, ◌<◌, get_or, rules, refl, sym, ap, ◌∙◌, arith}
use mathlib.Core.List.{map}
use lib.Seq.{ext_get_or}
use Rattle.octets.specs.Numbers.{byte_at}
use Rattle.octets.specs.Values.{values_from}
use Rattle.octets.proofs.ValueLaws.{value_at}
use Rattle.ax25.specs.Address.{address_at}
use Rattle.ax25.proofs.SpellingLaws.{six_places}
use Rattle.ax25.proofs.spelling.spelled.Goals as goal

pub returns : goal.returns
unfolding address_at
returns c =
    let half : ℕ → ℕ = λ k. byte_at c.args.s.now (c.args.at + k) / 2 in
    let long = c.from_fn.ensures.items.long in
    let each : (i : ℕ) → i < 6 → get_or c.from_fn.result i 0 ≡ half i = λ i h. let called = c.from_fn.ensures.items.at i 0 h in search rules in
    let halves : c.from_fn.result ≡ values_from half 0 6 = ext_get_or 0 _ _ long (λ i h. each i (omega arith) ∙ sym (value_at half 0 6 i (omega arith))) in
    rw (halves ∙ ap (map (λ b. b / 2)) (sym (six_places c.args.s.now c.args.at))) refl
