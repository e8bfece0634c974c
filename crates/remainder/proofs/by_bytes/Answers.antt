-- `remainder::by_bytes` meets its contract: the fold over the bytes is the fold over their bits.
-- Assumes nothing.
use Rattle.std.proofs.Common.{◌≡◌, ℕ, List, [], ◌∷◌, fold, rules, refl, ◌∙◌}
use Rattle.remainder.specs.Remainder.{with_bits, bits_of, message_bits, remainder_of}
use Rattle.remainder.proofs.by_bytes.Goals as goal

byte_by_byte : (c : ℕ) (s : List ℕ) → fold (λ d b. with_bits d (bits_of b)) c s ≡ with_bits c (message_bits s)
unfolding with_bits message_bits
byte_by_byte c [] = refl
byte_by_byte c (b ∷ s) = byte_by_byte (with_bits c (bits_of b)) s

pub returns : goal.returns
unfolding remainder_of
returns c =
    let folded : c.fold.result ≡ fold (λ d b. with_bits d (bits_of b)) 0 c.args.s.now = search rules in
    folded ∙ byte_by_byte 0 c.args.s.now
