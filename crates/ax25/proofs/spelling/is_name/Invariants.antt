use Rattle.std.proofs.Common.{◌≡◌, List, ◌++◌, ℕ}
use Rattle.ax25.specs.Address.{all_spaces, padded}
use Rattle.ax25.proofs.spelling.is_name.Given as goal

-- behind the characters that are left, the two say what the definitions say
abbrev pub invariant-loop-c : goal.invariant-loop-c
invariant-loop-c l =
    (behind : List ℕ) × (l.fn.a.characters ≡ l.c-iterator.iter.rest.now ++ behind) × (l.blank ≡ all_spaces behind) × (l.padded ≡ padded behind)
