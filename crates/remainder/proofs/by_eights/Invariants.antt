-- The loop's invariant: from the remainder of the number so far on, what is left of the message gives the whole remainder.
use Rattle.std.proofs.Common.{◌≡◌, ◌+◌, ◌*◌, ◌%◌, length, drop}
use Rattle.remainder.specs.Remainder.{with_bits, message_bits, remainder_of}
use Rattle.remainder.specs.Inner.{with_number}
use Rattle.remainder.proofs.by_eights.Given as goal

abbrev pub invariant-loop-eight : goal.invariant-loop-eight
invariant-loop-eight l =
    with_bits (with_number 64 0 l.wide) (message_bits (drop (length l.s % 8 + l.eight-index * 8) l.s)) ≡ remainder_of l.s
