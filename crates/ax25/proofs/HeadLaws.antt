-- Laws of a frame's head: which reason is given, one after the other, and what an accepted head says of the frame.
-- Assumes nothing.
use mathlib.Core.Path.{◌≡◌}
use mathlib.Core.Bool.{true, false, ◌&&◌}
use mathlib.Core.List.{List}
use Prim.Native.Nat.{ℕ, ◌-◌, ◌≤◌, ◌<◌}
use native.Mathlib.Omega.{arith}
use lib.ListN.{length}
use Rattle.reason.specs.Answer.{accepted, refused}
use Rattle.reason.specs.Order.{first_of}
use Rattle.reason.proofs.OrderLaws.{accepted_only_if}
use Rattle.octets.specs.Numbers.{byte_at}
use Rattle.ax25.specs.declared.Role.TheVariants.{Destination, Source}
use Rattle.ax25.specs.declared.Head.{Head}
use Rattle.ax25.specs.Address.{well_formed}
use Rattle.ax25.specs.Head.{head_length, most_information, control, head_checks, head_of, read_head}
use Rattle.ax25.specs.Says.{HeadSays}
use Rattle.ax25.proofs.SpellingLaws.{address_refused, accepted_address, refused_address}

-- each reason in its turn, and acceptance when none holds

module _ (protocol : ℕ) (frame : List ℕ) where
  pub reads_1 : length frame < head_length → read_head protocol frame ≡ refused 1
  unfolding head_checks first_of
  reads_1 h = grind arith

  module _ (long : head_length ≤ length frame) where
    pub reads_2 : (well_formed Destination frame 0 && well_formed Source frame 7) ≡ false → read_head protocol frame ≡ refused 2
    unfolding head_checks first_of
    reads_2 h = grind arith

    module _ (addresses : (well_formed Destination frame 0 && well_formed Source frame 7) ≡ true) where
      pub reads_3 : (byte_at frame 14 ≡ control → ⊥) → read_head protocol frame ≡ refused 3
      unfolding head_checks first_of
      reads_3 h = grind arith

      module _ (controlled : byte_at frame 14 ≡ control) where
        pub reads_4 : (byte_at frame 15 ≡ protocol → ⊥) → read_head protocol frame ≡ refused 4
        unfolding head_checks first_of
        reads_4 h = grind arith

        module _ (named : byte_at frame 15 ≡ protocol) where
          pub reads_7 : most_information < length frame - head_length → read_head protocol frame ≡ refused 7
          unfolding head_checks first_of
          reads_7 h = grind arith

          pub reads_head : length frame - head_length ≤ most_information → read_head protocol frame ≡ accepted (head_of frame)
          unfolding head_checks first_of
          reads_head h = grind arith

-- what decides a head that is read: its own reasons, and what each address says
pub ruleset head_reading = (reads_1, reads_2, reads_3, reads_4, reads_7, reads_head, address_refused, accepted_address, refused_address)

-- what an accepted head says
pub head_says : (protocol : ℕ) (frame : List ℕ) (head : Head) → read_head protocol frame ≡ accepted head → HeadSays protocol frame head
unfolding head_checks
head_says protocol frame head e =
    let all = accepted_only_if (head_checks protocol frame) (head_of frame) head e in
    record {
      long = grind arith;
      short = grind arith;
      destination = grind arith;
      source = grind arith;
      controlled = grind arith;
      of_protocol = grind arith;
      is = all.1;
    }
