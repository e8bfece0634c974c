-- Frames taken in (01, "Reception" and "Numbered reasons"), by computation: where a piece is put, what it stores, and which reason
-- comes first.
-- Assumes nothing.
use mathlib.Core.Path.{◌≡◌, refl}
use mathlib.Core.List.{[], ◌∷◌, ◌++◌}
use lib.ListN.{set, replicate}
use Rattle.reason.specs.Answer.{accepted, refused}
use Rattle.reason.specs.Order.{first_of}
use Rattle.octets.specs.Runs.{put_in}
use Rattle.remainder.specs.Remainder.{with_bit, with_bits, message_bits, remainder_of}
use Rattle.remainder.specs.Check.{check_right}
use Rattle.positions.specs.Spans.{every, count}
use Rattle.positions.specs.Map.{bit, held, bits_from, map_of}
use Rattle.ax25.specs.Address.{is_name, is_writable, address_at, well_formed}
use Rattle.ax25.specs.Head.{head_checks, head_of, head_bytes}
use Rattle.frame.specs.Piece.{piece_checks, piece_fields}
use Rattle.taking.specs.Taking.{taking_frame, taken_frame}
use Rattle.taking.specs.Examples.{frame_at, front, opened_twenty, longest_file}

pub record Cases : Type 0 where
  -- the data alone are stored, where the offset says, and counted
  pub front_counts_4 : taking_frame opened_twenty front ≡ accepted 4
  pub front_map : (taken_frame opened_twenty front).map ≡ 0x0F ∷ 0x00 ∷ 0x00 ∷ []
  pub front_buffer : (taken_frame opened_twenty front).buffer ≡ 0x41 ∷ 0x42 ∷ 0x43 ∷ 0x44 ∷ [] ++ replicate 16 0x00
  -- the last position, and the offset's three bytes
  pub last_position : taking_frame longest_file (frame_at 32767 (0x41 ∷ [])) ≡ accepted 1
  pub at_65536 : taking_frame longest_file (frame_at 65536 (0x41 ∷ [])) ≡ refused 10
  -- a damaged frame, and one that differs from what is held, change nothing
  pub damaged : taking_frame opened_twenty (set front 25 0x00) ≡ refused 6
  pub damaged_leaves : taken_frame opened_twenty (set front 25 0x00) ≡ opened_twenty
  pub differing : taking_frame (taken_frame opened_twenty front) (frame_at 3 (0x45 ∷ 0x46 ∷ [])) ≡ refused 11
  -- the frame's reasons come before 7 (L), and that before 9
  pub frame_before_length : taking_frame (record { number = 7; length = 0; map = []; buffer = [] }) [] ≡ refused 1
  pub length_before_number : taking_frame (record { number = 8; length = 0; map = []; buffer = [] }) front ≡ refused 7

pub cases : Cases
unfolding first_of put_in with_bit with_bits message_bits remainder_of check_right is_name is_writable address_at well_formed head_checks head_of head_bytes piece_checks piece_fields every count bit held bits_from map_of taking_frame
cases = record {
  front_counts_4 = refl;
  front_map = refl;
  front_buffer = refl;
  last_position = refl;
  at_65536 = refl;
  damaged = refl;
  damaged_leaves = refl;
  differing = refl;
  frame_before_length = refl;
  length_before_number = refl;
}
