-- What an accepted request says (01, "Fill request"; demand 2): its fields and its holes are its bytes at their places, counted from
-- 0 in the whole frame.
-- Assumes nothing.
use Rattle.std.specs.Prelude.{◌≡◌, true, List, ℕ, ◌+◌, ◌*◌, ◌<◌, length}
use Rattle.octets.specs.Numbers.{byte_at, number_at}
use Rattle.ax25.specs.Information.{file_protocol}
use Rattle.ax25.specs.Says.{HeadSays}
use Rattle.request.specs.declared.Request.{Request}
use Rattle.request.specs.Request.{flags_of, block_size, holes_of_kind, frame_length, holes_right}
use Rattle.request.specs.Reading.{hole_at, holes_of}

-- The flags are those of what it asks for, the block size is 244, nothing is left over behind its holes, a request for the start has
-- none and a list 1 to 49, each is offset (3) and length (2), and they ascend as 01 asks.
pub record RequestSays (frame : List ℕ) (r : Request) : Type 0 where
  pub head : HeadSays file_protocol frame r.head
  pub flags : byte_at frame 16 ≡ flags_of r.asks
  pub number : r.number ≡ number_at 4 frame 17
  pub block : number_at 2 frame 21 ≡ block_size
  pub size : length frame ≡ frame_length r.count
  pub as_many : holes_of_kind r.asks r.count ≡ true
  pub each : (i : ℕ) → i < r.count → hole_at frame i ≡ record { start = number_at 3 frame (23 + i * 5); length = number_at 2 frame (26 + i * 5) }
  pub right : holes_right 0 (holes_of frame) ≡ true
