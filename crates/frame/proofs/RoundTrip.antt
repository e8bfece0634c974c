-- A piece as a satellite makes it is read as that piece, its bytes are handed out, and every accepted piece is one that is made
-- so (demand 2).
-- Assumes nothing.
use mathlib.Core.Path.{◌≡◌, refl, sym, ap, ap₂, ◌∙◌}
use mathlib.Core.Bool.{true}
use mathlib.Core.List.{List, [], ◌∷◌, ◌++◌, append_assoc}
use Prim.Native.Nat.{ℕ, suc, ◌+◌, ◌-◌, ◌*◌, ◌/◌, ◌%◌, ◌≤◌, ◌<◌}
use native.Mathlib.Numerals.{add-one}
use native.Mathlib.Omega.{arith}
use lib.ListN.{length, get_or, take, drop, length-append, length-drop, take-append-drop, drop_of_length-le}
use lib.Seq.{take-append_seam, drop-cons, drop-drop, get_or-drop}
use Rattle.reason.specs.Answer.{Answer, accepted}
use Rattle.reason.specs.Order.{first_of}
use Rattle.reason.proofs.OrderLaws.{accepted_then}
use Rattle.octets.specs.Numbers.{byte_at, number_at, bytes_of, AllBytes}
use Rattle.octets.proofs.NumberLaws.{number_of_bytes, number_below, bytes_back}
use Rattle.remainder.specs.Remainder.{remainder_of}
use Rattle.remainder.specs.Check.{check_right, with_check}
use Rattle.remainder.proofs.CheckLaws.{right_check, right_only_if}
use Rattle.ax25.specs.declared.Role.TheVariants.{Destination, Source}
use Rattle.ax25.specs.declared.Head.{Head}
use Rattle.ax25.specs.Address.{is_writable}
use Rattle.ax25.specs.Head.{head_bytes, head_checks, head_of, read_head}
use Rattle.ax25.proofs.SpellingLaws.{formed_is_writable}
use Rattle.ax25.proofs.HeadLaws.{head_says}
use Rattle.ax25.proofs.RoundTrip.{head_before_information, read_head_is_written}
use Rattle.frame.specs.declared.Piece.{Piece}
use Rattle.ax25.specs.Information.{file_protocol, information_of}
use Rattle.frame.specs.Piece.{piece_flags, piece_checks, piece_fields, piece_of, read_piece, data_part, piece_bytes_read, piece_bytes}
use Rattle.frame.specs.Making.{piece_before, piece_information, piece_frame, MakeablePiece}
use Rattle.frame.proofs.PieceLaws.{reads_piece}
use Rattle.frame.specs.Says.{PieceSays}
use Rattle.frame.proofs.Says.{piece_says}

module _ (p : Piece) (bytes : List ℕ) (m : MakeablePiece p bytes) where
  abbrev Info : List ℕ
  Info = piece_information p bytes

  abbrev Check : List ℕ
  Check = remainder_of (piece_before p ++ bytes) / 256 ∷ remainder_of (piece_before p ++ bytes) % 256 ∷ []

  info_length : length Info ≡ 11 + length bytes
  info_length = omega (arith, length-append (piece_before p ++ bytes) Check, length-append (piece_before p) bytes)

  -- what the information says behind any head
  made_by : Head → ℕ → ℕ → Piece
  made_by h number offset = record { head = h; number = number; kind = p.kind; offset = offset }

  info_says : (h : Head) → piece_fields h Info ≡ made_by h p.number p.offset
  unfolding piece_fields made_by
  info_says h = ap₂ (made_by h) (number_of_bytes 4 p.number m.number) (number_of_bytes 3 p.offset m.offset)

  -- the head is read, and what follows it is the information
  abbrev Frame : List ℕ
  Frame = piece_frame p bytes

  head_is_read : read_head file_protocol Frame ≡ accepted p.head
  head_is_read = head_before_information p.head.destination p.head.source file_protocol Info m.destination m.source (omega (arith, info_length, m.most))

  behind : information_of Frame ≡ Info
  unfolding head_bytes
  behind = refl

  pub made_piece_is_read : read_piece Frame ≡ accepted p
  unfolding read_piece made_by
  made_piece_is_read =
      accepted_then (head_checks file_protocol Frame) (piece_checks (information_of Frame)) (head_of Frame) p.head (piece_of Frame) head_is_read
      ∙ ap₂ (λ (s : List ℕ) (h : Head). first_of (piece_checks s) (piece_fields h s)) behind (sym (head_says file_protocol Frame p.head head_is_read).is)
      ∙ reads_piece Info (piece_fields p.head Info) (omega (arith, info_length)) (right_check (piece_before p ++ bytes)) refl (λ e. absurd (omega (arith, info_length, m.some)))
      ∙ ap accepted (info_says p.head)

  -- and the bytes are handed out
  data_is : data_part (information_of Frame) ≡ bytes
  data_is =
      let size : length Info - 2 - 9 ≡ length bytes = omega (arith, info_length) in
      ap data_part behind ∙ ap (λ (n : ℕ). take n (bytes ++ Check)) size ∙ take-append_seam bytes Check

  pub made_piece_is_handed_out : piece_bytes Frame ≡ bytes
  made_piece_is_handed_out = ap (λ (r : Answer Piece). piece_bytes_read r Frame) made_piece_is_read ∙ data_is

-- The other way: the parts of an accepted piece's information.

-- a list and its last two elements
last_two : (l : List ℕ) (n : ℕ) → length l ≡ n + 2 → take n l ++ get_or l n 0 ∷ get_or l (n + 1) 0 ∷ [] ≡ l
last_two l n h =
    let one : drop n l ≡ get_or l n 0 ∷ drop (suc n) l = drop-cons l n 0 (omega arith) in
    let two : drop (suc n) l ≡ get_or l (suc n) 0 ∷ drop (suc (suc n)) l = drop-cons l (suc n) 0 (omega arith) in
    let past : length l ≤ suc (suc n) = omega arith in
    let end : drop (suc (suc n)) l ≡ [] = drop_of_length-le l past in
    let tail : drop n l ≡ get_or l n 0 ∷ get_or l (n + 1) 0 ∷ [] =
    one ∙ ap (λ (r : List ℕ). get_or l n 0 ∷ r) (two ∙ ap₂ (λ (k : ℕ) (r : List ℕ). get_or l k 0 ∷ r) (sym (add-one n)) end) in
    ap (λ (r : List ℕ). take n l ++ r) (sym tail) ∙ take-append-drop n l

-- the nine header bytes, and the rest
nine : (s : List ℕ) (h : Head) → AllBytes s → 9 ≤ length s → byte_at s 0 ≡ piece_flags → piece_before (piece_fields h s) ++ drop 9 s ≡ s
unfolding piece_fields
nine s h a l f =
    let number : bytes_of 4 (number_at 4 s 1) ≡ take 4 (drop 1 s) = bytes_back 4 s 1 a (omega arith) in
    let offset : bytes_of 3 (number_at 3 s 6) ≡ take 3 (drop 6 s) = bytes_back 3 s 6 a (omega arith) in
    let six : take 3 (drop 6 s) ++ drop 9 s ≡ drop 6 s = ap (λ (r : List ℕ). take 3 (drop 6 s) ++ r) (sym (drop-drop 3 6 s)) ∙ take-append-drop 3 (drop 6 s) in
    let five : byte_at s 5 ∷ (take 3 (drop 6 s) ++ drop 9 s) ≡ drop 5 s = ap (λ (r : List ℕ). byte_at s 5 ∷ r) six ∙ sym (drop-cons s 5 0 (omega arith)) in
    let one : take 4 (drop 1 s) ++ (byte_at s 5 ∷ (take 3 (drop 6 s) ++ drop 9 s)) ≡ drop 1 s =
    ap (λ (r : List ℕ). take 4 (drop 1 s) ++ r) (five ∙ sym (drop-drop 4 1 s)) ∙ take-append-drop 4 (drop 1 s) in
    ap₂ (λ (x y : List ℕ). (piece_flags ∷ (x ++ byte_at s 5 ∷ y)) ++ drop 9 s) number offset
    ∙ ap (λ (r : List ℕ). piece_flags ∷ r) (append_assoc (take 4 (drop 1 s)) (byte_at s 5 ∷ take 3 (drop 6 s)) (drop 9 s) ∙ one)
    ∙ ap (λ (b : ℕ). b ∷ drop 1 s) (sym f)
    ∙ sym (drop-cons s 0 0 (omega arith))

-- information that two check bytes end, in terms of what stands before them
checked_by : (s : List ℕ) (high low : ℕ) → high < 256 → low < 256 → check_right (s ++ high ∷ low ∷ []) ≡ true
    → with_check s ≡ s ++ high ∷ low ∷ []
checked_by s high low h l e =
    let r : remainder_of s ≡ high * 256 + low = right_only_if s high low e in
    let x : remainder_of s / 256 ≡ high = omega arith in
    let y : remainder_of s % 256 ≡ low = omega arith in
    ap₂ (λ (a b : ℕ). s ++ a ∷ b ∷ []) x y

module _ (frame : List ℕ) (p : Piece) (a : AllBytes frame) (e : read_piece frame ≡ accepted p) where
  abbrev Said : PieceSays frame p
  Said = piece_says frame p e

  abbrev Rest : List ℕ
  Rest = drop 9 (information_of frame)

  abbrev N : ℕ
  N = length (information_of frame) - 2 - 9

  piece_of_information : AllBytes (information_of frame)
  piece_of_information i = omega (arith, get_or-drop 16 frame i 0, a (16 + i))

  before_and_rest : piece_before p ++ Rest ≡ information_of frame
  before_and_rest =
      ap (λ (q : Piece). piece_before q ++ Rest) Said.is
      ∙ nine (information_of frame) (head_of frame) piece_of_information (omega (arith, length-drop 16 frame, Said.size)) (get_or-drop 16 frame 0 0 ∙ Said.flags)

  bytes_and_check : piece_bytes frame ++ get_or Rest N 0 ∷ get_or Rest (N + 1) 0 ∷ [] ≡ Rest
  bytes_and_check =
      ap (λ (b : List ℕ). b ++ get_or Rest N 0 ∷ get_or Rest (N + 1) 0 ∷ []) Said.bytes
      ∙ last_two Rest N (omega (arith, length-drop 9 (information_of frame), length-drop 16 frame, Said.size, Said.some))

  all_parts : (piece_before p ++ piece_bytes frame) ++ get_or Rest N 0 ∷ get_or Rest (N + 1) 0 ∷ [] ≡ information_of frame
  all_parts =
      append_assoc (piece_before p) (piece_bytes frame) (get_or Rest N 0 ∷ get_or Rest (N + 1) 0 ∷ [])
      ∙ ap (λ (r : List ℕ). piece_before p ++ r) bytes_and_check
      ∙ before_and_rest

  small : (k : ℕ) → get_or Rest k 0 < 256
  small k = omega (arith, get_or-drop 9 (information_of frame) k 0, piece_of_information (9 + k))

  information_is : piece_information p (piece_bytes frame) ≡ information_of frame
  information_is =
      checked_by (piece_before p ++ piece_bytes frame) (get_or Rest N 0) (get_or Rest (N + 1) 0) (small N) (small (N + 1)) (ap check_right all_parts ∙ Said.checked)
      ∙ all_parts

  -- an accepted frame of bytes is the frame of its fields and of the bytes that it hands out: so it has one meaning
  pub accepted_piece_is_made : piece_frame p (piece_bytes frame) ≡ frame
  accepted_piece_is_made =
      ap₂ (λ (h s : List ℕ). h ++ s) (sym (read_head_is_written file_protocol frame p.head a Said.head_read).0) information_is ∙ take-append-drop 16 frame

  -- .. and they are a piece that can be made: the accepted frames are exactly those that a satellite makes
  pub accepted_piece_can_be_made : MakeablePiece p (piece_bytes frame)
  unfolding head_of
  accepted_piece_can_be_made =
      let head = Said.head in
      record {
        destination = ap (λ (h : Head). is_writable h.destination) head.is ∙ formed_is_writable Destination frame 0 head.destination a;
        source = ap (λ (h : Head). is_writable h.source) head.is ∙ formed_is_writable Source frame 7 head.source a;
        number = omega (arith, Said.number, number_below 4 frame 17 a);
        kind = omega (arith, Said.kind, a 21);
        offset = omega (arith, Said.offset, number_below 3 frame 22 a);
        some = Said.some;
        most = Said.most;
      }
