-- A request that is made is read as that request, with its holes, and every accepted frame is one that is made so (demand 2).
-- Assumes nothing.
use mathlib.Core.Path.{◌≡◌, refl, sym, ap, ap₂, ◌∙◌}
use mathlib.Core.Bool.{Bool, true, cond, ◌&&◌}
use mathlib.Core.Logic.{◌⊎◌, inl, inr}
use mathlib.Core.List.{List, [], ◌∷◌, ◌++◌, append_assoc}
use Prim.Native.Nat.{ℕ, zero, suc, ◌+◌, ◌*◌, ◌^◌, ◌≤◌, ◌<◌}
use native.Mathlib.Omega.{arith}
use lib.Dec.{leb, ltb, eqb}
use lib.ListN.{length, get_or, take, drop, length-append, take-append-drop, drop_of_length-le, get_or-eq_default}
use lib.Seq.{drop-cons, drop-drop, get_or-drop}
use borrow.Author.Tests.{lt-ltb, le-ltb, leb-true, eqb-true}
use Rattle.reason.specs.Answer.{Answer, accepted}
use Rattle.reason.specs.Order.{first_of}
use Rattle.reason.proofs.Bools.{and_left, and_right, and_both, le_or_lt}
use Rattle.reason.proofs.OrderLaws.{accepted_then}
use Rattle.octets.specs.Lists.{Each}
use Rattle.octets.specs.Numbers.{byte_at, number_at, bytes_of, AllBytes}
use Rattle.octets.specs.Values.{values_from}
use Rattle.octets.proofs.NumberLaws.{number_behind, number_of_bytes, number_below, bytes_back}
use Rattle.octets.proofs.ValueLaws.{value_at, values_long}
use Rattle.ax25.specs.declared.Head.{Head}
use Rattle.ax25.specs.declared.Role.TheVariants.{Destination, Source}
use Rattle.ax25.specs.Head.{head_length, head_bytes, head_checks, head_of, read_head}
use Rattle.ax25.specs.Information.{file_protocol, information_of}
use Rattle.ax25.proofs.SpellingLaws.{formed_is_writable}
use Rattle.ax25.proofs.HeadLaws.{head_says}
use Rattle.ax25.proofs.RoundTrip.{head_before_information, read_head_is_written}
use Rattle.holes.specs.declared.Hole.{Hole}
use Rattle.holes.specs.EveryHole.{end_of}
use Rattle.request.specs.declared.Asks.{Asks}
use Rattle.request.specs.declared.Asks.TheVariants.{Start, Holes}
use Rattle.request.specs.declared.Request.{Request}
use Rattle.request.specs.Request.{flags_of, block_size, holes_of_kind, before_holes, bytes_per_hole, request_before, hole_bytes, holes_bytes, information, request_frame, hole_right, holes_right}
use Rattle.request.specs.Reading.{flags_allowed, asks_by, count_in, odd_bytes, count_right, hole_spelled, hole_in, holes_in, request_checks, request_fields, request_of, read_request, no_hole, hole_read, hole_at, holes_read, holes_of}
use Rattle.request.specs.Making.{MakeableRequest}
use Rattle.request.proofs.ReadingLaws.{most_of_kind, reads_request}
use Rattle.request.proofs.WritingLaws.{holes_long}
use Rattle.request.proofs.Says.{asked_flags, count_exact, layers, said, long, flagged, sized, right, counted, holes_are_in}

-- ---- holes as bytes
-- offset and length fit their bytes
abbrev Fits : Hole → Type 0
Fits hole = (hole.start < 256 ^ 3) × (hole.length < 256 ^ 2)

right_fits : (place : ℕ) (holes : List Hole) → holes_right place holes ≡ true → Each Fits holes
unfolding holes_right
right_fits place [] e = tt
right_fits place (hole ∷ holes) e =
    let here = and_left (hole_right place hole) (holes_right (suc (end_of hole)) holes) e in
    let end = leb-true (end_of hole) 32768 (and_right (leb place hole.start && leb 1 hole.length) (leb (end_of hole) 32768) here) in
    ((omega arith, omega arith), right_fits (suc (end_of hole)) holes (and_right (hole_right place hole) (holes_right (suc (end_of hole)) holes) e))

spelled_is : (s : List ℕ) (at : ℕ) (hole : Hole) → number_at 3 s at ≡ hole.start → number_at 2 s (at + 3) ≡ hole.length → hole_spelled s at ≡ hole
unfolding hole_spelled
spelled_is s at hole d e = ap₂ (λ (x y : ℕ). record { start = x; length = y }) d e

-- holes that are spelled behind a list are read there
spelled_are_read : (a : List ℕ) (holes : List Hole) (i : ℕ) → length a ≡ before_holes + i * bytes_per_hole → Each Fits holes
    → values_from (hole_in (a ++ holes_bytes holes)) i (length holes) ≡ holes
spelled_are_read a [] i size fit = refl
spelled_are_read a (hole ∷ holes) i size fit =
    let rest = holes_bytes holes in
    let t = hole_bytes hole ++ rest in
    let at : before_holes + i * bytes_per_hole ≡ length a + 0 = omega arith in
    let then : before_holes + i * bytes_per_hole + 3 ≡ length a + 3 = omega arith in
    let start : number_at 3 (a ++ t) (before_holes + i * bytes_per_hole) ≡ hole.start =
    ap (number_at 3 (a ++ t)) at ∙ number_behind 3 a t 0 ∙ number_of_bytes 3 hole.start fit.0.0 in
    let size_of : number_at 2 (a ++ t) (before_holes + i * bytes_per_hole + 3) ≡ hole.length =
    ap (number_at 2 (a ++ t)) then ∙ number_behind 2 a t 3 ∙ number_of_bytes 2 hole.length fit.0.1 in
    ap₂ (λ (x : Hole) (xs : List Hole). x ∷ xs)
    (spelled_is (a ++ t) (before_holes + i * bytes_per_hole) hole start size_of)
    (ap (λ (l : List ℕ). values_from (hole_in l) (suc i) (length holes)) (sym (append_assoc a (hole_bytes hole) rest))
    ∙ spelled_are_read (a ++ hole_bytes hole) holes (suc i) (omega (arith, length-append a (hole_bytes hole))) fit.1)

-- the holes of a list, from one on, are spelled by its bytes
read_are_spelled : (s : List ℕ) (i n : ℕ) → AllBytes s → length s ≡ before_holes + (i + n) * bytes_per_hole
    → holes_bytes (values_from (hole_in s) i n) ≡ drop (before_holes + i * bytes_per_hole) s
unfolding hole_spelled
read_are_spelled s i zero a size = let past : length s ≤ before_holes + i * bytes_per_hole = omega arith in sym (drop_of_length-le s past)
read_are_spelled s i (suc n) a size =
    let at = before_holes + i * bytes_per_hole in
    let start : bytes_of 3 (number_at 3 s at) ≡ take 3 (drop at s) = bytes_back 3 s at a (omega arith) in
    let long : bytes_of 2 (number_at 2 s (at + 3)) ≡ take 2 (drop (at + 3) s) = bytes_back 2 s (at + 3) a (omega arith) in
    let next : before_holes + suc i * bytes_per_hole ≡ at + 3 + 2 = omega arith in
    let two : take 2 (drop (at + 3) s) ++ drop (at + 3 + 2) s ≡ drop (at + 3) s =
    ap (λ (l : List ℕ). take 2 (drop (at + 3) s) ++ l) (sym (drop-drop 2 (at + 3) s)) ∙ take-append-drop 2 (drop (at + 3) s) in
    let three : take 3 (drop at s) ++ drop (at + 3) s ≡ drop at s =
    ap (λ (l : List ℕ). take 3 (drop at s) ++ l) (sym (drop-drop 3 at s)) ∙ take-append-drop 3 (drop at s) in
    ap₂ (λ (x y : List ℕ). (x ++ y) ++ holes_bytes (values_from (hole_in s) (suc i) n)) start long
    ∙ ap (λ (l : List ℕ). (take 3 (drop at s) ++ take 2 (drop (at + 3) s)) ++ l)
    (read_are_spelled s (suc i) n a (omega arith) ∙ ap (λ (k : ℕ). drop k s) next)
    ∙ append_assoc (take 3 (drop at s)) (take 2 (drop (at + 3) s)) (drop (at + 3 + 2) s)
    ∙ ap (λ (l : List ℕ). take 3 (drop at s) ++ l) two
    ∙ three

-- a hole by its index is the one that stands there in the list of all
by_index : (f : ℕ → Hole) (i n : ℕ) → cond (ltb i n) (f i) no_hole ≡ get_or (values_from f 0 n) i no_hole
by_index f i n = by (le_or_lt n i)
  where
    by : (n ≤ i) ⊎ (i < n) → cond (ltb i n) (f i) no_hole ≡ get_or (values_from f 0 n) i no_hole
    by (inl h) =
        ap (λ (b : Bool). cond b (f i) no_hole) (le-ltb i n h) ∙ sym (get_or-eq_default (values_from f 0 n) no_hole (rw (values_long f 0 n) h))
    by (inr h) = ap (λ (b : Bool). cond b (f i) no_hole) (lt-ltb i n h) ∙ sym (value_at f no_hole n i h)

-- ---- flags
flags_allowed_lem : (asks : Asks) → flags_allowed (flags_of asks) ≡ true
flags_allowed_lem Start = refl
flags_allowed_lem Holes = refl

flags_ask : (asks : Asks) → asks_by (flags_of asks) ≡ asks
flags_ask Start = refl
flags_ask Holes = refl

-- ---- a request that is made
count_by : (s : List ℕ) (asks : Asks) (n : ℕ) → byte_at s 0 ≡ flags_of asks → length s ≡ before_holes + n * bytes_per_hole → holes_of_kind asks n ≡ true
    → (count_in s ≡ n) × (count_right s ≡ true)
count_by s asks n f size e =
    let count : count_in s ≡ n = omega arith in
    let odd : odd_bytes s ≡ 0 = omega arith in
    (count, rw (f, asks_back asks, odd, count) e)
  where
    asks_back : (a : Asks) → asks_by (flags_of a) ≡ a
    asks_back Start = refl
    asks_back Holes = refl

module _ (head : Head) (asks : Asks) (number : ℕ) (holes : List Hole) (m : MakeableRequest head asks number holes) where
  abbrev Info : List ℕ
  Info = information asks number holes

  abbrev Frame : List ℕ
  Frame = request_frame head asks number holes

  info_long : length Info ≡ before_holes + length holes * bytes_per_hole
  info_long = omega (arith, length-append (request_before asks number) (holes_bytes holes), holes_long holes)

  counts : (count_in Info ≡ length holes) × (count_right Info ≡ true)
  counts = count_by Info asks (length holes) refl info_long m.as_many

  holes_are : holes_in Info ≡ holes
  holes_are =
      ap (values_from (hole_in Info) 0) counts.0
      ∙ spelled_are_read (request_before asks number) holes 0 refl (right_fits 0 holes m.right)

  behind : information_of Frame ≡ Info
  unfolding request_frame head_bytes
  behind = refl

  head_is_read : read_head file_protocol Frame ≡ accepted head
  unfolding request_frame
  head_is_read =
      head_before_information head.destination head.source file_protocol Info m.destination m.source
      (omega (arith, info_long, most_of_kind asks (length holes) m.as_many))

  -- what the information says behind any head
  abbrev Said : ℕ → Request
  Said n = record { head = head; asks = asks; number = number; count = n }

  info_says : request_fields head Info ≡ Said (length holes)
  unfolding request_fields
  info_says =
      ap₂ (λ (x : Asks) (y : ℕ). record { head = head; asks = x; number = y; count = count_in Info }) (flags_ask asks)
      (number_of_bytes 4 number m.number_fits)
      ∙ ap Said counts.0

  -- A request that is made is read as that request.
  pub made_request_is_read : read_request Frame ≡ accepted (Said (length holes))
  unfolding read_request
  made_request_is_read =
      accepted_then (head_checks file_protocol Frame) (request_checks (information_of Frame)) (head_of Frame) head (request_of Frame) head_is_read
      ∙ ap₂ (λ (s : List ℕ) (h : Head). first_of (request_checks s) (request_fields h s)) behind (sym (head_says file_protocol Frame head head_is_read).is)
      ∙ reads_request Info (request_fields head Info) (omega (arith, info_long)) (flags_allowed_lem asks)
      (and_both (eqb (number_at 2 Info 5) block_size) (count_right Info) refl counts.1) (ap (holes_right 0) holes_are ∙ m.right)
      ∙ ap accepted info_says

  -- Its holes are read, all of them ..
  pub made_holes_are_read : holes_of Frame ≡ holes
  made_holes_are_read =
      ap (λ (r : Answer Request). holes_read r Frame) made_request_is_read
      ∙ ap (λ (s : List ℕ). values_from (hole_in s) 0 (length holes)) behind
      ∙ spelled_are_read (request_before asks number) holes 0 refl (right_fits 0 holes m.right)

  -- .. and each by its index, and none beyond
  pub made_hole_is_read : (index : ℕ) → hole_at Frame index ≡ get_or holes index no_hole
  made_hole_is_read index =
      ap (λ (r : Answer Request). hole_read r Frame index) made_request_is_read
      ∙ by_index (hole_in (information_of Frame)) index (length holes)
      ∙ ap (λ (l : List Hole). get_or l index no_hole) (sym (ap (λ (r : Answer Request). holes_read r Frame) made_request_is_read) ∙ made_holes_are_read)

-- ---- an accepted frame
-- the seven bytes before the holes, and the rest
seven : (s : List ℕ) → AllBytes s → before_holes ≤ length s → flags_allowed (byte_at s 0) ≡ true → number_at 2 s 5 ≡ block_size
    → request_before (asks_by (byte_at s 0)) (number_at 4 s 1) ++ drop before_holes s ≡ s
seven s a l f size =
    let number : bytes_of 4 (number_at 4 s 1) ≡ take 4 (drop 1 s) = bytes_back 4 s 1 a (omega arith) in
    let block : bytes_of 2 block_size ≡ take 2 (drop 5 s) = ap (bytes_of 2) (sym size) ∙ bytes_back 2 s 5 a (omega arith) in
    let five : take 2 (drop 5 s) ++ drop 7 s ≡ drop 5 s = ap (λ (r : List ℕ). take 2 (drop 5 s) ++ r) (sym (drop-drop 2 5 s))
    ∙ take-append-drop 2 (drop 5 s) in
    let one : take 4 (drop 1 s) ++ drop 5 s ≡ drop 1 s = ap (λ (r : List ℕ). take 4 (drop 1 s) ++ r) (sym (drop-drop 4 1 s))
    ∙ take-append-drop 4 (drop 1 s) in
    ap₂ (λ (x y : List ℕ). (flags_of (asks_by (byte_at s 0)) ∷ (x ++ y)) ++ drop 7 s) number block
    ∙ ap₂ (λ (b : ℕ) (r : List ℕ). b ∷ r) (asked_flags (byte_at s 0) f)
    (append_assoc (take 4 (drop 1 s)) (take 2 (drop 5 s)) (drop 7 s) ∙ ap (λ (r : List ℕ). take 4 (drop 1 s) ++ r) five ∙ one)
    ∙ sym (drop-cons s 0 0 (omega arith))

module _ (frame : List ℕ) (bytes : AllBytes frame) (r : Request) (read : read_request frame ≡ accepted r) where
  abbrev S : List ℕ
  S = information_of frame

  byte_of : AllBytes S
  byte_of i = rw (get_or-drop head_length frame i 0) (bytes (head_length + i))

  information_is : information (asks_by (byte_at S 0)) (number_at 4 S 1) (holes_in S) ≡ S
  information_is =
      ap (λ (l : List ℕ). request_before (asks_by (byte_at S 0)) (number_at 4 S 1) ++ l)
      (read_are_spelled S 0 (count_in S) byte_of (count_exact S (long frame r read) (counted frame r read)).0)
      ∙ seven S byte_of (long frame r read) (flagged frame r read) (eqb-true (number_at 2 S 5) block_size (and_left (eqb (number_at 2 S 5) block_size) (count_right S) (sized frame r read)))

  -- An accepted frame is the frame of its fields and of its holes ..
  pub accepted_request_is_made : request_frame r.head r.asks r.number (holes_of frame) ≡ frame
  unfolding request_frame request_fields
  accepted_request_is_made =
      ap₂ (λ (x : Request) (holes : List Hole). head_bytes x.head.destination x.head.source file_protocol ++ information x.asks x.number holes) (said frame r read) (holes_are_in frame r read)
      ∙ ap₂ (λ (x y : List ℕ). x ++ y) (sym (read_head_is_written file_protocol frame (head_of frame) bytes (layers frame r read).0).0) information_is
      ∙ take-append-drop head_length frame

  -- .. and these are a request that can be made.
  pub accepted_request_can_be_made : MakeableRequest r.head r.asks r.number (holes_of frame)
  unfolding request_fields head_of
  accepted_request_can_be_made =
      let h = head_says file_protocol frame (head_of frame) (layers frame r read).0 in
      rw ((said frame r read), (holes_are_in frame r read)) (record {
        destination = formed_is_writable Destination frame 0 h.destination bytes;
        source = formed_is_writable Source frame 7 h.source bytes;
        number_fits = number_below 4 S 1 byte_of;
        as_many = ap (holes_of_kind (asks_by (byte_at S 0))) (values_long (hole_in S) 0 (count_in S)) ∙ (count_exact S (long frame r read) (counted frame r read)).1;
        right = right frame r read;
      })

-- Two frames that are accepted with the same fields and the same holes are the same frame.
pub request_has_one_frame : (f g : List ℕ) → AllBytes f → AllBytes g → (r : Request) → read_request f ≡ accepted r → read_request g ≡ accepted r
    → holes_of f ≡ holes_of g
    → f ≡ g
request_has_one_frame f g bf bg r df dg same =
    sym (accepted_request_is_made f bf r df)
    ∙ ap (request_frame r.head r.asks r.number) same
    ∙ accepted_request_is_made g bg r dg
