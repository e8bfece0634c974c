-- Laws of a run written into a list: what stands where, the length stays, and two neighbours are one run.
-- Assumes nothing.
use mathlib.Core.Path.{◌≡◌, refl, sym, ap, ap₂, ◌∙◌}
use mathlib.Core.Bool.{Bool, true, false, cond}
use mathlib.Core.List.{List, [], ◌∷◌, ◌++◌, append_assoc}
use Prim.Native.Nat.{ℕ, suc, ◌+◌, ◌≤◌, ◌<◌}
use native.Mathlib.Nat.{add_assoc, add-suc, suc-add}
use native.Mathlib.Numerals.{add-one}
use native.Mathlib.Omega.{arith}
use lib.ListN.{length, get_or, set, take, drop, length-append, length-drop, take-append-drop, get_or-append}
use lib.Seq.{length-take-le, set_split, set-append_left, take-set-lt, take-suc-set, append_snoc, take_at, drop-drop, drop-append-add, get_or-append-add, get_or-take, get_or-drop, ext_get_or}
use borrow.Author.Tests.{le-leb, lt-leb}
use Rattle.octets.specs.Runs.{has_room, put_in, Put}
use Rattle.octets.specs.Values.{values_from}
use Rattle.octets.proofs.ValueLaws.{values_long, values_join}

-- what a caller learns of `put`, from the room and from its answer
module _ (out : List ℕ) (at : ℕ) (run : List ℕ) (r : Bool) (left : List ℕ) (p : Put out at run r left) where
  pub put_by : (b : Bool) → has_room out at run ≡ b → (r ≡ b) × (left ≡ cond b (put_in out at run) out)
  put_by b e = (p.answer ∙ e, p.bytes ∙ ap (λ (x : Bool). cond x (put_in out at run) out) e)

  -- with room, the run is written; without, nothing changes
  pub put_fits : at + length run ≤ length out → (r ≡ true) × (left ≡ put_in out at run)
  put_fits h = put_by true (le-leb (at + length run) (length out) h)

  pub put_short : length out < at + length run → (r ≡ false) × (left ≡ out)
  put_short h = put_by false (lt-leb (at + length run) (length out) h)

  -- its answer says whether there was room
  pub put_told : (b : Bool) → r ≡ b → (has_room out at run ≡ b) × (left ≡ cond b (put_in out at run) out)
  put_told b e = let f : has_room out at run ≡ b = sym p.answer ∙ e in (f, (put_by b f).1)

module _ (out : List ℕ) (at : ℕ) (run : List ℕ) (h : at + length run ≤ length out) where
  -- what stands before the end of the run
  front : List ℕ
  front = take at out ++ run

  front_length : length front ≡ at + length run
  unfolding front
  front_length = length-append (take at out) run ∙ ap (λ (n : ℕ). n + length run) (length-take-le at out (omega arith))

  pub put_length : length (put_in out at run) ≡ length out
  unfolding put_in front
  put_length = length-append front (drop (at + length run) out) ∙ ap₂ (λ (x y : ℕ). x + y) front_length (length-drop (at + length run) out) ∙ (omega arith)

  -- the front and the rest, as lists
  pub put_take : take (at + length run) (put_in out at run) ≡ take at out ++ run
  unfolding put_in front
  put_take = take_at front (drop (at + length run) out) (at + length run) front_length

  pub put_drop : (k : ℕ) → drop (at + length run + k) (put_in out at run) ≡ drop (at + length run + k) out
  unfolding put_in front
  put_drop k =
      ap (λ (n : ℕ). drop (n + k) (front ++ drop (at + length run) out)) (sym front_length)
      ∙ drop-append-add front (drop (at + length run) out) k
      ∙ drop-drop k (at + length run) out

  -- the byte at each place: before the run, in it, and after it
  pub put_before : (i : ℕ) → i < at → get_or (put_in out at run) i 0 ≡ get_or out i 0
  unfolding put_in front
  put_before i l =
      get_or-append front (drop (at + length run) out) 0 i (omega (arith, front_length))
      ∙ get_or-append (take at out) run 0 i (omega (arith, length-take-le at out (omega arith)))
      ∙ get_or-take at out i 0 l

  pub put_within : (k : ℕ) → k < length run → get_or (put_in out at run) (at + k) 0 ≡ get_or run k 0
  unfolding put_in front
  put_within k l =
      get_or-append front (drop (at + length run) out) 0 (at + k) (omega (arith, front_length))
      ∙ ap (λ (n : ℕ). get_or (take at out ++ run) (n + k) 0) (sym (length-take-le at out (omega arith)))
      ∙ get_or-append-add (take at out) run k 0

  pub put_after : (k : ℕ) → get_or (put_in out at run) (at + length run + k) 0 ≡ get_or out (at + length run + k) 0
  unfolding put_in front
  put_after k =
      ap (λ (n : ℕ). get_or (front ++ drop (at + length run) out) (n + k) 0) (sym front_length)
      ∙ get_or-append-add front (drop (at + length run) out) k 0
      ∙ get_or-drop (at + length run) out k 0

-- what meets the promise of `put` where there is room: the run, copied over the part of the list that it has
pub put_copied : (out : List ℕ) (at k : ℕ) (run part : List ℕ) → at + length run ≤ length out → k ≡ length run → part ≡ run
    → Put out at run true (take at out ++ (part ++ drop k (drop at out)))
unfolding put_in
put_copied out at k run part h e d =
    let room : has_room out at run ≡ true = le-leb (at + length run) (length out) h in
    let bytes : take at out ++ (part ++ drop k (drop at out)) ≡ put_in out at run =
    ap₂ (λ (xs : List ℕ) (n : ℕ). take at out ++ (xs ++ drop n (drop at out))) d e
    ∙ ap (λ (xs : List ℕ). take at out ++ (run ++ xs)) (drop-drop (length run) at out)
    ∙ sym (append_assoc (take at out) run (drop (at + length run) out))
    in record { answer = sym room; bytes = bytes ∙ sym (ap (λ (b : Bool). cond b (put_in out at run) out) room) }

-- two runs, one after the other, are one run
pub put_put : (out : List ℕ) (at : ℕ) (a b : List ℕ) → at + length a + length b ≤ length out
    → put_in (put_in out at a) (at + length a) b ≡ put_in out at (a ++ b)
unfolding put_in
put_put out at a b h =
    ap₂ (λ (x y : List ℕ). x ++ b ++ y) (put_take out at a (omega arith)) (put_drop out at a (omega arith) (length b))
    ∙ ap₂ (λ (x : List ℕ) (n : ℕ). x ++ drop n out) (append_assoc (take at out) a b) (add_assoc at (length a) (length b) ∙ ap (λ (n : ℕ). at + n) (sym (length-append a b)))

-- .. as a caller of `put` meets it: what was written so far, and one more `put` right behind it
pub put_more : (out : List ℕ) (at : ℕ) (a b left : List ℕ) (r : Bool) (after : List ℕ) → left ≡ put_in out at a → Put left (at + length a) b r after
    → at + length a + length b ≤ length out → after ≡ put_in out at (a ++ b)
put_more out at a b left r after e p h =
    let size : length left ≡ length out = ap length e ∙ put_length out at a (omega arith) in
    (put_fits left (at + length a) b r after p (omega arith)).1 ∙ ap (λ (l : List ℕ). put_in l (at + length a) b) e ∙ put_put out at a b h

-- a part of a list is a run exactly if it has the run's bytes
pub part_is : (s : List ℕ) (at : ℕ) (run : List ℕ) → at + length run ≤ length s
    → ((k : ℕ) → k < length run → get_or s (at + k) 0 ≡ get_or run k 0) → take (length run) (drop at s) ≡ run
part_is s at run h e =
    let size : length (take (length run) (drop at s)) ≡ length run = length-take-le (length run) (drop at s) (simp length-drop (omega arith)) in
    ext_get_or 0 (take (length run) (drop at s)) run size (λ k l. get_or-take (length run) (drop at s) k 0 (omega arith) ∙ get_or-drop at s k 0 ∙ e k (omega arith))

-- a run that was written stands there
pub put_part : (out : List ℕ) (at : ℕ) (run : List ℕ) → at + length run ≤ length out → take (length run) (drop at (put_in out at run)) ≡ run
put_part out at run h = part_is (put_in out at run) at run (omega (arith, put_length out at run h)) (put_within out at run h)

-- a run that stands there already changes nothing
pub put_same : (out : List ℕ) (at : ℕ) (run : List ℕ) → take (length run) (drop at out) ≡ run → put_in out at run ≡ out
unfolding put_in
put_same out at run e =
    append_assoc (take at out) run (drop (at + length run) out)
    ∙ ap₂ (λ (x y : List ℕ). take at out ++ (x ++ y)) (sym e) (sym (drop-drop (length run) at out))
    ∙ ap (λ (l : List ℕ). take at out ++ l) (take-append-drop (length run) (drop at out))
    ∙ take-append-drop at out

-- a run of nothing changes nothing
pub put_nothing : (out : List ℕ) (at : ℕ) → put_in out at [] ≡ out
put_nothing out at = put_same out at [] refl

-- a byte that is stored is a run of one
pub put_one : (out : List ℕ) (at v : ℕ) → at < length out → set out at v ≡ put_in out at (v ∷ [])
unfolding put_in
put_one out at v h =
    set_split out at v h
    ∙ sym (append_snoc (take at out) v (drop (suc at) out))
    ∙ ap (λ (n : ℕ). take at out ++ (v ∷ []) ++ drop n out) (sym (add-one at))

-- a byte stored right before a run that was written is the longer run
pub put_front : (out : List ℕ) (at : ℕ) (run : List ℕ) (b : ℕ) → suc at + length run ≤ length out
    → set (put_in out (suc at) run) at b ≡ put_in out at (b ∷ run)
unfolding put_in
put_front out at run b h =
    let t = take (suc at) out in
    let long : length t ≡ suc at = length-take-le (suc at) out (omega arith) in
    set-append_left (t ++ run) (drop (suc at + length run) out) at b (omega (arith, length-append t run))
    ∙ ap (λ (l : List ℕ). l ++ drop (suc at + length run) out) (set-append_left t run at b (omega arith))
    ∙ ap (λ (l : List ℕ). l ++ run ++ drop (suc at + length run) out)
    (sym (take-set-lt (suc at) out at b (omega arith)) ∙ take-suc-set out at b (omega arith))
    ∙ ap₂ (λ (l : List ℕ) (n : ℕ). l ++ drop n out) (append_snoc (take at out) b run) (suc-add at (length run) ∙ sym (add-suc at (length run)))

-- the values of a rule, written behind those before them, are one run
pub put_values : (f : ℕ → ℕ) (out : List ℕ) (at i n k : ℕ) → at + n + k ≤ length out
    → put_in (put_in out at (values_from f i n)) (at + n) (values_from f (i + n) k) ≡ put_in out at (values_from f i (n + k))
put_values f out at i n k h =
    let a = values_long f i n in
    let b = values_long f (i + n) k in
    ap (λ (m : ℕ). put_in (put_in out at (values_from f i n)) (at + m) (values_from f (i + n) k)) (sym a)
    ∙ put_put out at (values_from f i n) (values_from f (i + n) k) (omega (arith, a, b))
    ∙ ap (put_in out at) (values_join f i n k)
