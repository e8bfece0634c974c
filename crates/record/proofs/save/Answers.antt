-- `record::save` meets its contract: two tests, then the record is written.
-- Assumes nothing.
use mathlib.Core.Path.{◌≡◌, refl, sym, ap, ◌∙◌}
use mathlib.Core.Bool.{Bool, true, false, ◌||◌, or-true}
use mathlib.Core.Logic.{◌⊎◌, inl, inr}
use Prim.Native.Nat.{ℕ, ◌≤◌, ◌<◌}
use lib.Dec.{ltb}
use lib.ListN.{length}
use borrow.Author.Tests.{lt-ltb, le-ltb}
use Rattle.reason.specs.declared.Reason.TheVariants.{Size, Space}
use Rattle.reason.specs.Answer.{accepted}
use Rattle.reception.specs.Reception.{lent_in, wrong_length, short_space}
use Rattle.record.specs.Record.{record_length}
use Rattle.record.proofs.GivenAnswers.{saves_7, saves_12, saves, saves_refused, saves_accepted, room_to_save}
use Rattle.record.proofs.save.Goals as goal

-- the second test, by its two halves
no_room : (short : Bool) (n size need : ℕ) → size ≡ need → (short ≡ true) ⊎ ((short ≡ false) × (n < size)) → (short || ltb n need) ≡ true
no_room short n size need e (inl is) = rw is refl
no_room short n size need e (inr less) = rw (← e, lt-ltb n size less.1) (or-true short)

room : (short : Bool) (n size need : ℕ) → size ≡ need → short ≡ false → size ≤ n → (short || ltb n need) ≡ false
room short n size need e enough h = rw (← e, enough) (le-ltb n size h)

pub returns-then-wrong_length : goal.returns-then-wrong_length
returns-then-wrong_length c =
    let s = lent_in c.args.reception in
    saves_refused s c.args.target.now Size (saves_7 s c.args.target.now (sym c.wrong_length.ensures ∙ c.if-wrong_length.true))

pub returns-then-short : goal.returns-then-short
returns-then-short c =
    let s = lent_in c.args.reception in
    let right : wrong_length c.args.reception.file.length ≡ false = sym c.wrong_length.ensures ∙ c.if-wrong_length.false in
    let short : short_space s.length s.map s.buffer ≡ c.short.result = sym c.short.ensures in
    saves_refused s c.args.target.now Space
    (saves_12 s c.args.target.now right
    (ap (λ (b : Bool). b || ltb (length c.args.target.now) (record_length c.args.reception.file.length)) short
    ∙ no_room _ _ _ _ c.record_length-size.ensures c.then-short.either))

pub write-requires : goal.write-requires
write-requires c =
    let s = lent_in c.args.reception in
    let w = room_to_save c.args.reception.file.length c.args.reception.map.now c.args.reception.buffer.now c.args.target.now
    (room _ _ _ _ c.record_length-size.ensures (sym c.short.ensures ∙ c.if-short.false) c.if-target-size.false) in
    record { room = record { mapped = w.0; buffered = w.1 }; target = w.2 }

pub returns : goal.returns
returns c =
    let s = lent_in c.args.reception in
    let right : wrong_length c.args.reception.file.length ≡ false = sym c.wrong_length.ensures ∙ c.if-wrong_length.false in
    saves_accepted s c.args.target.now c.record_length-size.result _
    (saves s c.args.target.now right (room _ _ _ _ c.record_length-size.ensures (sym c.short.ensures ∙ c.if-short.false) c.if-target-size.false)
    ∙ ap accepted (sym c.record_length-size.ensures)) c.write.ensures
