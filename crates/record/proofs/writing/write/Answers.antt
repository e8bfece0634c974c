-- `record::writing::write` meets its contract: four runs, one behind the other.
-- Assumes nothing.
use native.Mathlib.Omega.{arith}
use Rattle.reception.specs.Reception.{lent_in}
use Rattle.record.proofs.RecordLaws.{up_to_map, past_map, up_to_buffer, Written, front_put, map_put, tag_put, bytes_put}
use Rattle.record.proofs.writing.write.Goals as goal

pub put_map-requires : goal.put_map-requires
put_map-requires c =
    let a = c.args in
    let s = lent_in a.reception in
    let front : Written a.target.now (up_to_map s) c.put.new.out = front_put s a.target.now c.requires.target c.before_map.result _ c.put.new.out c.before_map.ensures c.put.ensures in
    let w = front.1 in
    (c.requires.room.mapped, omega (arith, w))

pub put_buffer-requires : goal.put_buffer-requires
put_buffer-requires c =
    let a = c.args in
    let s = lent_in a.reception in
    let z = c.map_size-size in
    let front : Written a.target.now (up_to_map s) c.put.new.out = front_put s a.target.now c.requires.target c.before_map.result _ c.put.new.out c.before_map.ensures c.put.ensures in
    let mapped : Written a.target.now (past_map s) c.put_map.new.target = map_put s a.target.now c.requires.target c.put.new.out c.put_map.new.target front c.put_map.ensures in
    let tag : Written a.target.now (up_to_buffer s) c.put-2.new.out =
    tag_put s a.target.now c.requires.target z.result z.ensures c.put_map.new.target c.before_buffer.result _ c.put-2.new.out mapped c.before_buffer.ensures c.put-2.ensures in
    let w = tag.1 in
    let e = z.ensures in
    record { room = c.requires.room; target = omega (arith, w, e) }

pub returns : goal.returns
returns c =
    let a = c.args in
    let s = lent_in a.reception in
    let z = c.map_size-size in
    let front : Written a.target.now (up_to_map s) c.put.new.out = front_put s a.target.now c.requires.target c.before_map.result _ c.put.new.out c.before_map.ensures c.put.ensures in
    let mapped : Written a.target.now (past_map s) c.put_map.new.target = map_put s a.target.now c.requires.target c.put.new.out c.put_map.new.target front c.put_map.ensures in
    let tag : Written a.target.now (up_to_buffer s) c.put-2.new.out =
    tag_put s a.target.now c.requires.target z.result z.ensures c.put_map.new.target c.before_buffer.result _ c.put-2.new.out mapped c.before_buffer.ensures c.put-2.ensures in
    bytes_put s a.target.now c.requires.target z.result z.ensures c.put-2.new.out _ tag c.put_buffer.ensures
