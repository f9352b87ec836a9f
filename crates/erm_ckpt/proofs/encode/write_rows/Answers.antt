use Rattle.std.proofs.Common.{◌+◌, ◌-◌, ◌<◌, ◌≤◌, [], drop, get_or, length, arith, length-drop}
use Rattle.std.proofs.lemmas.List.{length-take-le}
use Rattle.erm_record.specs.Stored.{stored_length}
use Rattle.erm_ckpt.proofs.SavedRows.{words_of_next}
use Rattle.erm_ckpt.proofs.Written.{added, skipped}
use Rattle.erm_ckpt.proofs.encode.write_rows.Goals as goal

pub write_entry-at-requires : goal.write_entry-at-requires
write_entry-at-requires c =
    let loop = c.loop-oid in
    let rows = c.args.rows.now in
    let some : 0 < stored_length (get_or rows loop.oid []) = omega (arith, c.stored_length.ensures.length, c.if-stored_length-eq0.false) in
    let next = words_of_next rows loop.oid (omega arith) some in
    let behind = length-drop loop.at loop.out in
    omega (arith, next, loop.invariant.at_is, loop.auto.out, c.requires.room, behind, length-take-le (length loop.out - loop.at) (drop loop.at loop.out) (omega (arith, behind)))

pub loop-oid-preserved-then-stored_length-eq0 : goal.loop-oid-preserved-then-stored_length-eq0
loop-oid-preserved-then-stored_length-eq0 c =
    let loop = c.loop-oid in
    skipped c.args.rows.now c.args.out.now loop.out loop.oid loop.count loop.at loop.invariant (omega arith) (omega (arith, c.stored_length.ensures.length, c.if-stored_length-eq0.true))

pub loop-oid-preserved : goal.loop-oid-preserved
loop-oid-preserved c =
    let loop = c.loop-oid in
    let rows = c.args.rows.now in
    let some : 0 < stored_length (get_or rows loop.oid []) = omega (arith, c.stored_length.ensures.length, c.if-stored_length-eq0.false) in
    let next = words_of_next rows loop.oid (omega arith) some in
    let size = c.write_entry-at.ensures.size in
    let room : loop.at + c.write_entry-at.result ≤ length loop.out = omega (arith, next, size, loop.invariant.at_is, loop.auto.out, c.requires.room) in
    added rows c.args.out.now loop.out loop.oid loop.count loop.at loop.invariant (omega arith) c.write_entry-at.new.out c.write_entry-at.result
    some (omega (arith, room)) size (omega (arith, room)) c.write_entry-at.ensures.words c.write_entry-at.ensures.typed
