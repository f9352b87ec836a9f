use Rattle.std.proofs.Common.{◌≡◌, length, rules, refl, ap, arith, ◌∙◌}
use Rattle.std.specs.BTreeMap.{get}
use Rattle.std.specs.Map.{count_at}
use Rattle.erm_outside.specs.contracts.disk.FileOrd.TheImpl as file_order
use Rattle.erm_outside.specs.Disk.{contents, changes_of}
use Rattle.erm_outside_mem.specs.DiskNotes.{steps_of}
use Rattle.erm_outside_mem.specs.Picks.{picked}
use Rattle.erm_outside_mem.proofs.Picked.{picked_may_be, picked-all}
use Rattle.erm_outside_mem.proofs.Plays.{plays_none, plays_more, plays_all}
use Rattle.erm_outside_mem.proofs.crash.play.Goals as goal

pub loop-note-init : goal.loop-note-init
loop-note-init c = record {
  plays = plays_none c.args.pick c.args.done.now (λ file. count_at (get file_order.ghosts.cmp c.in_ok-left.left) file) (contents c.new-image.result.steps)
      c.in_ok-left.ensures (λ file. ap (λ disk. contents disk.steps file) c.new-image.ensures);
  settled = rw c.new-image.ensures (λ file left may. may);
  fresh = rw c.new-image.ensures refl;
}

pub loop-note-preserved : goal.loop-note-preserved
loop-note-preserved c = record {
  plays = plays_more c.args.pick c.args.done.now c.loop-note.note-index c.note-item.result
      (λ file. count_at (get file_order.ghosts.cmp c.loop-note.left) file) (λ file. count_at (get file_order.ghosts.cmp c.play_note.new.left) file)
      (contents c.loop-note.image.steps) (contents c.play_note.new.image.steps)
      c.loop-note.invariant.plays c.loop-note-test.true c.note-item.is c.in_ok-play_note.ensures.counts c.in_ok-play_note.ensures.lands;
  settled = c.in_ok-play_note.ensures.settled c.loop-note.invariant.settled;
  fresh = search rules;
}

pub returns-clause-picked : goal.returns-clause-picked
returns-clause-picked c =
    let end : length c.args.done.now ≡ c.loop-note.note-index = omega arith in
    plays_all c.args.pick c.args.done.now c.loop-note.note-index (λ file. count_at (get file_order.ghosts.cmp c.loop-note.left) file) (contents c.loop-note.image.steps) c.loop-note.invariant.plays end

pub returns-clause-image : goal.returns-clause-image
returns-clause-image c = λ file. rw (returns-clause-picked c file) (picked_may_be c.args.pick (changes_of file (steps_of c.args.done.now)))

pub returns-clause-all : goal.returns-clause-all
returns-clause-all c = λ e file.
    let changes = changes_of file (steps_of c.args.done.now) in
    returns-clause-picked c file ∙ ap (λ pick. picked pick changes) e ∙ picked-all changes
