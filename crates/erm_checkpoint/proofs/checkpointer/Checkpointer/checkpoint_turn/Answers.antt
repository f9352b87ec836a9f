use Rattle.std.proofs.Common.{Some, None, IfSome, subst, sym}
use Rattle.erm_ckpt.specs.declared.slot.Slots.{Slots}
use Rattle.erm_checkpoint.specs.Taken.{HoldsLog, HoldsLogFrom}
use Rattle.erm_checkpoint.proofs.Pinned.{still_pinned, told_holds_from, told_holds_other, told_lasts_other, told_turn, told_turn_all}
use Rattle.erm_checkpoint.proofs.checkpointer.Checkpointer.checkpoint_turn.Goals as goal

pub take-taken-requires-clause-holds : goal.take-taken-requires-clause-holds
take-taken-requires-clause-holds g c = λ fine.
    told_holds_other g.W.LogWorld.rows_law.meets (g.W.LogWorld.log c.args.world.now) (g.W.LogWorld.log c.pin-stamp.new.self) c.pin-stamp.result (Some c.pin-stamp.result) c.args.slots.now
    (g.D.Disk.told c.args.disk.now) c.pin-stamp.ensures.pinned (c.requires.holds fine)

pub returns-in_err-taken-clause-any_moment : goal.returns-in_err-taken-clause-any_moment
returns-in_err-taken-clause-any_moment g c = λ fine.
    let p = g.W.LogWorld.log c.pin-stamp.new.self in
    let n = g.W.LogWorld.log c.take-taken.new.world in
    told_turn g.W.LogWorld.rows_law.meets (g.W.LogWorld.log c.args.world.now) p n (g.W.LogWorld.log c.unpin.new.self) c.pin-stamp.result c.args.run c.next_first.result c.args.slots.now
    (g.D.Disk.told c.args.disk.now) (g.D.Disk.told c.take-taken.new.disk) c.pin-stamp.ensures.pinned
    (still_pinned c.take-taken.result c.args.flusher.now c.take-taken.new.flusher p n c.take-taken.ensures.takes) c.unpin.ensures.unpinned c.next_first.ensures (c.take-taken.ensures.any_moment fine)

pub returns-in_err-taken-clause-stays : goal.returns-in_err-taken-clause-stays
returns-in_err-taken-clause-stays g c = λ fine.
    let n = g.W.LogWorld.log c.take-taken.new.world in
    told_holds_other g.W.LogWorld.rows_law.meets n (g.W.LogWorld.log c.unpin.new.self) n.tail None c.args.slots.now (g.D.Disk.told c.take-taken.new.disk) c.unpin.ensures.unpinned (c.in_err-taken.ensures.stays fine)

pub returns-clause-any_moment : goal.returns-clause-any_moment
returns-clause-any_moment g c = λ fine.
    let p = g.W.LogWorld.log c.pin-stamp.new.self in
    let n = g.W.LogWorld.log c.take-taken.new.world in
    told_turn g.W.LogWorld.rows_law.meets (g.W.LogWorld.log c.args.world.now) p n (g.W.LogWorld.log c.unpin.new.self) c.pin-stamp.result c.args.run c.next_first.result c.args.slots.now
    (g.D.Disk.told c.args.disk.now) (g.D.Disk.told c.take-taken.new.disk) c.pin-stamp.ensures.pinned
    (still_pinned c.take-taken.result c.args.flusher.now c.take-taken.new.flusher p n c.take-taken.ensures.takes) c.unpin.ensures.unpinned c.next_first.ensures (c.take-taken.ensures.any_moment fine)

pub returns-clause-saved : goal.returns-clause-saved
returns-clause-saved g c =
    let p = g.W.LogWorld.log c.pin-stamp.new.self in
    let n = g.W.LogWorld.log c.take-taken.new.world in
    told_turn_all g.W.LogWorld.rows_law.meets (g.W.LogWorld.log c.args.world.now) p n (g.W.LogWorld.log c.unpin.new.self) c.pin-stamp.result c.args.run c.next_first.result c.args.slots.now
    (g.D.Disk.told c.args.disk.now) (g.D.Disk.told c.take-taken.new.disk) c.pin-stamp.ensures.pinned
    (still_pinned c.take-taken.result c.args.flusher.now c.take-taken.new.flusher p n c.take-taken.ensures.takes) c.unpin.ensures.unpinned c.next_first.ensures c.in_ok-taken.ensures.saved

pub returns-clause-lasts : goal.returns-clause-lasts
returns-clause-lasts g c =
    let n = g.W.LogWorld.log c.take-taken.new.world in
    let m = g.W.LogWorld.log c.unpin.new.self in
    let sound = g.W.LogWorld.rows_law.meets in
    let told = g.D.Disk.told c.take-taken.new.disk in
    subst (λ (slots : Slots). IfSome told (HoldsLogFrom sound m slots c.pin-stamp.result)) (sym c.put_slot.ensures)
    (told_lasts_other sound n m n.tail None _ c.pin-stamp.result told c.unpin.ensures.unpinned c.in_ok-taken.ensures.lasts)

pub returns-clause-stays : goal.returns-clause-stays
returns-clause-stays g c = λ fine.
    let n = g.W.LogWorld.log c.take-taken.new.world in
    let m = g.W.LogWorld.log c.unpin.new.self in
    let sound = g.W.LogWorld.rows_law.meets in
    let told = g.D.Disk.told c.take-taken.new.disk in
    subst (λ (slots : Slots). IfSome told (HoldsLog sound m slots)) (sym c.put_slot.ensures)
    (told_holds_from sound m _ c.pin-stamp.result told
    (told_lasts_other sound n m n.tail None _ c.pin-stamp.result told c.unpin.ensures.unpinned c.in_ok-taken.ensures.lasts))
