use Rattle.std.proofs.Common.{◌≡◌, ◌<◌, ◌∙◌, IfSome, sym, ap, subst}
use Rattle.erm_flush.specs.Turns.{WritesFrom}
use Rattle.erm_outside.specs.Disk.{Tells}
use Rattle.erm_world.specs.Log.{Log, Start}
use Rattle.erm_checkpoint.specs.Saved.{slot_bytes}
use Rattle.erm_checkpoint.specs.Steps.{SavesAll, SavesPart}
use Rattle.erm_checkpoint.specs.Taken.{HoldsLog}
use Rattle.erm_ckpt.specs.declared.slot.TheConstants.{LOG_START}
use Rattle.erm_ckpt.specs.Slots.{other_of, removal_end}
use Rattle.erm_checkpoint.proofs.Told.{at_pin, told_all, told_holds, told_lasts, told_part, told_takes, told_takes_all, was_err, was_ok, whole}
use Rattle.erm_checkpoint.proofs.checkpointer.Checkpointer.take.Goals as goal

pub returns-in-Unfilled-clause-stays : goal.returns-in-Unfilled-clause-stays
returns-in-Unfilled-clause-stays g c = λ fine.
    let e = c.in-Unfilled.ensures in
    let m = g.W.LogWorld.log c.flush_all.new.world in
    let on = e.turns.2 in
    let opened = ap (λ (x : Log). x.opened) on.log in
    told_holds c.stored_words_tell_the_row.ensures.short g.W.LogWorld.rows_law.meets c.respects_rows.ensures.meets (g.W.LogWorld.log c.args.world.now) m c.args.slots.now (g.D.Disk.told c.args.disk.now) (g.D.Disk.told c.flush_all.new.disk)
    (c.requires.holds e.turns.0) (e.lasts fine) (e.ready fine) on (g.met.W.LogWorld.is_log c.flush_all.new.world e.stands)
    (subst (λ (s : Start). LOG_START < s.at) (sym opened) c.requires.begins)

pub returns-in-Err-clause-stays : goal.returns-in-Err-clause-stays
returns-in-Err-clause-stays g c = λ fine.
    let e = c.in-Empty.ensures in
    let l = g.W.LogWorld.log c.args.world.now in
    let m = g.W.LogWorld.log c.flush_all.new.world in
    let n = g.W.LogWorld.log c.read_rows.new.world in
    let sound = g.W.LogWorld.rows_law.meets in
    let short = c.stored_words_tell_the_row.ensures.short in
    let before = g.D.Disk.told c.args.disk.now in
    let mid = g.D.Disk.told c.flush_all.new.disk in
    let slots = c.args.slots.now in
    let opened = ap (λ (x : Log). x.opened) e.turns.2.log in
    let begin : LOG_START < m.opened.at = subst (λ (s : Start). LOG_START < s.at) (sym opened) c.requires.begins in
    let held_m = told_holds short sound c.respects_rows.ensures.meets l m slots before mid
    (c.requires.holds e.turns.0) (e.lasts e.turns.1) (e.ready e.turns.1) e.turns.2 (g.met.W.LogWorld.is_log c.flush_all.new.world e.stands) begin in
    let held = subst (λ (x : Log). IfSome mid (HoldsLog sound x slots)) (sym c.in-Err.ensures.same) held_m in
    held

pub returns-then-is_err-clause-any_moment : goal.returns-then-is_err-clause-any_moment
returns-then-is_err-clause-any_moment g c = λ fine.
    let e = c.in-Empty.ensures in
    let l = g.W.LogWorld.log c.args.world.now in
    let m = g.W.LogWorld.log c.flush_all.new.world in
    let n = g.W.LogWorld.log c.read_rows.new.world in
    let sound = g.W.LogWorld.rows_law.meets in
    let short = c.stored_words_tell_the_row.ensures.short in
    let before = g.D.Disk.told c.args.disk.now in
    let mid = g.D.Disk.told c.flush_all.new.disk in
    let slots = c.args.slots.now in
    let opened = ap (λ (x : Log). x.opened) e.turns.2.log in
    let begin : LOG_START < m.opened.at = subst (λ (s : Start). LOG_START < s.at) (sym opened) c.requires.begins in
    let held_m = told_holds short sound c.respects_rows.ensures.meets l m slots before mid
    (c.requires.holds e.turns.0) (e.lasts e.turns.1) (e.ready e.turns.1) e.turns.2 (g.met.W.LogWorld.is_log c.flush_all.new.world e.stands) begin in
    let held = subst (λ (x : Log). IfSome mid (HoldsLog sound x slots)) (sym c.in_default.ensures.same) held_m in
    let slot = c.args.slot.now in
    let rows = c.deref.result.now in
    let after = g.D.Disk.told c.save_rows.new.disk in
    let same_rows : rows ≡ c.read_rows.new.rows = whole rows c.read_rows.new.rows _ c.self.inside.rows.len _ c.deref.ensures.value c.in_default.ensures.count c.self.invariant.0 in
    let pin = at_pin sound l m n slot slots rows c.read_rows.new.rows e.turns.2 c.in_default.ensures.same (e.turns.3 ∙ sym e.turns.4) c.requires.pinned c.requires.place c.requires.run c.requires.run_low c.requires.run_high
    c.requires.first c.requires.begins c.requires.high (g.met.W.LogWorld.is_log c.read_rows.new.world c.in_default.ensures.stands)
    c.in_default.ensures.rows same_rows c.save_rows.ensures.is c.save_rows.ensures.rows in
    let part = SavesPart (other_of slots) (slot_bytes slot rows) 0 (removal_end slots) in
    let all = SavesAll (other_of slots) (slot_bytes slot rows) 0 (removal_end slots) in
    let writes = subst (λ (x : Log). Tells (WritesFrom sound l.flushed x) before mid) (sym c.in_default.ensures.same) (e.any_moment fine) in
    told_takes short sound c.respects_rows.ensures.meets l.flushed n slots slot rows before mid after writes held pin
    (told_part part all mid after (was_err c.save_rows.result (Tells part mid after) (sym c.is_err.ensures.value ∙ c.if-is_err.true) c.save_rows.ensures.part))

pub returns-clause-any_moment : goal.returns-clause-any_moment
returns-clause-any_moment g c = λ fine.
    let e = c.in-Empty.ensures in
    let l = g.W.LogWorld.log c.args.world.now in
    let m = g.W.LogWorld.log c.flush_all.new.world in
    let n = g.W.LogWorld.log c.read_rows.new.world in
    let sound = g.W.LogWorld.rows_law.meets in
    let short = c.stored_words_tell_the_row.ensures.short in
    let before = g.D.Disk.told c.args.disk.now in
    let mid = g.D.Disk.told c.flush_all.new.disk in
    let slots = c.args.slots.now in
    let opened = ap (λ (x : Log). x.opened) e.turns.2.log in
    let begin : LOG_START < m.opened.at = subst (λ (s : Start). LOG_START < s.at) (sym opened) c.requires.begins in
    let held_m = told_holds short sound c.respects_rows.ensures.meets l m slots before mid
    (c.requires.holds e.turns.0) (e.lasts e.turns.1) (e.ready e.turns.1) e.turns.2 (g.met.W.LogWorld.is_log c.flush_all.new.world e.stands) begin in
    let held = subst (λ (x : Log). IfSome mid (HoldsLog sound x slots)) (sym c.in_default.ensures.same) held_m in
    let slot = c.args.slot.now in
    let rows = c.deref.result.now in
    let after = g.D.Disk.told c.save_rows.new.disk in
    let same_rows : rows ≡ c.read_rows.new.rows = whole rows c.read_rows.new.rows _ c.self.inside.rows.len _ c.deref.ensures.value c.in_default.ensures.count c.self.invariant.0 in
    let pin = at_pin sound l m n slot slots rows c.read_rows.new.rows e.turns.2 c.in_default.ensures.same (e.turns.3 ∙ sym e.turns.4) c.requires.pinned c.requires.place c.requires.run c.requires.run_low c.requires.run_high
    c.requires.first c.requires.begins c.requires.high (g.met.W.LogWorld.is_log c.read_rows.new.world c.in_default.ensures.stands)
    c.in_default.ensures.rows same_rows c.save_rows.ensures.is c.save_rows.ensures.rows in
    let part = SavesPart (other_of slots) (slot_bytes slot rows) 0 (removal_end slots) in
    let all = SavesAll (other_of slots) (slot_bytes slot rows) 0 (removal_end slots) in
    let writes = subst (λ (x : Log). Tells (WritesFrom sound l.flushed x) before mid) (sym c.in_default.ensures.same) (e.any_moment fine) in
    told_takes short sound c.respects_rows.ensures.meets l.flushed n slots slot rows before mid after writes held pin
    (told_all part all mid after (was_ok c.save_rows.result (Tells all mid after) (sym c.is_err.ensures.value ∙ c.if-is_err.false) c.save_rows.ensures.saved))

pub returns-clause-saved : goal.returns-clause-saved
returns-clause-saved g c =
    let e = c.in-Empty.ensures in
    let l = g.W.LogWorld.log c.args.world.now in
    let m = g.W.LogWorld.log c.flush_all.new.world in
    let n = g.W.LogWorld.log c.read_rows.new.world in
    let sound = g.W.LogWorld.rows_law.meets in
    let short = c.stored_words_tell_the_row.ensures.short in
    let before = g.D.Disk.told c.args.disk.now in
    let mid = g.D.Disk.told c.flush_all.new.disk in
    let slots = c.args.slots.now in
    let opened = ap (λ (x : Log). x.opened) e.turns.2.log in
    let begin : LOG_START < m.opened.at = subst (λ (s : Start). LOG_START < s.at) (sym opened) c.requires.begins in
    let held_m = told_holds short sound c.respects_rows.ensures.meets l m slots before mid
    (c.requires.holds e.turns.0) (e.lasts e.turns.1) (e.ready e.turns.1) e.turns.2 (g.met.W.LogWorld.is_log c.flush_all.new.world e.stands) begin in
    let held = subst (λ (x : Log). IfSome mid (HoldsLog sound x slots)) (sym c.in_default.ensures.same) held_m in
    let slot = c.args.slot.now in
    let rows = c.deref.result.now in
    let after = g.D.Disk.told c.save_rows.new.disk in
    let same_rows : rows ≡ c.read_rows.new.rows = whole rows c.read_rows.new.rows _ c.self.inside.rows.len _ c.deref.ensures.value c.in_default.ensures.count c.self.invariant.0 in
    let pin = at_pin sound l m n slot slots rows c.read_rows.new.rows e.turns.2 c.in_default.ensures.same (e.turns.3 ∙ sym e.turns.4) c.requires.pinned c.requires.place c.requires.run c.requires.run_low c.requires.run_high
    c.requires.first c.requires.begins c.requires.high (g.met.W.LogWorld.is_log c.read_rows.new.world c.in_default.ensures.stands)
    c.in_default.ensures.rows same_rows c.save_rows.ensures.is c.save_rows.ensures.rows in
    let all = SavesAll (other_of slots) (slot_bytes slot rows) 0 (removal_end slots) in
    let writes = subst (λ (x : Log). Tells (WritesFrom sound l.flushed x) before mid) (sym c.in_default.ensures.same) (e.any_moment e.turns.0) in
    told_takes_all short sound c.respects_rows.ensures.meets l.flushed n slots slot rows before mid after writes held pin
    (was_ok c.save_rows.result (Tells all mid after) (sym c.is_err.ensures.value ∙ c.if-is_err.false) c.save_rows.ensures.saved)

pub returns-clause-lasts : goal.returns-clause-lasts
returns-clause-lasts g c =
    let e = c.in-Empty.ensures in
    let l = g.W.LogWorld.log c.args.world.now in
    let m = g.W.LogWorld.log c.flush_all.new.world in
    let n = g.W.LogWorld.log c.read_rows.new.world in
    let sound = g.W.LogWorld.rows_law.meets in
    let short = c.stored_words_tell_the_row.ensures.short in
    let before = g.D.Disk.told c.args.disk.now in
    let mid = g.D.Disk.told c.flush_all.new.disk in
    let slots = c.args.slots.now in
    let opened = ap (λ (x : Log). x.opened) e.turns.2.log in
    let begin : LOG_START < m.opened.at = subst (λ (s : Start). LOG_START < s.at) (sym opened) c.requires.begins in
    let held_m = told_holds short sound c.respects_rows.ensures.meets l m slots before mid
    (c.requires.holds e.turns.0) (e.lasts e.turns.1) (e.ready e.turns.1) e.turns.2 (g.met.W.LogWorld.is_log c.flush_all.new.world e.stands) begin in
    let held = subst (λ (x : Log). IfSome mid (HoldsLog sound x slots)) (sym c.in_default.ensures.same) held_m in
    let slot = c.args.slot.now in
    let rows = c.deref.result.now in
    let after = g.D.Disk.told c.save_rows.new.disk in
    let same_rows : rows ≡ c.read_rows.new.rows = whole rows c.read_rows.new.rows _ c.self.inside.rows.len _ c.deref.ensures.value c.in_default.ensures.count c.self.invariant.0 in
    let pin = at_pin sound l m n slot slots rows c.read_rows.new.rows e.turns.2 c.in_default.ensures.same (e.turns.3 ∙ sym e.turns.4) c.requires.pinned c.requires.place c.requires.run c.requires.run_low c.requires.run_high
    c.requires.first c.requires.begins c.requires.high (g.met.W.LogWorld.is_log c.read_rows.new.world c.in_default.ensures.stands)
    c.in_default.ensures.rows same_rows c.save_rows.ensures.is c.save_rows.ensures.rows in
    let part = SavesPart (other_of slots) (slot_bytes slot rows) 0 (removal_end slots) in
    let all = SavesAll (other_of slots) (slot_bytes slot rows) 0 (removal_end slots) in
    told_lasts short sound c.respects_rows.ensures.meets n slots slot rows mid after held pin
    (was_ok c.save_rows.result (Tells all mid after) (sym c.is_err.ensures.value ∙ c.if-is_err.false) c.save_rows.ensures.saved)
