use Rattle.std.proofs.Common.{◌≡◌, ◌∙◌, sym, subst}
use Rattle.erm_outside.specs.Disk.{Tells}
use Rattle.erm_checkpoint.specs.Saved.{AreRowsAt, slot_bytes}
use Rattle.erm_checkpoint.specs.Steps.{SavesAll, SavesPart}
use Rattle.erm_ckpt.specs.Slots.{other_of, removal_end}
use Rattle.erm_checkpoint.proofs.BelowTold.{told_done, told_saved, told_saves}
use Rattle.erm_checkpoint.proofs.Told.{told_part, was_err, was_ok, whole}
use Rattle.erm_checkpoint.proofs.checkpointer.Checkpointer.save_pinned.Goals as goal

pub returns-then-is_err-clause-known : goal.returns-then-is_err-clause-known
returns-then-is_err-clause-known g c = λ l knows at held.
    let slot = c.args.slot.now in
    let slots = c.args.slots.now in
    let rows = c.deref.result.now in
    let before = g.D.Disk.told c.args.disk.now in
    let after = g.D.Disk.told c.save_rows.new.disk in
    let same : rows ≡ c.read_pinned.new.rows = whole rows c.read_pinned.new.rows _ c.self.inside.rows.len _ c.deref.ensures.value c.in_default.ensures.count c.self.invariant.0 in
    let read : AreRowsAt l rows = subst (AreRowsAt l) (sym same) (c.in_default.ensures.rows l knows) in
    let part = SavesPart (other_of slots) (slot_bytes slot rows) 0 (removal_end slots) in
    let all = SavesAll (other_of slots) (slot_bytes slot rows) 0 (removal_end slots) in
    told_saves c.stored_words_tell_the_row.ensures.short g.V.LogView.rows_law.meets c.respects_rows.ensures.meets l slots slot rows (c.gathers_are_known.ensures.log c.args.log.now l c.requires.stands knows) at read
    c.save_rows.ensures.is c.save_rows.ensures.rows before after held
    (told_part part all before after (was_err c.save_rows.result (Tells part before after) (sym c.is_err.ensures.value ∙ c.if-is_err.true) c.save_rows.ensures.part))

pub returns-clause-known : goal.returns-clause-known
returns-clause-known g c = λ l knows at held.
    let slot = c.args.slot.now in
    let slots = c.args.slots.now in
    let rows = c.deref.result.now in
    let before = g.D.Disk.told c.args.disk.now in
    let after = g.D.Disk.told c.save_rows.new.disk in
    let same : rows ≡ c.read_pinned.new.rows = whole rows c.read_pinned.new.rows _ c.self.inside.rows.len _ c.deref.ensures.value c.in_default.ensures.count c.self.invariant.0 in
    let read : AreRowsAt l rows = subst (AreRowsAt l) (sym same) (c.in_default.ensures.rows l knows) in
    let all = SavesAll (other_of slots) (slot_bytes slot rows) 0 (removal_end slots) in
    let did = was_ok c.save_rows.result (Tells all before after) (sym c.is_err.ensures.value ∙ c.if-is_err.false) c.save_rows.ensures.saved in
    let short = c.stored_words_tell_the_row.ensures.short in
    let is = c.gathers_are_known.ensures.log c.args.log.now l c.requires.stands knows in (
      told_done short g.V.LogView.rows_law.meets c.respects_rows.ensures.meets l slots slot rows is at read c.save_rows.ensures.is c.save_rows.ensures.rows before after held did,
      told_saved short g.V.LogView.rows_law.meets c.respects_rows.ensures.meets l slots slot rows is at read c.save_rows.ensures.is c.save_rows.ensures.rows before after held did,
    )
