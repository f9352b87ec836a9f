use Rattle.std.proofs.Common.{◌∙◌, refl, sym, subst}
use Rattle.std.specs.Prelude.{IsSome}
use Rattle.erm_desk.specs.Known.{HasPin}
use Rattle.erm_desk_checkpoint.specs.Kept.{sees_of}
use Rattle.erm_desk_checkpoint.proofs.Saved.{behind_all, slot_on}
use Rattle.erm_rule.specs.Books.{book}
use Rattle.erm_rule.specs.Views.{view}
use Rattle.erm_desk_checkpoint.proofs.saving.save_behind.Goals as goal

pub save_pass-requires-clause-pinned : goal.save_pass-requires-clause-pinned
save_pass-requires-clause-pinned g c =
    let held = c.requires.held in
    let past = c.in_default.ensures.past held.0 c.args.slots.now held.1 held.2 in
    (past.0, past.2.knows, subst IsSome (sym (past.1.pinned ∙ held.2.pinned)) refl)

pub save_pass-requires-clause-place : goal.save_pass-requires-clause-place
save_pass-requires-clause-place g c = λ active.
    let held = c.requires.held in
    let past = c.in_default.ensures.past held.0 c.args.slots.now held.1 held.2 in
    (subst (HasPin (view c.flush_past.new.pass)) (past.1.pinned ∙ held.2.pinned) past.2.knows.end.pin).1

pub returns-clause-saves : goal.returns-clause-saves
returns-clause-saves g c = λ l has may is.
    let law = g.L.RowLaw.law in
    let slots = c.args.slots.now in
    let slot = c.args.slot.now in
    let s = sees_of (book c.args.pass.now) (g.D.Disk.told c.args.disk.now) (g.D.Disk.faults c.args.disk.now) c.args.flusher.now in
    let mid = sees_of (book c.flush_past.new.pass) (g.D.Disk.told c.flush_past.new.disk) (g.D.Disk.faults c.flush_past.new.disk) c.flush_past.new.flusher in
    let t = sees_of (book c.save_pass.new.pass) (g.D.Disk.told c.save_pass.new.disk) (g.D.Disk.faults c.save_pass.new.disk) c.save_pass.new.flusher in
    let past = c.in_default.ensures.past l slots has may in
    let save = c.save_pass.ensures in
    behind_all law slots slot c.save_pass.result l s t (
      past.0,
      mid,
      past.1,
      past.2,
      record {
        low = past.3;
        saves = save.saves;
        known = save.known past.0 past.2.knows (slot_on law slots slot l past.0 s mid is past.1) past.4;
        counts = save.counts;
        knows = save.same past.0 past.2.knows;
        steps = save.steps;
      },
    )
