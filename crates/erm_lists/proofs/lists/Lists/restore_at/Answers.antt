use Rattle.std.proofs.Common.{ap, subst}
use Rattle.std.specs.Option.{option_copied}
use Rattle.erm_model.specs.declared.history.VersionWritten.{VersionWritten}
use Rattle.erm_world.specs.Calls.{Works}
use Rattle.erm_world.specs.World.{work_at}
use Rattle.erm_lists.specs.Restores.{with_claim}
use Rattle.erm_lists.specs.Stands.{lists_view}
use Rattle.erm_lists.proofs.Restoring.{restored_kept, restored_none, restored_set}
use Rattle.erm_lists.proofs.lists.Lists.restore_at.Goals.{in_default-via-in-Some+else-saved, in_default-via-in_default}
use Rattle.erm_lists.proofs.lists.Lists.restore_at.Goals as goal

pub returns-in-Some-clause-restored : goal.returns-in-Some-clause-restored
returns-in-Some-clause-restored g c =
    let v = lists_view c.args.self.now in
    subst (λ (of : VersionWritten). Works v c.args.seat (with_claim c.args.place of (work_at v c.args.seat)) (lists_view c.set_at.new.self))
    (restored_set (option_copied c.args.saved) c.in-Some.saved.now _ (ap option_copied c.in-Some.is) c.requires.found c.if-saved.true) c.set_at.ensures.set

pub returns-in_default-clause-restored : goal.returns-in_default-clause-restored
returns-in_default-clause-restored g c =
    let v = lists_view c.args.self.now in
    subst (λ (of : VersionWritten). Works v c.args.seat (with_claim c.args.place of (work_at v c.args.seat)) (lists_view c.undo_at.new.self))
    (elim c.in_default.branch [
      | in_default-via-in-Some+else-saved w ↦ restored_kept (option_copied c.args.saved) w.in-Some.saved.now _ (ap option_copied w.in-Some.is) c.requires.found w.if-saved.false
      | in_default-via-in_default w ↦ restored_none (option_copied c.args.saved) _ (ap option_copied w.in_default.is)
    ]) c.undo_at.ensures.undone
