use Rattle.std.proofs.Common.{◌∙◌, ap, rules}
use Rattle.erm_outside_mem.specs.DiskNotes.{steps_of}
use Rattle.erm_outside_mem.proofs.NotedSteps.{steps-push, steps-length}
use Rattle.erm_outside_mem.proofs.notes.note.Goals as goal

pub returns-clause-steps : goal.returns-clause-steps
returns-clause-steps c = ap steps_of c.in_ok-push.ensures.items ∙ steps-push c.args.done.now.items (record { file = c.args.file; work = c.args.work })

pub returns-in_err-push-clause-full : goal.returns-in_err-push-clause-full
returns-in_err-push-clause-full c =
    let h = steps-length c.args.done.now.items in
    search rules
