use Rattle.std.proofs.Common.{ap, ◌∙◌}
use Rattle.erm_client_beside.proofs.Ended.{all_done, all_rest, ran_beside}
use Rattle.erm_engine.proofs.GivenUp.{new_idle}
use Rattle.erm_rule.specs.declared.view.Start.{Start}
use Rattle.erm_client_beside.proofs.run.run_opened_programs.Goals as goal

pub end_all-requires : goal.end_all-requires
end_all-requires g c = record { idle = new_idle g.L.RowLaw.law c.args.opened.table c.args.opening.now _ c.args.opened.sessions.items c.requires.opened.sessions }

pub with-desk-requires-clause-flushed : goal.with-desk-requires-clause-flushed
with-desk-requires-clause-flushed g c d is = c.requires.opened.unflushed d is ∙ ap (λ (s : Start). s.tail) c.requires.start

pub close_sessions-disk-requires-clause-sessions : goal.close_sessions-disk-requires-clause-sessions
close_sessions-disk-requires-clause-sessions g c =
    all_done g.L.RowLaw.law c.args.opened.table c.args.opening.now _ _ c.args.programs.items c.work_beside-sessions.result.0.items c.work_beside-sessions.result.1.items c.work_beside-sessions.ensures.left

pub close_sessions-disk-requires-clause-rests : goal.close_sessions-disk-requires-clause-rests
close_sessions-disk-requires-clause-rests g c =
    all_rest g.L.RowLaw.law c.args.opened.table c.args.opening.now _ _ c.args.programs.items c.work_beside-sessions.result.0.items c.work_beside-sessions.result.1.items c.work_beside-sessions.ensures.left

pub returns-clause-ran : goal.returns-clause-ran
returns-clause-ran g c =
    ran_beside g.L.RowLaw.law c.args.opened.table c.args.opening.now _ _ _ (λ some. c.close_sessions-disk.ensures.failed (c.into_desk-desk.ensures.failed some)) g.B.Naming.began g.B.Naming.faults _ _
    c.args.programs.items c.work_beside-sessions.result.0.items c.work_beside-sessions.result.1.items c.requires.opened.serializable c.close_sessions-disk.ensures.closes c.work_beside-sessions.ensures.left
