use Rattle.std.proofs.Common.{◌<◌, List, map, sym, ap, ◌∙◌, subst}
use Rattle.erm_script.specs.declared.script.ScriptLine.{ScriptLine}
use Rattle.erm_rule.specs.declared.view.Start.{Start}
use Rattle.erm_engine.proofs.GivenUp.{new_idle}
use Rattle.erm_run_beside.specs.Ended.{AreWholeUnless, AreWorked}
use Rattle.erm_run_beside.specs.Jobs.{AreLines}
use Rattle.erm_run_beside.proofs.Over.{unless_more}
use Rattle.erm_run_beside.proofs.sessions.run_opened.Goals as goal

pub end_all-requires : goal.end_all-requires
end_all-requires g c = record { idle = new_idle g.L.RowLaw.law c.args.opened.table c.args.opening.now _ c.args.opened.sessions.items c.requires.opened.sessions }

pub with-desk-requires-clause-flushed : goal.with-desk-requires-clause-flushed
with-desk-requires-clause-flushed g c d is = c.requires.opened.unflushed d is ∙ ap (λ (s : Start). s.tail) c.requires.start

pub work_beside-done-requires-clause-lines : goal.work_beside-done-requires-clause-lines
work_beside-done-requires-clause-lines g c κs within = subst (λ (ls : List (List ScriptLine)). AreLines ls) (sym c.in-Ok.ensures.room.lines) c.requires.lines

pub returns-clause-ran : goal.returns-clause-ran
returns-clause-ran g c =
    let law = g.L.RowLaw.law in
    let t = c.args.opened.table in
    let o = c.args.opening.now in
    let done = c.work_beside-done.result.items in
    let parts = map (λ p. p.items) c.args.parts.items in
    let same = c.in-Ok.ensures.room.lines in
    let worked : AreWorked law t o parts done = subst (λ (ls : List (List ScriptLine)). AreWorked law t o ls done) same c.work_beside-done.ensures.worked in
    let whole = subst (λ (ls : List (List ScriptLine)). AreWholeUnless (0 < c.work_beside-done.new.met.amount) ls done) same c.work_beside-done.ensures.whole in
    c.end_sessions-disk.ensures.ran parts worked (unless_more _ _ parts _ (λ some. c.end_sessions-disk.ensures.failed (c.into_desk-desk.ensures.failed some)) whole)
