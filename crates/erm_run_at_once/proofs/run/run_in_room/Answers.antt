use Rattle.std.proofs.Common.{Result, IfOk, length, map, subst}
use Rattle.std.specs.declared.alloc.AllocError.{AllocError}
use Rattle.erm_model.specs.Rows.{rows_of}
use Rattle.erm_start.proofs.First.{new_unreached}
use Rattle.erm_run_beside.specs.declared.work.Ran.{Ran}
use Rattle.erm_run_at_once.specs.Told.{MayTell}
use Rattle.erm_run_at_once.proofs.Finish.{AnswersRan, answers_err, answers_ok, counted, ended, in_tables, may_report, untold}
use Rattle.erm_run_at_once.proofs.Opened.{held, sound_rows}
use Rattle.erm_run_at_once.proofs.Parts.{are_lines, list_parts}
use Rattle.erm_run_at_once.proofs.run.run_in_room.Goals as goal
use Rattle.erm_run_at_once.proofs.run.run_in_room.Goals.{in-Err, in-Ok}

pub run_sessions-disk-requires-clause-unreached : goal.run_sessions-disk-requires-clause-unreached
run_sessions-disk-requires-clause-unreached g c κs within oid above =
    let m = c.requires.may in
    new_unreached c.ends_have_laws.ensures.zeros (rows_of c.args.opened.rows.items) c.args.first
    (sound_rows m.0 (g.D.Disk.told c.args.disk) m.1 c.args.opened m.3.opens c.args.first) c.requires.first oid above

pub run_sessions-disk-requires-clause-holds : goal.run_sessions-disk-requires-clause-holds
run_sessions-disk-requires-clause-holds g c κs within = let m = c.requires.may in held m.0 (g.D.Disk.told c.args.disk) m.1 c.args.opened m.3.opens c.args.first

pub run_sessions-disk-requires-clause-lines : goal.run_sessions-disk-requires-clause-lines
run_sessions-disk-requires-clause-lines g c κs within =
    let m = c.requires.may in
    are_lines m.2 c.args.script.now (map (λ p. p.items) c.args.room.parts.items) m.3.is_script (list_parts (length m.2) c.args.script.now c.args.room.parts.items m.3.has_room.parts)

pub report_ran-ended-requires-clause-may : goal.report_ran-ended-requires-clause-may
report_ran-ended-requires-clause-may g c =
    let m = c.requires.may in
    let ran = c.run_sessions-disk.result in
    subst (λ (r : Result Ran AllocError). IfOk r (λ ran. MayTell ran.failed c.args.script.now ran.sessions.items)) c.in-Ok.is
    (may_report c.ends_have_laws.ensures m.0 (g.D.Disk.told c.args.disk) m.1 c.args.opened m.2 c.args.script.now c.args.room m.3 c.args.first c.requires.first
    (g.D.Disk.faults c.args.disk) (g.D.Disk.faults ran.0) (g.D.Disk.told ran.0) ran.1 c.run_sessions-disk.ensures.ran)

pub returns-clause-ended : goal.returns-clause-ended
returns-clause-ended g c =
    let ran = c.run_sessions-disk.result in
    let did = c.run_sessions-disk.ensures in
    let told : AnswersRan c.match-ran.ended c.args.opened c.args.room c.args.script.now ran.1 = elim c.match-ran.branch [
      | in-Ok w ↦
          answers_ok c.match-ran.ended w.report_ran-ended.result c.args.opened c.args.room c.args.script.now ran.1 w.in-Ok.ran w.deref.result.now w.in-Ok.is w.ended-is w.deref.ensures.value
          w.report_ran-ended.ensures
      | in-Err w ↦ answers_err c.match-ran.ended c.args.opened c.args.room c.args.script.now ran.1 w.in-Err.field-0 w.in-Err.is w.ended-is
    ] in
    λ before state names may.
    ended c.ends_have_laws.ensures before (g.D.Disk.told c.args.disk) state c.args.opened names c.args.script.now c.args.room may c.args.first c.requires.first (g.D.Disk.faults c.args.disk) (g.D.Disk.faults ran.0) (g.D.Disk.told ran.0)
    c.match-ran.ended ran.1 did.ran did.back told

pub returns-clause-untold : goal.returns-clause-untold
returns-clause-untold g c =
    let ran = c.run_sessions-disk.result in
    let did = c.run_sessions-disk.ensures in
    λ before state names may.
    untold c.ends_have_laws.ensures before (g.D.Disk.told c.args.disk) state c.args.opened names c.args.script.now c.args.room may c.args.first c.requires.first (g.D.Disk.faults c.args.disk) (g.D.Disk.faults ran.0) (g.D.Disk.told ran.0)
    c.match-ran.ended ran.1 did.ran did.back

pub returns-clause-tables : goal.returns-clause-tables
returns-clause-tables g c =
    let ran = c.run_sessions-disk.result in
    let did = c.run_sessions-disk.ensures in
    let told : AnswersRan c.match-ran.ended c.args.opened c.args.room c.args.script.now ran.1 = elim c.match-ran.branch [
      | in-Ok w ↦
          answers_ok c.match-ran.ended w.report_ran-ended.result c.args.opened c.args.room c.args.script.now ran.1 w.in-Ok.ran w.deref.result.now w.in-Ok.is w.ended-is w.deref.ensures.value
          w.report_ran-ended.ensures
      | in-Err w ↦ answers_err c.match-ran.ended c.args.opened c.args.room c.args.script.now ran.1 w.in-Err.field-0 w.in-Err.is w.ended-is
    ] in
    let m = c.requires.may in
    in_tables c.ends_have_laws.ensures m.0 (g.D.Disk.told c.args.disk) m.1 c.args.opened m.2 c.args.script.now c.args.room m.3 c.args.first c.requires.first (g.D.Disk.faults c.args.disk) (g.D.Disk.faults ran.0) (g.D.Disk.told ran.0)
    c.match-ran.ended ran.1 told

pub returns-clause-counts : goal.returns-clause-counts
returns-clause-counts g c =
    let ran = c.run_sessions-disk.result in
    let did = c.run_sessions-disk.ensures in
    let told : AnswersRan c.match-ran.ended c.args.opened c.args.room c.args.script.now ran.1 = elim c.match-ran.branch [
      | in-Ok w ↦
          answers_ok c.match-ran.ended w.report_ran-ended.result c.args.opened c.args.room c.args.script.now ran.1 w.in-Ok.ran w.deref.result.now w.in-Ok.is w.ended-is w.deref.ensures.value
          w.report_ran-ended.ensures
      | in-Err w ↦ answers_err c.match-ran.ended c.args.opened c.args.room c.args.script.now ran.1 w.in-Err.field-0 w.in-Err.is w.ended-is
    ] in
    let m = c.requires.may in
    counted c.ends_have_laws.ensures m.0 (g.D.Disk.told c.args.disk) m.1 c.args.opened m.2 c.args.script.now c.args.room m.3 c.args.first c.requires.first (g.D.Disk.faults c.args.disk) (g.D.Disk.faults ran.0) (g.D.Disk.told ran.0)
    c.match-ran.ended ran.1 did.ran did.back told
