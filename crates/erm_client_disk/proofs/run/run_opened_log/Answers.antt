use Rattle.std.proofs.Common.{List, Option, IfOk, sym, subst, arith}
use Rattle.std.specs.Prelude.{IfErr}
use Rattle.erm_ckpt.specs.Recovered.{State}
use Rattle.erm_client_disk.proofs.OnDisk.{counts_none, counts_so, none_so, ran_so}
use Rattle.erm_client_disk.proofs.Opened.{held, sound_rows}
use Rattle.erm_client_disk.specs.Ran.{CountsNone, CountsRun, NoneRan, WereRun}
use Rattle.erm_disk_run.specs.Opened.{WasLogOpened}
use Rattle.erm_model.specs.Rows.{rows_of}
use Rattle.erm_outside.specs.Disk.{Step}
use Rattle.erm_start.proofs.First.{new_unreached}
use Rattle.erm_start.specs.Recovered.{IsFirstObject}
use Rattle.erm_client_disk.proofs.run.run_opened_log.Goals as goal

pub run_programs-disk-requires-clause-unreached : goal.run_programs-disk-requires-clause-unreached
run_programs-disk-requires-clause-unreached g c κs within oid above =
    let m = c.requires.opened in
    let first = c.first_object-first.result in
    new_unreached c.programs_have_laws.ensures.zeros (rows_of c.args.opened.rows.items) first
    (sound_rows m.0 (g.D.Disk.told c.args.disk) m.1 c.args.opened m.2 first) (subst (λ rows. IsFirstObject (rows_of rows) first) c.deref.ensures.value c.first_object-first.ensures) oid above

pub run_programs-disk-requires-clause-holds : goal.run_programs-disk-requires-clause-holds
run_programs-disk-requires-clause-holds g c κs within = let m = c.requires.opened in held m.0 (g.D.Disk.told c.args.disk) m.1 c.args.opened m.2 c.first_object-first.result

pub returns-clause-ran : goal.returns-clause-ran
returns-clause-ran g c =
    let first = c.first_object-first.result in
    let is_first = subst (λ rows. IsFirstObject (rows_of rows) first) c.deref.ensures.value c.first_object-first.ensures in
    let disk = c.run_programs-disk.result.0 in
    let few = c.requires.few in
    let ok = c.args.programs.ok.0 in
    subst (λ r. IfOk r (λ ran. (before : Option (List Step)) (state : State) → WasLogOpened before (g.D.Disk.told c.args.disk) state c.args.opened
    → WereRun g.P.Program.promises before (g.D.Disk.told disk) state ran.failed c.args.programs.items ran.programs.items)) (sym c.ended-ended.ensures)
    (ran_so c.programs_have_laws.ensures g.P.Program.promises (g.D.Disk.told c.args.disk) (g.D.Disk.told disk) (g.D.Disk.faults c.args.disk) (g.D.Disk.faults disk) c.args.opened first is_first c.args.programs
    (omega (arith, few, ok)) c.run_programs-disk.result.1 c.run_programs-disk.ensures.ran)

pub returns-clause-none : goal.returns-clause-none
returns-clause-none g c =
    let first = c.first_object-first.result in
    let is_first = subst (λ rows. IsFirstObject (rows_of rows) first) c.deref.ensures.value c.first_object-first.ensures in
    let disk = c.run_programs-disk.result.0 in
    let few = c.requires.few in
    let ok = c.args.programs.ok.0 in
    subst (λ r. IfErr r (λ stop. (before : Option (List Step)) (state : State) → WasLogOpened before (g.D.Disk.told c.args.disk) state c.args.opened
    → NoneRan stop c.args.programs.items before (g.D.Disk.told disk))) (sym c.ended-ended.ensures)
    (none_so c.programs_have_laws.ensures g.P.Program.promises (g.D.Disk.told c.args.disk) (g.D.Disk.told disk) (g.D.Disk.faults c.args.disk) (g.D.Disk.faults disk) c.args.opened first is_first c.args.programs
    (omega (arith, few, ok)) c.run_programs-disk.result.1 c.run_programs-disk.ensures.back)

pub returns-clause-counts : goal.returns-clause-counts
returns-clause-counts g c =
    let first = c.first_object-first.result in
    let is_first = subst (λ rows. IsFirstObject (rows_of rows) first) c.deref.ensures.value c.first_object-first.ensures in
    let disk = c.run_programs-disk.result.0 in
    let few = c.requires.few in
    let ok = c.args.programs.ok.0 in
    subst (λ r. IfOk r (λ ran. CountsRun ran.failed (g.D.Disk.faults c.args.disk) (g.D.Disk.faults disk))) (sym c.ended-ended.ensures)
    (counts_so c.programs_have_laws.ensures g.P.Program.promises (g.D.Disk.told c.args.disk) (g.D.Disk.told disk) (g.D.Disk.faults c.args.disk) (g.D.Disk.faults disk) c.args.opened first is_first c.args.programs
    (omega (arith, few, ok)) c.run_programs-disk.result.1 c.run_programs-disk.ensures.ran)

pub returns-clause-counts_none : goal.returns-clause-counts_none
returns-clause-counts_none g c =
    let first = c.first_object-first.result in
    let is_first = subst (λ rows. IsFirstObject (rows_of rows) first) c.deref.ensures.value c.first_object-first.ensures in
    let disk = c.run_programs-disk.result.0 in
    let few = c.requires.few in
    let ok = c.args.programs.ok.0 in
    subst (λ r. IfErr r (λ stop. CountsNone stop (g.D.Disk.faults c.args.disk) (g.D.Disk.faults disk))) (sym c.ended-ended.ensures)
    (counts_none c.programs_have_laws.ensures g.P.Program.promises (g.D.Disk.told c.args.disk) (g.D.Disk.told disk) (g.D.Disk.faults c.args.disk) (g.D.Disk.faults disk) c.args.opened first is_first c.args.programs
    (omega (arith, few, ok)) c.run_programs-disk.result.1 c.run_programs-disk.ensures.back)
