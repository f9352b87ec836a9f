use Rattle.std.proofs.Common.{Some}
use Rattle.std.proofs.lemmas.List.Elements.{All-pop}
use Rattle.erm_node.specs.declared.laws.SoundRows.{SoundRows}
use Rattle.erm_node.specs.Sound.{sound_law}
use Rattle.erm_shared_session.specs.declared.session.TableSession.{TableSession}
use Rattle.erm_shared_session.specs.Stands.{Stands}
use Rattle.erm_threads.specs.declared.job.Job.{Job}
use Rattle.erm_beside_cases.specs.declared.meeting.Meet.{Meet}
use Rattle.erm_beside_cases.specs.declared.meets.Patience.{Patience}
use Rattle.erm_beside_cases.proofs.meets.give_up.Goals as goal

pub phase-requires : goal.phase-requires
phase-requires g c =
    let stands : Job (Meet (TableSession SoundRows)) Patience → Type 0 = λ j. Stands sound_law c.args.table.now j.session.session in
    record { stands = (All-pop stands c.loop-job.jobs.items c.pop.new.self.items (Some c.in-Some.job) c.in-Some.ensures.items c.loop-job.invariant).1 }

pub loop-job-preserved-in-Idle : goal.loop-job-preserved-in-Idle
loop-job-preserved-in-Idle g c =
    let stands : Job (Meet (TableSession SoundRows)) Patience → Type 0 = λ j. Stands sound_law c.args.table.now j.session.session in
    (All-pop stands c.loop-job.jobs.items c.pop.new.self.items (Some c.in-Some.job) c.in-Some.ensures.items c.loop-job.invariant).0

pub loop-job-preserved-in-Idle-2 : goal.loop-job-preserved-in-Idle-2
loop-job-preserved-in-Idle-2 g c =
    let stands : Job (Meet (TableSession SoundRows)) Patience → Type 0 = λ j. Stands sound_law c.args.table.now j.session.session in
    (All-pop stands c.loop-job.jobs.items c.pop.new.self.items (Some c.in-Some.job) c.in-Some.ensures.items c.loop-job.invariant).0

pub loop-job-preserved-in-Idle-3 : goal.loop-job-preserved-in-Idle-3
loop-job-preserved-in-Idle-3 g c =
    let stands : Job (Meet (TableSession SoundRows)) Patience → Type 0 = λ j. Stands sound_law c.args.table.now j.session.session in
    (All-pop stands c.loop-job.jobs.items c.pop.new.self.items (Some c.in-Some.job) c.in-Some.ensures.items c.loop-job.invariant).0

pub loop-job-preserved : goal.loop-job-preserved
loop-job-preserved g c =
    let stands : Job (Meet (TableSession SoundRows)) Patience → Type 0 = λ j. Stands sound_law c.args.table.now j.session.session in
    (All-pop stands c.loop-job.jobs.items c.pop.new.self.items (Some c.in-Some.job) c.in-Some.ensures.items c.loop-job.invariant).0
