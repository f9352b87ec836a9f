use Rattle.std.proofs.lemmas.List.Elements.{All-same}
use Rattle.erm_engine.proofs.GivenUp.{new_idle}
use Rattle.erm_node.specs.declared.laws.SoundRows.{SoundRows}
use Rattle.erm_node.specs.Sound.{sound_law}
use Rattle.erm_shared_session.specs.declared.session.TableSession.{TableSession}
use Rattle.erm_shared_session.specs.Stands.{Ends, Stands, own_of, seat_of}
use Rattle.erm_threads.specs.declared.job.Job.{Job}
use Rattle.erm_threads.specs.Work.{IsJob}
use Rattle.erm_beside_cases.specs.declared.meeting.Meet.{Meet}
use Rattle.erm_beside_cases.specs.declared.meets.Patience.{Patience}
use Rattle.erm_beside_cases.proofs.Left.{left_standing}
use Rattle.erm_beside_cases.proofs.meets.two_sessions_seal_at_once.Goals as goal

pub end_all-requires : goal.end_all-requires
end_all-requires g c = record { idle = new_idle sound_law c.in_ok-table.field-0.table c.in_ok-table.ensures.0 2 c.in_ok-table.field-0.sessions.items c.in_ok-table.ensures.1.sessions }

pub work_all-requires-clause-jobs : goal.work_all-requires-clause-jobs
work_all-requires-clause-jobs g c κs =
    let is : Job (Meet (TableSession SoundRows)) Patience → Type 0 = λ j. IsJob (λ s. Stands sound_law c.in_ok-table.field-0.table s.session) (λ s. seat_of s.session) (λ s. own_of s.session) j in
    All-same is c.as_mut_slice.result.now c.put_jobs.new.jobs.items c.as_mut_slice.ensures.value c.put_jobs.ensures

pub give_up-requires : goal.give_up-requires
give_up-requires g c = record {
  stand =
      left_standing {S = Meet (TableSession SoundRows)} {T = Patience} (λ s. Stands sound_law c.in_ok-table.field-0.table s.session) (λ s. seat_of s.session) (λ s. own_of s.session) (λ s f. Ends sound_law s.session f)
      c.put_jobs.new.jobs.len c.as_mut_slice.result.now c.put_jobs.new.jobs.items c.work_all.new.jobs c.as_mut_slice.ensures.value c.work_all.auto.jobs c.put_jobs.new.jobs.ok.0 c.work_all.ensures.worked;
}
