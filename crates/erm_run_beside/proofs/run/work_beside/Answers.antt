use Rattle.std.proofs.Common.{◌≡◌, ◌<◌, ◌⊎◌, true, false, map, refl}
use Rattle.erm_run_beside.proofs.More.{same_jobs}
use Rattle.erm_run_beside.proofs.Worked.{all_in_place, all_jobs, met_some, whole_in_place}
use Rattle.erm_run_beside.proofs.run.work_beside.Goals as goal

pub work_all-requires-clause-jobs : goal.work_all-requires-clause-jobs
work_all-requires-clause-jobs g c κs within =
    all_jobs g.L.RowLaw.law c.args.table.now c.args._opening.now _ c.args.sessions.items _ c.as_mut_slice.result.now c.requires.new c.requires.lines
    (same_jobs c.args.sessions.items (map (λ p. p.lines.items) c.args.room.parts.items) _ c.as_mut_slice.result.now c.make_jobs.new.jobs.items refl c.as_mut_slice.ensures.value c.make_jobs.ensures.jobs)

pub returns : goal.returns
returns g c =
    let ss = c.args.sessions.items in
    let ps = map (λ p. p.lines.items) c.args.room.parts.items in
    let js = c.as_mut_slice.result.now in
    let ys = c.make_jobs.new.jobs.items in
    let same = c.as_mut_slice.ensures.value in
    let jobs = same_jobs ss ps _ js ys refl same c.make_jobs.ensures.jobs in
    record {
      worked =
          all_in_place g.L.RowLaw.law c.args.table.now c.args._opening.now _ c.make_jobs.new.jobs.len ss ps js ys c.work_all.new.jobs c.take_back.new.done.items same c.work_all.auto.jobs c.make_jobs.new.jobs.ok.0
          c.take_back.ensures.done c.requires.new jobs c.work_all.ensures.worked;
      whole =
          whole_in_place _ (λ turns. ((0 < turns.met.amount) ⊎ (turns.starved ≡ true)) × (turns.starved ≡ false)) g.L.RowLaw.law c.args.table.now c.args._opening.now _ c.make_jobs.new.jobs.len ss ps js ys c.work_all.new.jobs
          c.take_back.new.done.items same c.work_all.auto.jobs c.make_jobs.new.jobs.ok.0 c.take_back.ensures.done c.requires.new jobs c.work_all.ensures.told
          (λ k b at some. met_some some (c.take_back.ensures.met k b at));
    }
