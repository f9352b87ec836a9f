use Rattle.std.proofs.Common.{◌≡◌, ◌<◌, Some, length, sym, ap, ◌∙◌, subst, arith}
use Rattle.std.specs.List.{slice_get}
use Rattle.erm_client_beside.specs.Back.{AreBack}
use Rattle.erm_client_beside.specs.Jobs.{AreJobs}
use Rattle.erm_client_beside.proofs.Worked.{all_finished, all_jobs, all_left}
use Rattle.erm_run_beside.proofs.More.{put_back}
use Rattle.erm_client_beside.proofs.work.work_beside.Goals as goal

pub work_all-requires-clause-jobs : goal.work_all-requires-clause-jobs
work_all-requires-clause-jobs g c κs within =
    let law = g.L.RowLaw.law in
    all_jobs law c.args.table.now c.args.opening.now c.args.programs.items c.as_mut_slice.result.now
    (subst (λ l. AreJobs law c.args.table.now c.args.opening.now c.args.programs.items l) (sym c.as_mut_slice.ensures.value) c.make_jobs.ensures.jobs)

pub take_back-requires-clause-done : goal.take_back-requires-clause-done
take_back-requires-clause-done g c k b at =
    let js = c.as_mut_slice.result.now in
    let ys = c.make_jobs.new.jobs.items in
    let bs = c.work_all.new.jobs in
    let here = put_back c.make_jobs.new.jobs.len bs ys (c.work_all.auto.jobs ∙ ap (λ l. length l) c.as_mut_slice.ensures.value) c.make_jobs.new.jobs.ok.0 in
    all_finished g.L.RowLaw.law c.args.table.now c.args.opening.now g.P.Program.promises (0 < c.args.met.now.amount) (λ turns. 0 < turns.turns.met.amount)
    js bs c.work_all.auto.jobs c.work_all.ensures.worked k b (subst (λ l. slice_get l k ≡ Some b) here at)

pub returns : goal.returns
returns g c =
    let law = g.L.RowLaw.law in
    let js = c.as_mut_slice.result.now in
    let ys = c.make_jobs.new.jobs.items in
    let bs = c.work_all.new.jobs in
    let here = put_back c.make_jobs.new.jobs.len bs ys (c.work_all.auto.jobs ∙ ap (λ l. length l) c.as_mut_slice.ensures.value) c.make_jobs.new.jobs.ok.0 in
    record {
      left = all_left law c.args.table.now c.args.opening.now g.P.Program.promises (0 < c.take_back.new.met.amount) (λ turns. 0 < turns.turns.met.amount)
          c.args.programs.items js bs c.take_back.new.sessions.items c.take_back.new.runs.items c.work_all.auto.jobs
          (subst (λ l. AreJobs law c.args.table.now c.args.opening.now c.args.programs.items l) (sym c.as_mut_slice.ensures.value) c.make_jobs.ensures.jobs)
          c.work_all.ensures.worked (subst (λ l. AreBack l c.take_back.new.sessions.items c.take_back.new.runs.items) here c.take_back.ensures.back)
          (λ k b at left is told. let most = c.take_back.ensures.met k b (subst (λ l. slice_get l k ≡ Some b) (sym here) at) left is in omega (arith, told, most));
    }
