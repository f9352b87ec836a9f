use Rattle.std.proofs.Common.{subst, sym, ◌∙◌}
use Rattle.std.proofs.lemmas.Option.{get_or_from_slice_get}
use Rattle.erm_client_threads.specs.Work.{IsJob, Worked}
use Rattle.erm_threads.proofs.Jobs.{there_is}
use Rattle.erm_client_threads.proofs.threads.work_all.Goals as goal

pub for_each_mut-requires-clause-accepts : goal.for_each_mut-requires-clause-accepts
for_each_mut-requires-clause-accepts g c κs within = λ i p less is.
    (c.requires.law, subst (λ j. IsJob g.S.SharedSession.stands g.S.SharedSession.seat g.S.SharedSession.own j) (sym is) (c.requires.jobs i p.now less))

pub returns : goal.returns
returns g c = record {
  worked = λ k job b at at_b.
      let one = (c.for_each_mut.ensures k job (there_is c.args.jobs.now k job at)).1 in
      let so = Worked g.S.SharedSession.stands g.S.SharedSession.seat g.S.SharedSession.own g.S.SharedSession.ends g.T.Turns.told g.P.Program.promises in
      subst (λ x. so job x) (one.left ∙ get_or_from_slice_get c.for_each_mut.new.s k b job at_b)
      (subst (λ x. so x one.after_call.now) (one.argument_is ∙ get_or_from_slice_get c.args.jobs.now k job job at) one.call);
}
