use Rattle.std.proofs.Common.{sym, ◌∙◌, subst}
use Rattle.erm_client.specs.Clients.{GoesOn}
use Rattle.erm_client.specs.Transcripts.{IsNew}
use Rattle.erm_client_threads.proofs.Left.{client_left, ran_so, the_client}
use Rattle.erm_client_threads.proofs.worker.work.Goals as goal

pub finish-requires-clause-ran : goal.finish-requires-clause-ran
finish-requires-clause-ran g c =
    let client = c.in-Some.client in
    let same = the_client c.requires.job.client client c.args.job.now.client c.requires.job.is (sym c.take.ensures.value ∙ c.in-Some.is) in
    let new = subst (λ x. IsNew (g.S.SharedSession.seat x.session) x.transcript) same c.requires.job.new in (
      g.S.SharedSession.own client.session,
      ran_so g.S.SharedSession.stands g.S.SharedSession.seat g.S.SharedSession.own g.S.SharedSession.ends g.T.Turns.told client c.run.new.client new c.run.ensures.on,
    )

pub returns : goal.returns
returns g c =
    let stands = g.S.SharedSession.stands in
    let seat = g.S.SharedSession.seat in
    let own = g.S.SharedSession.own in
    let ends = g.S.SharedSession.ends in
    let told = g.T.Turns.told in
    let client = c.in-Some.client in
    let finish = c.finish.ensures in
    record {
      worked = record {
        gone = c.take.ensures.after;
        left = c.finish.result;
        is = c.replace.ensures.after;
        is_left = λ first is.
            let same = the_client first client c.args.job.now.client is (sym c.take.ensures.value ∙ c.in-Some.is) in
            let was = the_client c.requires.job.client first c.args.job.now.client c.requires.job.is is in
            let new = subst (λ x. IsNew (seat x.session) x.transcript) was c.requires.job.new in
            client_left stands seat own ends told first c.run.new.client new (subst (λ x. GoesOn stands seat own ends told x c.run.new.client) (sym same) c.run.ensures.on)
            c.finish.result finish.stands finish.onward finish.transcript finish.rests finish.did finish.starved finish.waits finish.told;
        promised = subst (λ t. g.P.Program.promises c.args.job.now.program c.run.new.self t) (sym finish.transcript) c.run.ensures.promised;
      };
    }
