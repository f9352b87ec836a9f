use Rattle.std.proofs.Common.{refl}
use Rattle.erm_client.proofs.client.Client.commit.Goals as goal
use Rattle.erm_client.proofs.Steps.{leaves_idle, rests_ok, told_err}
use Rattle.erm_client.specs.declared.replies.Commit.{Commit}
use Rattle.erm_report.specs.declared.answer.Answer.TheVariants as answer

pub returns-clause-err : goal.returns-clause-err
returns-clause-err g c = told_err c.args.self.now.transcript c.ask.new.self.transcript _ c.in_ok-ask.ensures.ok c.last.result.now c.last.ensures.last c.commit_in.result c.commit_in.ensures.err

pub returns-clause-rests : goal.returns-clause-rests
returns-clause-rests g c =
    rests_ok g.S.SharedSession.stands g.S.SharedSession.seat g.S.SharedSession.own c.ask.new.self c.ask.ensures.on.client c.commit_in.result
    (leaves_idle c.args.self.now.transcript c.ask.new.self.transcript _ c.in_ok-ask.ensures.ok c.last.result.now c.last.ensures.last
    (λ (x : Commit). answer.Committed x.stamp x.succ x.pred) c.commit_in.result (λ x. refl) c.commit_in.ensures.ok)
