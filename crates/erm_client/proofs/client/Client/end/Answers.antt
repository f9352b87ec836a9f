use Rattle.std.proofs.Common.{refl}
use Rattle.erm_client.proofs.client.Client.end.Goals as goal
use Rattle.erm_client.proofs.Steps.{leaves_idle_so, rests_ok, told_err, unended, unended_by}
use Rattle.erm_report.specs.declared.answer.Answer.TheVariants as answer

pub returns-in_err-ask-clause-err : goal.returns-in_err-ask-clause-err
returns-in_err-ask-clause-err g c =
    unended_by c.args.self.now.transcript c.ask.new.self.transcript c.from_residual.result c.in_err-ask.field-0.0 c.from_residual.ensures c.in_err-ask.ensures.err c.in_err-ask.ensures.other

pub returns-clause-err : goal.returns-clause-err
returns-clause-err g c =
    unended c.args.self.now.transcript c.ask.new.self.transcript c.end_in.result
    (told_err c.args.self.now.transcript c.ask.new.self.transcript _ c.in_ok-ask.ensures.ok c.last.result.now c.last.ensures.last c.end_in.result c.end_in.ensures.err) c.end_in.ensures.other

pub returns-clause-rests : goal.returns-clause-rests
returns-clause-rests g c =
    rests_ok g.S.SharedSession.stands g.S.SharedSession.seat g.S.SharedSession.own c.ask.new.self c.ask.ensures.on.client c.end_in.result
    (leaves_idle_so c.args.self.now.transcript c.ask.new.self.transcript _ c.in_ok-ask.ensures.ok c.last.result.now c.last.ensures.last answer.Ended c.end_in.result refl c.end_in.ensures.ok)
