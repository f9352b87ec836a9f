use Rattle.std.proofs.Common.{Some, subst}
use Rattle.erm_summary.specs.Told.{IsAskedAt}
use Rattle.erm_summary.proofs.Sessions.{follows_reply}
use Rattle.erm_summary.proofs.hearing.Session.reply.Goals as goal

pub returns-in_ok-add_look-clause-follows : goal.returns-in_ok-add_look-clause-follows
returns-in_ok-add_look-clause-follows c script answers asked a p reply is f =
    follows_reply script answers (Some c.in-Some.place) asked a p c.args.self.now c.add_line.new.current c.add_look.new.watched reply
    (subst (λ o. IsAskedAt script answers o asked a) c.in-Some.is is) c.in_ok-add_line.ensures c.in_ok-add_look.ensures f
