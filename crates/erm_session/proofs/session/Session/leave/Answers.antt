use Rattle.erm_rule.specs.Views.{view}
use Rattle.erm_session.proofs.Ending.{spare_stays}
use Rattle.erm_session.proofs.session.Session.leave.Goals as goal

pub returns-then-commits-clause-spare : goal.returns-then-commits-clause-spare
returns-then-commits-clause-spare g c =
    spare_stays (view c.args.p.now) c.args.self.now.seat (view c.commit_end.new.p) c.args.self.now.spare c.requires.may.decided c.commit_end.ensures.committed
    c.requires.may.spare_is
