use Rattle.std.proofs.Common.{◌≡◌, ◌∙◌, Option, None, sym, subst}
use Rattle.erm_good_report.specs.Transactions.{Commits, ended}
use Rattle.erm_summary.specs.declared.hearing.Begun.{Begun}
use Rattle.erm_summary.specs.declared.hearing.Session.{Session}
use Rattle.erm_summary.specs.Told.{Follows, given_up}
use Rattle.erm_summary.proofs.Sessions.{follows_commit, follows_no_commit}
use Rattle.erm_summary.proofs.hearing.Session.commit.Goals as goal
use Rattle.erm_summary.proofs.hearing.Session.commit.Goals.{in-Some+in_ok-push, in_default}

pub returns-clause-follows : goal.returns-clause-follows
returns-clause-follows c script answers p f =
    let s = c.args.self.now in
    let Now = λ (x : Session). Follows script answers (ended (Commits c.args.stamp c.args.succ c.args.pred) p) (given_up x) in
    subst (Follows script answers (ended (Commits c.args.stamp c.args.succ c.args.pred) p)) (sym c.give_up.ensures)
    (elim c.match-take.branch [
      | in-Some+in_ok-push w ↦
          subst Now (sym w.self-is)
          (follows_commit script answers c.args.stamp c.args.succ c.args.pred p s w.in-Some.begun w.push.new.self c.take.new.self (sym w.in-Some.ensures.value) w.in_ok-push.ensures.items w.in-Some.ensures.after f)
      | in_default w ↦
          let none : s.current ≡ None = sym c.take.ensures.value ∙ w.in_default.is in
          subst Now (sym w.self-is)
          (subst (λ (o : Option Begun). Now (record s { current = o })) (none ∙ sym c.take.ensures.after) (follows_no_commit script answers c.args.stamp c.args.succ c.args.pred p s none f))
    ])
