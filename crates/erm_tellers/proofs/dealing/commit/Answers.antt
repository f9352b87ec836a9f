use Rattle.std.proofs.Common.{refl}
use Rattle.erm_client.specs.declared.replies.Commit.{Commit}
use Rattle.erm_report.specs.declared.answer.Answer.TheVariants as answer
use Rattle.erm_script.specs.declared.script.Command.TheVariants as command
use Rattle.erm_tellers.proofs.dealing.commit.Goals as goal
use Rattle.erm_tellers.proofs.Kept.{committed_by, granted_by, refused_by, undone_by}

pub returns-clause-undone : goal.returns-clause-undone
returns-clause-undone g c = undone_by (g.X.Transactions.transcript c.args.client.now) (g.X.Transactions.transcript c.commit.new.self) (g.met.X.Transactions.told c.args.client.now c.requires.stands) c.commit.result c.commit.ensures.err

pub returns-clause-done : goal.returns-clause-done
returns-clause-done g c = granted_by (g.X.Transactions.transcript c.args.client.now) (g.X.Transactions.transcript c.commit.new.self) (g.met.X.Transactions.told c.args.client.now c.requires.stands) (λ (x : Commit). answer.Committed x.stamp x.succ x.pred)
    command.Commit command.Commit c.commit.result (λ y no. cc) refl c.commit.ensures.ok

pub returns-clause-commits : goal.returns-clause-commits
returns-clause-commits g c = committed_by (g.X.Transactions.transcript c.args.client.now) (g.X.Transactions.transcript c.commit.new.self) (g.met.X.Transactions.told c.args.client.now c.requires.stands) c.commit.result c.commit.ensures.ok

pub returns-clause-err : goal.returns-clause-err
returns-clause-err g c = refused_by (g.X.Transactions.transcript c.args.client.now) (g.X.Transactions.transcript c.commit.new.self) (g.met.X.Transactions.told c.args.client.now c.requires.stands) command.Commit command.Commit c.commit.result refl c.commit.ensures.err
