use Rattle.std.proofs.Common.{refl}
use Rattle.erm_report.specs.declared.answer.Answer.TheVariants as answer
use Rattle.erm_script.specs.declared.script.Command.TheVariants as command
use Rattle.erm_tellers.proofs.dealing.begin.Goals as goal
use Rattle.erm_tellers.proofs.Kept.{begun_at, begun_by, refused_by, went_by}

pub returns-clause-under_way : goal.returns-clause-under_way
returns-clause-under_way g c = begun_by (g.X.Transactions.transcript c.args.client.now) (g.X.Transactions.transcript c.begin.new.self) (g.met.X.Transactions.told c.args.client.now c.requires.stands) answer.Began command.Begin c.begin.result
    (λ y. tt) (λ y no. cc) refl c.begin.ensures.ok

pub returns-clause-at : goal.returns-clause-at
returns-clause-at g c = begun_at (g.X.Transactions.transcript c.args.client.now) (g.X.Transactions.transcript c.begin.new.self) (g.met.X.Transactions.told c.args.client.now c.requires.stands) c.begin.result c.begin.ensures.ok

pub returns-clause-went : goal.returns-clause-went
returns-clause-went g c = went_by (g.X.Transactions.transcript c.args.client.now) (g.X.Transactions.transcript c.begin.new.self) (g.met.X.Transactions.told c.args.client.now c.requires.stands) answer.Began command.Begin c.begin.result
    (λ y. tt) (λ no. no) c.begin.ensures.ok c.begin.ensures.err

pub returns-clause-err : goal.returns-clause-err
returns-clause-err g c = refused_by (g.X.Transactions.transcript c.args.client.now) (g.X.Transactions.transcript c.begin.new.self) (g.met.X.Transactions.told c.args.client.now c.requires.stands) command.Begin command.Begin c.begin.result refl c.begin.ensures.err
