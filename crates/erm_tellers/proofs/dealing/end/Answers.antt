use Rattle.erm_report.specs.declared.answer.Answer.TheVariants as answer
use Rattle.erm_script.specs.declared.script.Command.TheVariants as command
use Rattle.erm_tellers.proofs.dealing.end.Goals as goal
use Rattle.erm_tellers.proofs.Kept.{aborted_by, done_by}

pub returns-clause-went : goal.returns-clause-went
returns-clause-went g c = done_by (g.X.Transactions.transcript c.args.client.now) (g.X.Transactions.transcript c.abort.new.self) (g.met.X.Transactions.told c.args.client.now c.requires.stands) answer.Aborted command.Abort c.abort.result
    tt (λ no. no) c.abort.ensures.ok c.abort.ensures.err

pub returns-clause-aborts : goal.returns-clause-aborts
returns-clause-aborts g c = aborted_by (g.X.Transactions.transcript c.args.client.now) (g.X.Transactions.transcript c.abort.new.self) (g.met.X.Transactions.told c.args.client.now c.requires.stands) c.abort.result c.abort.ensures.ok c.abort.ensures.err
