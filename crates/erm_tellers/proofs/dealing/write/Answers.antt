use Rattle.std.proofs.Common.{ℕ, ap}
use Rattle.erm_model.specs.declared.operation.Reply.TheVariants as reply
use Rattle.erm_report.specs.declared.answer.Answer.TheVariants as answer
use Rattle.erm_script.specs.declared.script.Command.TheVariants as command
use Rattle.erm_tellers.proofs.dealing.write.Goals as goal
use Rattle.erm_tellers.proofs.Kept.{done_by, granted_so, refused_by, written_at}
use Rattle.erm_tellers.specs.Plans.{puts}
use Rattle.erm_tellers.specs.Tellers.{account_of}

pub returns-clause-went : goal.returns-clause-went
returns-clause-went g c = done_by (g.X.Transactions.transcript c.args.client.now) (g.X.Transactions.transcript c.put.new.self) (g.met.X.Transactions.told c.args.client.now c.requires.stands) (answer.Replied reply.Done)
    (command.Put c.table.result c.args.customer c.args.value) c.put.result tt (λ no. no) c.put.ensures.ok c.put.ensures.err

pub returns-clause-done : goal.returns-clause-done
returns-clause-done g c = granted_so (g.X.Transactions.transcript c.args.client.now) (g.X.Transactions.transcript c.put.new.self) (g.met.X.Transactions.told c.args.client.now c.requires.stands) (answer.Replied reply.Done)
    (command.Put c.table.result c.args.customer c.args.value) (puts (account_of c.args.side) c.args.customer c.args.value) c.put.result (λ no. cc) (ap (λ (n : ℕ). command.Put n c.args.customer c.args.value) c.table.ensures) c.put.ensures.ok

pub returns-clause-at : goal.returns-clause-at
returns-clause-at g c = written_at (g.X.Transactions.transcript c.args.client.now) (g.X.Transactions.transcript c.put.new.self) (g.met.X.Transactions.told c.args.client.now c.requires.stands) (account_of c.args.side) c.args.customer c.table.result c.args.value c.put.result c.table.ensures c.put.ensures.ok

pub returns-clause-err : goal.returns-clause-err
returns-clause-err g c = refused_by (g.X.Transactions.transcript c.args.client.now) (g.X.Transactions.transcript c.put.new.self) (g.met.X.Transactions.told c.args.client.now c.requires.stands) (command.Put c.table.result c.args.customer c.args.value)
    (puts (account_of c.args.side) c.args.customer c.args.value) c.put.result (ap (λ (n : ℕ). command.Put n c.args.customer c.args.value) c.table.ensures) c.put.ensures.err
