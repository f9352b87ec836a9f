use Rattle.std.proofs.Common.{List, ℕ, Option, ap}
use Rattle.erm_model.specs.declared.operation.Reply.TheVariants as reply
use Rattle.erm_report.specs.declared.answer.Answer.TheVariants as answer
use Rattle.erm_script.specs.declared.script.Command.TheVariants as command
use Rattle.erm_tellers.proofs.dealing.read.Goals as goal
use Rattle.erm_tellers.proofs.Kept.{granted_by, read_at, refused_by, went_by}
use Rattle.erm_tellers.specs.Plans.{gets}
use Rattle.erm_tellers.specs.Tellers.{account_of}

pub returns-clause-went : goal.returns-clause-went
returns-clause-went g c = went_by (g.X.Transactions.transcript c.args.client.now) (g.X.Transactions.transcript c.get.new.self) (g.met.X.Transactions.told c.args.client.now c.requires.stands) (λ (value : Option (List ℕ)). answer.Replied (reply.Value value))
    (command.Get c.table.result c.args.customer) c.get.result (λ y. tt) (λ no. no) c.get.ensures.ok c.get.ensures.err

pub returns-clause-done : goal.returns-clause-done
returns-clause-done g c = granted_by (g.X.Transactions.transcript c.args.client.now) (g.X.Transactions.transcript c.get.new.self) (g.met.X.Transactions.told c.args.client.now c.requires.stands) (λ (value : Option (List ℕ)). answer.Replied (reply.Value value))
    (command.Get c.table.result c.args.customer) (gets (account_of c.args.side) c.args.customer) c.get.result (λ y no. cc) (ap (λ (n : ℕ). command.Get n c.args.customer) c.table.ensures) c.get.ensures.ok

pub returns-clause-at : goal.returns-clause-at
returns-clause-at g c = read_at (g.X.Transactions.transcript c.args.client.now) (g.X.Transactions.transcript c.get.new.self) (g.met.X.Transactions.told c.args.client.now c.requires.stands) (account_of c.args.side) c.args.customer c.table.result c.get.result c.table.ensures c.get.ensures.ok

pub returns-clause-err : goal.returns-clause-err
returns-clause-err g c = refused_by (g.X.Transactions.transcript c.args.client.now) (g.X.Transactions.transcript c.get.new.self) (g.met.X.Transactions.told c.args.client.now c.requires.stands) (command.Get c.table.result c.args.customer)
    (gets (account_of c.args.side) c.args.customer) c.get.result (ap (λ (n : ℕ). command.Get n c.args.customer) c.table.ensures) c.get.ensures.err
