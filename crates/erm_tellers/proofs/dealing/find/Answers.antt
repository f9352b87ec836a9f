use Rattle.std.proofs.Common.{List, ℕ, ap}
use Rattle.erm_model.specs.declared.operation.Reply.TheVariants as reply
use Rattle.erm_report.specs.declared.answer.Answer.TheVariants as answer
use Rattle.erm_script.specs.declared.script.Command.TheVariants as command
use Rattle.erm_tellers.proofs.dealing.find.Goals as goal
use Rattle.erm_tellers.proofs.Kept.{found_at, granted_by, refused_by, seen_at, went_by}
use Rattle.erm_tellers.specs.Plans.{scans}
use Rattle.erm_tellers.specs.Tellers.{account_of}

pub returns-clause-went : goal.returns-clause-went
returns-clause-went g c = went_by (g.X.Transactions.transcript c.args.client.now) (g.X.Transactions.transcript c.scan.new.self) (g.met.X.Transactions.told c.args.client.now c.requires.stands) (λ (found : List (ℕ × List ℕ)). answer.Replied (reply.Found found))
    (command.Scan c.table.result c.args.low c.args.high) c.scan.result (λ y. tt) (λ no. no) c.scan.ensures.ok c.scan.ensures.err

pub returns-clause-done : goal.returns-clause-done
returns-clause-done g c = granted_by (g.X.Transactions.transcript c.args.client.now) (g.X.Transactions.transcript c.scan.new.self) (g.met.X.Transactions.told c.args.client.now c.requires.stands) (λ (found : List (ℕ × List ℕ)). answer.Replied (reply.Found found))
    (command.Scan c.table.result c.args.low c.args.high) (scans (account_of c.args.side) c.args.low c.args.high) c.scan.result (λ y no. cc) (ap (λ (n : ℕ). command.Scan n c.args.low c.args.high) c.table.ensures) c.scan.ensures.ok

pub returns-clause-at : goal.returns-clause-at
returns-clause-at g c = found_at (g.X.Transactions.transcript c.args.client.now) (g.X.Transactions.transcript c.scan.new.self) (g.met.X.Transactions.told c.args.client.now c.requires.stands) (account_of c.args.side) c.args.low c.args.high c.table.result c.scan.result c.table.ensures c.scan.ensures.ok

pub returns-clause-seen : goal.returns-clause-seen
returns-clause-seen g c = seen_at (g.X.Transactions.transcript c.args.client.now) (g.X.Transactions.transcript c.scan.new.self) (g.met.X.Transactions.told c.args.client.now c.requires.stands) (account_of c.args.side) c.args.low c.args.high c.table.result c.scan.result c.table.ensures c.scan.ensures.ok

pub returns-clause-err : goal.returns-clause-err
returns-clause-err g c = refused_by (g.X.Transactions.transcript c.args.client.now) (g.X.Transactions.transcript c.scan.new.self) (g.met.X.Transactions.told c.args.client.now c.requires.stands) (command.Scan c.table.result c.args.low c.args.high)
    (scans (account_of c.args.side) c.args.low c.args.high) c.scan.result (ap (λ (n : ℕ). command.Scan n c.args.low c.args.high) c.table.ensures) c.scan.ensures.err
