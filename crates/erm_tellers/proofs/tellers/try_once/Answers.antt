use Rattle.erm_tellers.proofs.Behind.{served_over, served_so}
use Rattle.erm_tellers.proofs.tellers.try_once.Goals as goal

pub returns-then-is_done-clause-ended : goal.returns-then-is_done-clause-ended
returns-then-is_done-clause-ended g c = served_so c.args.task c.attempt-outcome.result (g.X.Transactions.transcript c.args.client.now) (g.X.Transactions.transcript c.attempt-outcome.new.client)
    c.attempt-outcome.ensures.came_to (c.is_done.ensures.done c.if-is_done.true)

pub returns-then-is_done-clause-rests : goal.returns-then-is_done-clause-rests
returns-then-is_done-clause-rests g c = c.attempt-outcome.ensures.rests (c.is_done.ensures.done c.if-is_done.true)

pub returns-clause-ended : goal.returns-clause-ended
returns-clause-ended g c = served_over c.args.task c.attempt-outcome.result (g.X.Transactions.transcript c.args.client.now) (g.X.Transactions.transcript c.attempt-outcome.new.client) (g.X.Transactions.transcript c.give_up.new.client)
    c.attempt-outcome.ensures.came_to (c.is_done.ensures.undone c.if-is_done.false) c.give_up.ensures.went c.give_up.ensures.aborts
