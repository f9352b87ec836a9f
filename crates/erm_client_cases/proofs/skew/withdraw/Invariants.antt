use Rattle.erm_client.specs.Dealings.{AllCommitted}
use Rattle.erm_client_cases.proofs.skew.withdraw.Given as goal
use Rattle.erm_tellers.specs.Tellers.{IsOfTellers}

abbrev pub invariant-loop-place : goal.invariant-loop-place
invariant-loop-place g l = g.X.Transactions.stands l.both.first
    × AllCommitted IsOfTellers (g.X.Transactions.transcript l.both.first)
    × g.X.Transactions.stands l.both.second
    × AllCommitted IsOfTellers (g.X.Transactions.transcript l.both.second)
