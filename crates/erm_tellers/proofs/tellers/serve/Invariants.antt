use Rattle.std.proofs.Common.{◌≤◌, max}
use Rattle.erm_tellers.proofs.tellers.serve.Given as goal
use Rattle.erm_tellers.specs.Plans.{IsPlan}
use Rattle.erm_tellers.specs.Served.{ServedOnce}
use Rattle.erm_tellers.specs.Tries.{IsPassing, Tried}

-- what so many tries came to
abbrev pub invariant-tries : goal.invariant-tries
invariant-tries g l = record {
  stands : g.X.Transactions.stands l.client;
  on : g.X.Transactions.goes l.fn.client l.client;
  within : l._tried ≤ max l.tries 1;
  ended : Tried (IsPlan l.task) IsPassing (ServedOnce l.task l.outcome) (Unit {0}) l._tried (g.X.Transactions.transcript l.fn.client) (g.X.Transactions.transcript l.client);
  rests : g.X.Transactions.rests l.client;
}
