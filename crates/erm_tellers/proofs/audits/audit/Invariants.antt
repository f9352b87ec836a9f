use Rattle.std.proofs.Common.{◌≤◌, max}
use Rattle.erm_client.specs.Clients.{GoesOn, Rests}
use Rattle.erm_tellers.proofs.audits.audit.Given as goal
use Rattle.erm_tellers.specs.Plans.{IsAuditPlan}
use Rattle.erm_tellers.specs.Served.{AuditedOnce}
use Rattle.erm_tellers.specs.Tries.{IsUnsafe, Tried}

-- what so many tries came to
abbrev pub invariant-tries : goal.invariant-tries
invariant-tries g l = record {
  on : GoesOn g.S.SharedSession.stands g.S.SharedSession.seat g.S.SharedSession.own g.S.SharedSession.ends g.T.Turns.told l.fn.client l.client;
  within : l._tried ≤ max l.tries 1;
  ended : Tried (IsAuditPlan l.low l.high) IsUnsafe (AuditedOnce l.low l.high l.found) (Unit {0}) l._tried l.fn.client.transcript l.client.transcript;
  rests : Rests g.S.SharedSession.seat g.S.SharedSession.own l.client;
}
