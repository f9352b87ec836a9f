use Rattle.std.proofs.Common.{refl}
use Rattle.erm_core_shown.proofs.Only.{none_after, only_sessions}
use Rattle.erm_core_shown.proofs.sessions_alone_have_transactions.Goals as goal

pub returns-clause-first : goal.returns-clause-first
returns-clause-first g sessions rows tail run first cells q none = refl

pub returns-clause-event : goal.returns-clause-event
returns-clause-event g c d seat kind sound none e = none_after c d seat kind sound none e

pub returns-clause-only : goal.returns-clause-only
returns-clause-only g c sound none = only_sessions c sound none
