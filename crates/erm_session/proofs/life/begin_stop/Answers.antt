use Rattle.std.proofs.Common.{ℕ, sym, subst, rules}
use Rattle.erm_rule.specs.declared.view.View.{View}
use Rattle.erm_seats.specs.declared.answer.BeginStop as seats_answer
use Rattle.erm_seats.specs.declared.answer.BeginStop.TheVariants as seats
use Rattle.erm_seats.specs.Calls.{DidStop}
use Rattle.erm_world.specs.declared.stops.BeginStop.{BeginStop}
use Rattle.erm_session.specs.Calls.{MayNotBegin}
use Rattle.erm_session.specs.Took.{stop_of}
use Rattle.erm_session.proofs.life.begin_stop.Goals as goal

-- the only reason is the log's end
stops : (stop : seats_answer.BeginStop) (v w : View) (who : ℕ) → DidStop v who stop w → MayNotBegin v who (stop_of stop) w
stops (seats.LogEnd tail) v w who did = did

pub returns-clause-is : goal.returns-clause-is
returns-clause-is c = search rules

pub returns-clause-refused : goal.returns-clause-refused
returns-clause-refused c v w who did = subst (λ (stop : BeginStop). MayNotBegin v who stop w) (sym (returns-clause-is c)) (stops c.args.stop v w who did)
