use Rattle.erm_turn_cases.proofs.Turned.{own_runs_of_turns}
use Rattle.erm_turn_cases.proofs.turns_are_own_runs.Goals as goal

pub returns : goal.returns
returns c = own_runs_of_turns c.calls_move_on.ensures.stays c.calls_move_on.ensures.goes_on
