use Rattle.std.specs.List.{All}
use Rattle.erm_model.specs.RowTransaction.{any_law}
use Rattle.erm_shared_session.specs.Stands.{Stands}
use Rattle.erm_beside_cases.proofs.races.give_up.Given as goal

-- the sessions that are left may be called
abbrev pub invariant-loop-session : goal.invariant-loop-session
invariant-loop-session g l = All (Stands any_law l.table) l.sessions.items

abbrev pub decreases-loop-session : goal.decreases-loop-session
decreases-loop-session g l = goal.left-loop-session g l
