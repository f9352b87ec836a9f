use Rattle.std.specs.Prelude.{vec_len}
use Rattle.erm_engine.specs.Closed.{AllIdle}
use Rattle.erm_engine.proofs.leaving.end_all.Given as goal

abbrev pub invariant-loop-session : goal.invariant-loop-session
invariant-loop-session g l = AllIdle l.sessions.items

abbrev pub decreases-loop-session : goal.decreases-loop-session
decreases-loop-session g l = vec_len l.sessions
