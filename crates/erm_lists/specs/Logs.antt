-- The log of the world in lists.
use Rattle.erm_core.specs.Cores.{core_of}
use Rattle.erm_core_steps.specs.Keeping as keeping
use Rattle.erm_core_turns.specs.Turns.{log_of}
use Rattle.erm_model.specs.RowTransaction.{Law}
use Rattle.erm_lists.specs.declared.lists.Lists.{Lists}
use Rattle.erm_lists.specs.Stands.{Stands, lists_view}
use Rattle.erm_world.specs.Log.{Log}

abbrev pub lists_log : {L : Type 0} → Lists L → Log
lists_log p = log_of p.sessions (core_of p.state)

-- a flusher's calls leave the sessions, the opening and the end of the log
abbrev pub KeepsSessions : {L : Type 0} → Law → Lists L → Lists L → Type 0
KeepsSessions law p q = keeping.KeepsSessions (Stands law) lists_view p q
