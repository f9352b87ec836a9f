use Rattle.erm_core_turns.proofs.LogIs.{log_is}
use Rattle.erm_core_turns.proofs.Whole.{log_of_view}
use Rattle.erm_core_turns.proofs.states_have_logs.Goals as goal

pub returns-clause-is : goal.returns-clause-is
returns-clause-is g c sessions core under quiet = log_is g.L.RowLaw.law c.blocks_are_a_log_list.ensures sessions core under quiet c.logs_go_on.ensures.more

pub returns-clause-of_view : goal.returns-clause-of_view
returns-clause-of_view g c sessions core under quiet = log_of_view g.L.RowLaw.law sessions core under quiet (c.views_are_serializable.ensures sessions core under quiet)
