-- The world over the word table, between calls of a flusher.
use Rattle.erm_core_steps.specs.Keeping as keeping
use Rattle.erm_model.specs.RowTransaction.{Law}
use Rattle.erm_table_world.specs.declared.table_world.TableWorld.{TableWorld}
use Rattle.erm_table_world.specs.Stands.{Stands, world_view}

-- a flusher's calls leave the sessions with their savepoints, the opening and the end of the log
abbrev pub KeepsSessions : {L : Type 0} → Law → TableWorld L → TableWorld L → Type 0
KeepsSessions law p q = keeping.KeepsSessions (Stands law) world_view p q
