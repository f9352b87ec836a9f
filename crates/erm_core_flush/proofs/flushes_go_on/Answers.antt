use Rattle.std.proofs.Common.{refl}
use Rattle.erm_core_flush.proofs.Turns.{clear_turns, first_turns, store_turns}
use Rattle.erm_core_flush.proofs.flushes_go_on.Goals as goal

pub returns-clause-first : goal.returns-clause-first
returns-clause-first c core tail from block end sound at less = first_turns core sound tail from block end end at refl less

pub returns-clause-clears : goal.returns-clause-clears
returns-clause-clears c core next to sound at less = clear_turns core sound next to at less

pub returns-clause-stores : goal.returns-clause-stores
returns-clause-stores c core to sound at = store_turns core sound to at
