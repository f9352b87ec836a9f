use Rattle.erm_core_flush.proofs.Turns.{flushed_turns, tail_turns, word_turns}
use Rattle.erm_core_flush.proofs.gathers_go_on.Goals as goal

pub returns-clause-tail : goal.returns-clause-tail
returns-clause-tail c core sound between = tail_turns core sound between

pub returns-clause-flushed : goal.returns-clause-flushed
returns-clause-flushed c core tail sound at = flushed_turns core sound tail at

pub returns-clause-word : goal.returns-clause-word
returns-clause-word c core tail from block next end sound at may = word_turns core sound tail from block next end at may
