use Rattle.erm_core_turns.proofs.Turns.{log_same, opening_same}
use Rattle.erm_core_turns.proofs.turns_keep_the_log.Goals as goal

pub returns-clause-log : goal.returns-clause-log
returns-clause-log g sessions core d quiet stays = log_same sessions core d quiet stays

pub returns-clause-opening : goal.returns-clause-opening
returns-clause-opening g sessions core d stays = opening_same sessions core d stays
