use Rattle.erm_safe_world.proofs.Calls.{no_save_moves, not_begun_moves, not_claimed_moves, not_made_moves, not_read_moves, not_safe_moves, not_saved_moves}
use Rattle.erm_safe_world.proofs.Moved.{moves_nowhere}
use Rattle.erm_safe_world.proofs.refusals_move_on.Goals as goal

pub returns-clause-begins : goal.returns-clause-begins
returns-clause-begins c v t seat why told = not_begun_moves v t seat why told

pub returns-clause-reads : goal.returns-clause-reads
returns-clause-reads c v t seat oid why told = not_read_moves v t seat oid why told

pub returns-clause-claims : goal.returns-clause-claims
returns-clause-claims c v t seat oid why told = not_claimed_moves v t seat oid why told

pub returns-clause-makes : goal.returns-clause-makes
returns-clause-makes c v t seat why told = not_made_moves v t seat why told

pub returns-clause-saves : goal.returns-clause-saves
returns-clause-saves c v t seat why told = not_saved_moves v t seat why told

pub returns-clause-backs : goal.returns-clause-backs
returns-clause-backs c v t seat n held told = no_save_moves v t seat n held told

pub returns-clause-settles : goal.returns-clause-settles
returns-clause-settles c v t seat why told = moves_nowhere v t told.0

pub returns-clause-safe : goal.returns-clause-safe
returns-clause-safe c v t seat why told = not_safe_moves v t seat why told
