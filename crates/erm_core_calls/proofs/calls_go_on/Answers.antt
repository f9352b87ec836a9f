use Rattle.erm_core_calls.proofs.Goes.{goes_from, registers, claims, leaves_numbers, some_fits}
use Rattle.erm_core_calls.proofs.GoesSnapshots.{snapshot_over}
use Rattle.erm_core_calls.proofs.Seats.{sealing_session}
use Rattle.erm_core_calls.proofs.calls_go_on.Goals as goal

pub returns-clause-goes : goal.returns-clause-goes
returns-clause-goes c = λ b core seat sound call numbers block. goes_from core seat sound b (sealing_session core sound seat) numbers call block

pub returns-clause-registers : goal.returns-clause-registers
returns-clause-registers c = λ core seat sound m. registers core seat sound m

pub returns-clause-claims : goal.returns-clause-claims
returns-clause-claims c = λ core seat sound m. claims core seat sound m

pub returns-clause-blocks : goal.returns-clause-blocks
returns-clause-blocks c = λ core seat sound. some_fits core seat sound

pub returns-clause-numbers : goal.returns-clause-numbers
returns-clause-numbers c = λ core seat oid sound at known. leaves_numbers core seat sound oid at known

pub returns-clause-snapshots : goal.returns-clause-snapshots
returns-clause-snapshots c = λ core seat sound is. snapshot_over core seat sound is
