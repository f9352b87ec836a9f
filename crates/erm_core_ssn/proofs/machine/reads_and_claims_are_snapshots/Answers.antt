-- Each transaction reads and claims the newest versions below its begin stamp.
use Rattle.erm_core_ssn.proofs.RowsHistory.{read_snapshot, claim_snapshot, claim_kept}
use Rattle.erm_core_ssn.proofs.machine.reads_and_claims_are_snapshots.Goals as goal

pub returns-clause-reads : goal.returns-clause-reads
returns-clause-reads c = λ core sound seat t r m n. read_snapshot core sound seat t r m n

pub returns-clause-claims : goal.returns-clause-claims
returns-clause-claims c = λ core sound seat t w m n. claim_snapshot core sound seat t w m n

pub returns-clause-kept : goal.returns-clause-kept
returns-clause-kept c = λ core sound seat t w m n unset. claim_kept core sound seat t w m n unset
