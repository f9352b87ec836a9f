use Rattle.erm_log_words.proofs.Empty.{empty_kept, nothing_reads}
use Rattle.erm_log_words.proofs.empty_disks_are_kept.Goals as goal

pub returns : goal.returns
returns g c = record { fresh = nothing_reads; kept = empty_kept g.R.RecoveryRule.recovers }
