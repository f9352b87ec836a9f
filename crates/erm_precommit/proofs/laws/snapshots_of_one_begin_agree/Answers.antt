use Rattle.erm_precommit.proofs.Skews.{one_snapshot}
use Rattle.erm_precommit.proofs.laws.snapshots_of_one_begin_agree.Goals as goal

pub returns : goal.returns
returns c core p q t u read write sound m n same is_read is_written oid = one_snapshot core sound p q t u read write m n same is_read is_written oid
