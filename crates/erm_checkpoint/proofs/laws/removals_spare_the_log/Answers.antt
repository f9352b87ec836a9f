use Rattle.erm_checkpoint.proofs.Moments.{removal_moments, removal_words, removals_settle}
use Rattle.erm_checkpoint.proofs.laws.removals_spare_the_log.Goals as goal

pub returns-clause-moments : goal.returns-clause-moments
returns-clause-moments g c = removal_moments g.L.RowLaw.law.meets

pub returns-clause-settled : goal.returns-clause-settled
returns-clause-settled g c = removals_settle

pub returns-clause-words : goal.returns-clause-words
returns-clause-words g c = removal_words
