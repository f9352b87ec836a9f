use Rattle.erm_outside.proofs.Waits.{reads_stay}
use Rattle.erm_recover.proofs.Waits.{disk_stays, images_stay}
use Rattle.erm_recover.proofs.laws.waits_add_nothing.Goals as goal

pub returns-clause-reads : goal.returns-clause-reads
returns-clause-reads c = λ old new waits. reads_stay old new waits

pub returns-clause-images : goal.returns-clause-images
returns-clause-images c = λ old new image waits is. images_stay old new waits image is

pub returns-clause-settled : goal.returns-clause-settled
returns-clause-settled c = λ old new waits settled. disk_stays old new waits settled
