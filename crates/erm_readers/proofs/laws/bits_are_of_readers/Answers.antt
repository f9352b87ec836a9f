use Rattle.erm_readers.proofs.Seen.{is_reader}
use Rattle.erm_readers.proofs.laws.bits_are_of_readers.Goals as goal

pub returns : goal.returns
returns c core p v sound object within set = is_reader core p v sound object within set
