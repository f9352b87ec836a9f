use Rattle.erm_readers.proofs.Seen.{has_bit}
use Rattle.erm_readers.proofs.laws.readers_have_their_bits.Goals as goal

pub returns : goal.returns
returns c core p v sound reader = has_bit core p v sound reader
