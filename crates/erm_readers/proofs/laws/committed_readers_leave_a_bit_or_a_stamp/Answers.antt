use Rattle.erm_readers.proofs.Seen.{bit_or_stamp}
use Rattle.erm_readers.proofs.laws.committed_readers_leave_a_bit_or_a_stamp.Goals as goal

pub returns : goal.returns
returns c core p k sound committed within = bit_or_stamp core p k sound committed within
