use Rattle.erm_bytes.proofs.Words.{length-bytes_of, AreBytes-bytes_of}
use Rattle.erm_bytes.proofs.bytes.words_have_bytes.Goals as goal

pub returns-clause-count : goal.returns-clause-count
returns-clause-count c = length-bytes_of

pub returns-clause-bytes : goal.returns-clause-bytes
returns-clause-bytes c = AreBytes-bytes_of
