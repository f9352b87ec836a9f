use Rattle.erm_bytes.proofs.Words.{bytes_of-words_of, length-words_of}
use Rattle.erm_bytes.proofs.bytes.bytes_again.Goals as goal

pub returns-clause-count : goal.returns-clause-count
returns-clause-count c = length-words_of

pub returns-clause-same : goal.returns-clause-same
returns-clause-same c = bytes_of-words_of
