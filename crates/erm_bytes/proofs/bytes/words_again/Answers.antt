use Rattle.erm_bytes.proofs.Words.{words_of-bytes_of}
use Rattle.erm_bytes.proofs.bytes.words_again.Goals as goal

pub returns : goal.returns
returns c = words_of-bytes_of
