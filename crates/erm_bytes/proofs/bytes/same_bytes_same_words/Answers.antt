use Rattle.erm_bytes.proofs.Words.{same_words}
use Rattle.erm_bytes.proofs.bytes.same_bytes_same_words.Goals as goal

pub returns : goal.returns
returns c = same_words
