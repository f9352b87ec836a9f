use Rattle.std.proofs.Common.{arith}
use Rattle.erm_replica.proofs.Found.{first_read}
use Rattle.erm_replica.proofs.front.read_first.Goals as goal

pub returns-clause-some : goal.returns-clause-some
returns-clause-some c = (omega arith, first_read c.args.bytes.now c.read_words.new.out (omega arith) c.read_words.ensures.words)
