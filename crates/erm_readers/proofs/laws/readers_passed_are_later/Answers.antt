use Rattle.erm_readers.proofs.Seen.{passed_later}
use Rattle.erm_readers.proofs.laws.readers_passed_are_later.Goals as goal

pub returns : goal.returns
returns c core p q write sound other drawn passed within reader = passed_later core p q write sound other drawn passed within reader
