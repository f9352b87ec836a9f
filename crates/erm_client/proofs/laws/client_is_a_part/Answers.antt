use Rattle.erm_client.proofs.Parts.{closed_part, opened_part, stopped_part}
use Rattle.erm_client.proofs.laws.client_is_a_part.Goals as goal

pub returns : goal.returns
returns c = record { opened = opened_part; closed = closed_part; stopped = stopped_part }
