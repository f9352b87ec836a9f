use Rattle.erm_worker.proofs.Parts.{closed, given_up, left, whole}
use Rattle.erm_worker.proofs.laws.work_is_a_part.Goals as goal

pub returns : goal.returns
returns c = record { whole = whole; closed = closed; left = left; aborted = given_up }
