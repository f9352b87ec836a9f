use Rattle.erm_threads.proofs.Merged.{own_all}
use Rattle.erm_threads.proofs.laws.own_moves_are_of_own_lines.Goals as goal

pub returns : goal.returns
returns c = record { own = own_all }
