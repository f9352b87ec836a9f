use Rattle.erm_shipped.proofs.Behind.{stay_behind}
use Rattle.erm_shipped.proofs.laws.commits_stay_behind_the_opening.Goals as goal

pub returns : goal.returns
returns c mode opening script answers told owes = stay_behind mode opening script answers told owes
