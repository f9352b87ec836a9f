use Rattle.erm_core_view.proofs.Commits.{has_the_history}
use Rattle.erm_core_view.proofs.views_have_the_history.Goals as goal

pub returns : goal.returns
returns c sessions core sound quiet = has_the_history sessions core sound quiet
