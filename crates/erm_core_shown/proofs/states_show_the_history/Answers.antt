use Rattle.erm_core_shown.proofs.Commits.{shows_the_history}
use Rattle.erm_core_shown.proofs.Parts.{shown_between}
use Rattle.erm_core_shown.proofs.states_show_the_history.Goals as goal

pub returns : goal.returns
returns c = record {
  history = λ sessions core sound only. shows_the_history sessions core sound only;
  between = λ x between. shown_between x between;
}
