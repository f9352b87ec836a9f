use Rattle.erm_model.proofs.OnMap.{after_plainly, runs_plainly}
use Rattle.erm_model.proofs.laws.steps_on_the_map_run_alone.Goals as goal

pub returns-clause-run : goal.returns-clause-run
returns-clause-run c = runs_plainly

pub returns-clause-after : goal.returns-clause-after
returns-clause-after c = after_plainly
