use Rattle.erm_lone.specs.Within.{ends_itself}
use Rattle.erm_lone.proofs.laws.worlds_may_end_as_they_stand.Goals as goal

pub returns : goal.returns
returns g c = λ w seat stands session. ends_itself g.W.RowWorld.law (g.W.RowWorld.view w) seat session (g.met.W.RowWorld.serializable w stands)
