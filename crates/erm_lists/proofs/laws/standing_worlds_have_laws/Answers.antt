use Rattle.erm_lists.proofs.laws.standing_worlds_have_laws.Goals as goal
use Rattle.erm_core.specs.Cores.{core_of}
use Rattle.erm_lists.specs.Stands.{lists_view}
use Rattle.erm_lists.proofs.SafeSurveys.{safe_stamps}

pub returns : goal.returns
returns g c = λ p standing.
    let serializable = c.views_are_serializable.ensures p.sessions (core_of p.state) standing.sound standing.quiet in
    record {
      stands = standing;
      serializable = serializable;
      possible = c.works_are_possible.ensures (lists_view p) serializable;
      safe_stamps = safe_stamps p.sessions (core_of p.state) standing.sound.sound standing.quiet;
      log = c.states_have_logs.ensures.is p.sessions (core_of p.state) standing.sound standing.quiet;
      log_of_view = c.states_have_logs.ensures.of_view p.sessions (core_of p.state) standing.sound standing.quiet;
    }
