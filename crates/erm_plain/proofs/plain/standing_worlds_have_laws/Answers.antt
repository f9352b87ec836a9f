use Rattle.erm_lists.specs.Stands.{lists_view}
use Rattle.erm_world.proofs.WithSaves.{has_safe_stamps, log_of_view, serializable}
use Rattle.erm_lists.specs.Logs.{lists_log}
use Rattle.erm_plain.specs.Stands.{held_by}
use Rattle.erm_plain.proofs.Holding.{active_with}
use Rattle.erm_plain.proofs.plain.standing_worlds_have_laws.Goals as goal

pub returns : goal.returns
returns g c = λ p standing.
    let world = c.standing_worlds_have_laws.ensures p.lists standing.lists in
    let v = lists_view p.lists in
    let held = held_by p.saves in
    record {
      stands = standing;
      serializable = serializable held g.L.RowLaw.law v (λ seat w session stand. (standing.held seat w session stand).saves)
          (λ seat session active. (standing.held seat _ session (active_with (v.session seat).stand active)).few) world.serializable;
      possible = world.possible;
      safe_stamps = has_safe_stamps held v world.safe_stamps;
      log = world.log;
      log_of_view = log_of_view held v (lists_log p.lists) world.log_of_view;
    }
