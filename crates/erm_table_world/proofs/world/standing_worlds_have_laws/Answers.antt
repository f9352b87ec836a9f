use Rattle.erm_model.specs.declared.limits.TheConstants.{TABLE_CELLS}
use Rattle.erm_rule.specs.Books.{book}
use Rattle.erm_rule.specs.Went.{core_of}
use Rattle.std.proofs.Common.{ap}
use Rattle.erm_world.specs.World.{Stand, phase_of}
use Rattle.erm_world.proofs.WithSaves as kept
use Rattle.erm_table_world.specs.Saves.{table_saves}
use Rattle.erm_table_world.specs.Stands.{table_log, table_view, with_cuts, world_view}
use Rattle.erm_table_world.proofs.Cuts.{log_of_view, serializable}
use Rattle.erm_table_world.proofs.GoingBack.{saves_claimed, saves_few}
use Rattle.erm_table_world.proofs.SafeCuts.{has_safe_stamps}
use Rattle.erm_table_world.proofs.Surveying.{safe_stamps}
use Rattle.erm_table_world.proofs.world.standing_worlds_have_laws.Goals as goal

pub returns : goal.returns
returns g c = λ w standing.
    let at = standing.at in
    let law = g.L.RowLaw.law in
    let v = with_cuts TABLE_CELLS (table_view w) in
    let bare = serializable TABLE_CELLS law (table_view w) (c.views_are_serializable.ensures w.count (core_of (book w.pass)) at.state.sound at.quiet) in
    let laws =
    kept.serializable (table_saves w) law v (λ seat u session is. saves_claimed law w standing seat session (ap (λ (s : Stand). phase_of s) is) u is) (λ seat session active. saves_few law w standing seat session active) bare
    in
    record {
      stands = standing;
      serializable = laws;
      possible = c.works_are_possible.ensures (world_view w) laws;
      safe_stamps = kept.has_safe_stamps (table_saves w) v (has_safe_stamps TABLE_CELLS (table_view w) (safe_stamps w.count (core_of (book w.pass)) at.state.sound.sound at.quiet));
      log = c.states_have_logs.ensures.is w.count (core_of (book w.pass)) at.state.sound at.quiet;
      log_of_view = kept.log_of_view (table_saves w) v (table_log w) (log_of_view TABLE_CELLS (table_view w) (table_log w) (c.states_have_logs.ensures.of_view w.count (core_of (book w.pass)) at.state.sound at.quiet));
    }
