use Rattle.std.proofs.Common.{◌≡◌}
use Rattle.erm_world.specs.declared.txn.WorldTxn.{WorldTxn}
use Rattle.erm_maps.proofs.Called.{called_runs}
use Rattle.erm_maps.proofs.calls_are_runs.Goals as goal

pub returns : goal.returns
returns g c same s t calls before run called =
    called_runs g.W.RowWorld.law (λ (u : WorldTxn g.row.W.Denot). g.W.RowWorld.view u.world.now) (λ (u : WorldTxn g.row.W.Denot). u.seat) (λ (u : WorldTxn g.row.W.Denot). g.W.RowWorld.stands u.world.now)
    (λ (u v : WorldTxn g.row.W.Denot). v.world.ghost_name ≡ u.world.ghost_name) same
    (λ (u : WorldTxn g.row.W.Denot) active. (g.met.W.RowWorld.serializable u.world.now active.0).once u.seat active.1) c.operations_are_run_one.ensures.run s t calls before run called
