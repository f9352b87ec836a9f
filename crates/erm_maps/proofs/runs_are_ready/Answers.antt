use Rattle.std.proofs.Common.{◌≡◌}
use Rattle.erm_world.specs.declared.txn.WorldTxn.{WorldTxn}
use Rattle.erm_maps.proofs.Ready.{ready_runs}
use Rattle.erm_maps.proofs.runs_are_ready.Goals as goal

pub returns : goal.returns
returns g c same s before active run =
    ready_runs g.W.RowWorld.law (λ (u : WorldTxn g.row.W.Denot). g.W.RowWorld.view u.world.now) (λ (u : WorldTxn g.row.W.Denot). u.seat) (λ (u : WorldTxn g.row.W.Denot). g.W.RowWorld.stands u.world.now)
    (λ (u v : WorldTxn g.row.W.Denot). v.world.ghost_name ≡ u.world.ghost_name) (λ (u : WorldTxn g.row.W.Denot). g.met.W.RowWorld.possible u.world.now) same s before active run
