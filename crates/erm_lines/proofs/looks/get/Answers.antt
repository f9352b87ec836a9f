use Rattle.std.proofs.Common.{◌≡◌}
use Rattle.erm_lines.specs.declared.safe_txn.SafeTxn.{SafeTxn}
use Rattle.erm_lines.proofs.Sighted.{get_ok, ready}
use Rattle.erm_lines.proofs.looks.get.Goals as goal

pub get-requires-clause-ready : goal.get-requires-clause-ready
get-requires-clause-ready g c =
    ready g.W.RowWorld.law (λ (u : SafeTxn g.row.W.Denot). g.W.RowWorld.view u.world.now) (λ (u : SafeTxn g.row.W.Denot). u.seat) (λ (u : SafeTxn g.row.W.Denot). g.W.RowWorld.stands u.world.now)
    (λ (u v : SafeTxn g.row.W.Denot). v.world.ghost_name ≡ u.world.ghost_name) c.snapshots_find_rows.ensures.rows c.snapshots_find_rows.ensures.one
    (λ (u : SafeTxn g.row.W.Denot). g.met.W.RowWorld.serializable u.world.now) c.args.txn.now c.requires.active

pub get-requires-clause-law : goal.get-requires-clause-law
get-requires-clause-law g c = c.requires.active.0

pub returns-in-Ok-clause-answered : goal.returns-in-Ok-clause-answered
returns-in-Ok-clause-answered g c =
    get_ok g.W.RowWorld.law (λ (u : SafeTxn g.row.W.Denot). g.W.RowWorld.view u.world.now) (λ (u : SafeTxn g.row.W.Denot). u.seat) (λ (u : SafeTxn g.row.W.Denot). g.W.RowWorld.stands u.world.now)
    (λ (u v : SafeTxn g.row.W.Denot). v.world.ghost_name ≡ u.world.ghost_name) c.snapshots_find_rows.ensures.rows c.snapshots_find_rows.ensures.one
    (λ (u : SafeTxn g.row.W.Denot). g.met.W.RowWorld.serializable u.world.now) c.args.txn.now c.get.new.txn c.args.table c.args.key c.in-Ok.value c.requires.active.0 c.in-Ok.ensures.ok

pub returns-in-Err-clause-answered : goal.returns-in-Err-clause-answered
returns-in-Err-clause-answered g c = absurd c.in-Err.ensures.err.refused.stopped
