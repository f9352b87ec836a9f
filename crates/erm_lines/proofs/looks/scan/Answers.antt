use Rattle.std.proofs.Common.{◌≡◌}
use Rattle.erm_lines.specs.declared.safe_txn.SafeTxn.{SafeTxn}
use Rattle.erm_lines.specs.Operations.{IsMetByScan}
use Rattle.erm_lines.proofs.Sighted.{never_refused, ready, scan_ok}
use Rattle.erm_lines.proofs.looks.scan.Goals as goal

pub scan-requires-clause-ready : goal.scan-requires-clause-ready
scan-requires-clause-ready g c =
    ready g.W.RowWorld.law (λ (u : SafeTxn g.row.W.Denot). g.W.RowWorld.view u.world.now) (λ (u : SafeTxn g.row.W.Denot). u.seat) (λ (u : SafeTxn g.row.W.Denot). g.W.RowWorld.stands u.world.now)
    (λ (u v : SafeTxn g.row.W.Denot). v.world.ghost_name ≡ u.world.ghost_name) c.snapshots_find_rows.ensures.rows c.snapshots_find_rows.ensures.one
    (λ (u : SafeTxn g.row.W.Denot). g.met.W.RowWorld.serializable u.world.now) c.args.txn.now c.requires.active

pub scan-requires-clause-law : goal.scan-requires-clause-law
scan-requires-clause-law g c = c.requires.active.0

pub returns-in-Ok-clause-answered : goal.returns-in-Ok-clause-answered
returns-in-Ok-clause-answered g c =
    scan_ok g.W.RowWorld.law (λ (u : SafeTxn g.row.W.Denot). g.W.RowWorld.view u.world.now) (λ (u : SafeTxn g.row.W.Denot). u.seat) (λ (u : SafeTxn g.row.W.Denot). g.W.RowWorld.stands u.world.now)
    (λ (u v : SafeTxn g.row.W.Denot). v.world.ghost_name ≡ u.world.ghost_name) c.snapshots_find_rows.ensures.rows c.snapshots_find_rows.ensures.one
    (λ (u : SafeTxn g.row.W.Denot). g.met.W.RowWorld.serializable u.world.now) c.args.txn.now c.scan.new.txn c.args.table c.args.low c.args.high c.in-Ok.found c.in_ok-found.field-0
    c.requires.active.0 c.in-Ok.is c.in_ok-found.ensures.ok

pub returns-in-Err-clause-answered : goal.returns-in-Err-clause-answered
returns-in-Err-clause-answered g c =
    absurd (never_refused g.W.RowWorld.law (λ (u : SafeTxn g.row.W.Denot). g.W.RowWorld.view u.world.now) (λ (u : SafeTxn g.row.W.Denot). u.seat) (λ (u : SafeTxn g.row.W.Denot). g.W.RowWorld.stands u.world.now)
    (λ (u v : SafeTxn g.row.W.Denot). v.world.ghost_name ≡ u.world.ghost_name) c.snapshots_find_rows.ensures.rows c.snapshots_find_rows.ensures.one
    (λ (u : SafeTxn g.row.W.Denot). g.met.W.RowWorld.serializable u.world.now) (IsMetByScan c.args.table c.args.low c.args.high)
    c.args.txn.now c.scan.new.txn c.in_ok-found.field-0 c.in-Err.stop c.in-Err.is c.in_ok-found.ensures.err)
