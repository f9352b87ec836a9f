use Rattle.std.proofs.Common.{◌≡◌}
use Rattle.erm_lines.specs.declared.safe_txn.SafeTxn.{SafeTxn}
use Rattle.erm_lines.proofs.Sighted.{next_ok, ready}
use Rattle.erm_lines.proofs.looks.next.Goals as goal

pub next-requires-clause-ready : goal.next-requires-clause-ready
next-requires-clause-ready g c =
    ready g.W.RowWorld.law (λ (u : SafeTxn g.row.W.Denot). g.W.RowWorld.view u.world.now) (λ (u : SafeTxn g.row.W.Denot). u.seat) (λ (u : SafeTxn g.row.W.Denot). g.W.RowWorld.stands u.world.now)
    (λ (u v : SafeTxn g.row.W.Denot). v.world.ghost_name ≡ u.world.ghost_name) c.snapshots_find_rows.ensures.rows c.snapshots_find_rows.ensures.one
    (λ (u : SafeTxn g.row.W.Denot). g.met.W.RowWorld.serializable u.world.now) c.args.txn.now c.requires.active

pub next-requires-clause-law : goal.next-requires-clause-law
next-requires-clause-law g c = c.requires.active.0

pub returns-in-Ok-clause-answered : goal.returns-in-Ok-clause-answered
returns-in-Ok-clause-answered g c =
    next_ok g.W.RowWorld.law (λ (u : SafeTxn g.row.W.Denot). g.W.RowWorld.view u.world.now) (λ (u : SafeTxn g.row.W.Denot). u.seat) (λ (u : SafeTxn g.row.W.Denot). g.W.RowWorld.stands u.world.now)
    (λ (u v : SafeTxn g.row.W.Denot). v.world.ghost_name ≡ u.world.ghost_name) c.snapshots_find_rows.ensures.rows c.snapshots_find_rows.ensures.one
    (λ (u : SafeTxn g.row.W.Denot). g.met.W.RowWorld.serializable u.world.now) c.args.txn.now c.next.new.txn c.args.table c.args.from c.in-Ok.found c.requires.active.0 c.in-Ok.ensures.ok

pub returns-in-Err-clause-answered : goal.returns-in-Err-clause-answered
returns-in-Err-clause-answered g c = absurd c.in-Err.ensures.err.refused.stopped
