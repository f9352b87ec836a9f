use Rattle.std.proofs.Common.{◌≡◌, refl}
use Rattle.erm_lines.specs.declared.safe_txn.SafeTxn.{SafeTxn}
use Rattle.erm_lines.proofs.Sighted.{does}
use Rattle.erm_lines.proofs.safe_txn.SafeTxnRowRead.read.Goals as goal

pub returns-clause-ok : goal.returns-clause-ok
returns-clause-ok g c =
    does g.W.RowWorld.law (λ (s : SafeTxn g.row.W.Denot). g.W.RowWorld.view s.world.now) (λ (s : SafeTxn g.row.W.Denot). s.seat) (λ (s : SafeTxn g.row.W.Denot). g.W.RowWorld.stands s.world.now)
    (λ (s t : SafeTxn g.row.W.Denot). t.world.ghost_name ≡ s.world.ghost_name) c.snapshots_find_rows.ensures.rows c.snapshots_find_rows.ensures.one
    (λ (s : SafeTxn g.row.W.Denot). g.met.W.RowWorld.serializable s.world.now) c.args.self.now _ c.args.oid c.safe_read.result c.requires.active c.safe_read.ensures.stands refl refl
    c.safe_read.ensures.same c.safe_read.ensures.row
