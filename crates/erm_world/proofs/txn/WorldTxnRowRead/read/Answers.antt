use Rattle.std.proofs.Common.{◌≡◌, List, ℕ, refl}
use Rattle.erm_model.specs.RowTransaction.{asked_read, did_read}
use Rattle.erm_world.specs.declared.txn.WorldTxn.{WorldTxn}
use Rattle.erm_world.proofs.Txns.{does_ok, refused_err}
use Rattle.erm_world.proofs.txn.WorldTxnRowRead.read.Goals as goal

pub returns-clause-ok : goal.returns-clause-ok
returns-clause-ok g c = does_ok g.W.RowWorld.law (λ (s : WorldTxn g.row.W.Denot). g.W.RowWorld.view s.world.now) (λ (s : WorldTxn g.row.W.Denot). s.seat) (λ (s : WorldTxn g.row.W.Denot). g.W.RowWorld.stands s.world.now) (λ (s t : WorldTxn g.row.W.Denot). t.world.ghost_name ≡ s.world.ghost_name) (λ (s : WorldTxn g.row.W.Denot). g.met.W.RowWorld.serializable s.world.now) (λ (s : WorldTxn g.row.W.Denot). g.met.W.RowWorld.possible s.world.now) c.read.result c.args.self.now _ (λ (row : List ℕ). did_read c.args.oid row) c.requires.active c.read.ensures.stands refl refl c.read.ensures.ok

pub returns-clause-err : goal.returns-clause-err
returns-clause-err g c = refused_err g.W.RowWorld.law (λ (s : WorldTxn g.row.W.Denot). g.W.RowWorld.view s.world.now) (λ (s : WorldTxn g.row.W.Denot). s.seat) (λ (s : WorldTxn g.row.W.Denot). g.W.RowWorld.stands s.world.now) (λ (s t : WorldTxn g.row.W.Denot). t.world.ghost_name ≡ s.world.ghost_name) (λ (s : WorldTxn g.row.W.Denot). g.met.W.RowWorld.serializable s.world.now) (λ (s : WorldTxn g.row.W.Denot). g.met.W.RowWorld.possible s.world.now) c.read.result c.args.self.now _ (asked_read c.args.oid) c.requires.active c.read.ensures.stands refl refl c.read.ensures.err
