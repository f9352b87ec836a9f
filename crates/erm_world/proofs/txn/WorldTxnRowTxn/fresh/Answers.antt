use Rattle.std.proofs.Common.{◌≡◌, ℕ, refl}
use Rattle.erm_model.specs.RowTransaction.{asked_make, did_make}
use Rattle.erm_world.specs.declared.txn.WorldTxn.{WorldTxn}
use Rattle.erm_world.proofs.Txns.{does_ok, refused_err}
use Rattle.erm_world.proofs.txn.WorldTxnRowTxn.fresh.Goals as goal

pub returns-clause-ok : goal.returns-clause-ok
returns-clause-ok g c = does_ok g.W.RowWorld.law (λ (s : WorldTxn g.row.W.Denot). g.W.RowWorld.view s.world.now) (λ (s : WorldTxn g.row.W.Denot). s.seat) (λ (s : WorldTxn g.row.W.Denot). g.W.RowWorld.stands s.world.now) (λ (s t : WorldTxn g.row.W.Denot). t.world.ghost_name ≡ s.world.ghost_name) (λ (s : WorldTxn g.row.W.Denot). g.met.W.RowWorld.serializable s.world.now) (λ (s : WorldTxn g.row.W.Denot). g.met.W.RowWorld.possible s.world.now) c.fresh.result c.args.self.now _ (λ (oid : ℕ). did_make oid) c.requires c.fresh.ensures.stands refl refl c.fresh.ensures.ok

pub returns-clause-err : goal.returns-clause-err
returns-clause-err g c = refused_err g.W.RowWorld.law (λ (s : WorldTxn g.row.W.Denot). g.W.RowWorld.view s.world.now) (λ (s : WorldTxn g.row.W.Denot). s.seat) (λ (s : WorldTxn g.row.W.Denot). g.W.RowWorld.stands s.world.now) (λ (s t : WorldTxn g.row.W.Denot). t.world.ghost_name ≡ s.world.ghost_name) (λ (s : WorldTxn g.row.W.Denot). g.met.W.RowWorld.serializable s.world.now) (λ (s : WorldTxn g.row.W.Denot). g.met.W.RowWorld.possible s.world.now) c.fresh.result c.args.self.now _ asked_make c.requires c.fresh.ensures.stands refl refl c.fresh.ensures.err
