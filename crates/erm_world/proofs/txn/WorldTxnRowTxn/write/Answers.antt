use Rattle.std.proofs.Common.{◌≡◌, refl}
use Rattle.std.proofs.lemmas.Result.{on_ok_weaker}
use Rattle.erm_model.specs.RowTransaction.{asked_claim, did_write}
use Rattle.erm_world.specs.declared.txn.WorldTxn.{WorldTxn}
use Rattle.erm_world.proofs.Txns.{does, refused_err}
use Rattle.erm_world.proofs.txn.WorldTxnRowTxn.write.Goals as goal

pub returns-clause-ok : goal.returns-clause-ok
returns-clause-ok g c = on_ok_weaker c.write.result (λ did. does g.W.RowWorld.law (λ (s : WorldTxn g.row.W.Denot). g.W.RowWorld.view s.world.now) (λ (s : WorldTxn g.row.W.Denot). s.seat) (λ (s : WorldTxn g.row.W.Denot). g.W.RowWorld.stands s.world.now) (λ (s t : WorldTxn g.row.W.Denot). t.world.ghost_name ≡ s.world.ghost_name) (λ (s : WorldTxn g.row.W.Denot). g.met.W.RowWorld.serializable s.world.now) (λ (s : WorldTxn g.row.W.Denot). g.met.W.RowWorld.possible s.world.now) c.args.self.now _ (did_write c.args.oid c.args.row.now) c.requires.active c.write.ensures.stands refl refl did) c.write.ensures.ok

pub returns-clause-err : goal.returns-clause-err
returns-clause-err g c = refused_err g.W.RowWorld.law (λ (s : WorldTxn g.row.W.Denot). g.W.RowWorld.view s.world.now) (λ (s : WorldTxn g.row.W.Denot). s.seat) (λ (s : WorldTxn g.row.W.Denot). g.W.RowWorld.stands s.world.now) (λ (s t : WorldTxn g.row.W.Denot). t.world.ghost_name ≡ s.world.ghost_name) (λ (s : WorldTxn g.row.W.Denot). g.met.W.RowWorld.serializable s.world.now) (λ (s : WorldTxn g.row.W.Denot). g.met.W.RowWorld.possible s.world.now) c.write.result c.args.self.now _ (asked_claim c.args.oid) c.requires.active c.write.ensures.stands refl refl c.write.ensures.err
