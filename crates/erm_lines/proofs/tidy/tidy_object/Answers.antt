use Rattle.std.proofs.Common.{◌≡◌, refl}
use Rattle.std.proofs.lemmas.Result.{on_ok_weaker}
use Rattle.erm_model.specs.RowTransaction.{asked_claim, did_claim}
use Rattle.erm_world.specs.declared.txn.WorldTxn.{WorldTxn}
use Rattle.erm_world.proofs.Txns.{does, refused_err}
use Rattle.erm_lines.proofs.tidy.tidy_object.Goals as goal

pub returns-clause-ok : goal.returns-clause-ok
returns-clause-ok g c = on_ok_weaker c.tidy.result (λ did. does g.W.RowWorld.law (λ (u : WorldTxn g.row.W.Denot). g.W.RowWorld.view u.world.now) (λ (u : WorldTxn g.row.W.Denot). u.seat) (λ (u : WorldTxn g.row.W.Denot). g.W.RowWorld.stands u.world.now)
    (λ (u v : WorldTxn g.row.W.Denot). v.world.ghost_name ≡ u.world.ghost_name)
    (λ (u : WorldTxn g.row.W.Denot). g.met.W.RowWorld.serializable u.world.now) (λ (u : WorldTxn g.row.W.Denot). g.met.W.RowWorld.possible u.world.now)
    c.args.txn.now _ (did_claim c.args.oid) c.requires.active c.tidy.ensures.stands refl refl did) c.tidy.ensures.ok

pub returns-clause-err : goal.returns-clause-err
returns-clause-err g c = refused_err g.W.RowWorld.law (λ (u : WorldTxn g.row.W.Denot). g.W.RowWorld.view u.world.now) (λ (u : WorldTxn g.row.W.Denot). u.seat) (λ (u : WorldTxn g.row.W.Denot). g.W.RowWorld.stands u.world.now)
    (λ (u v : WorldTxn g.row.W.Denot). v.world.ghost_name ≡ u.world.ghost_name)
    (λ (u : WorldTxn g.row.W.Denot). g.met.W.RowWorld.serializable u.world.now) (λ (u : WorldTxn g.row.W.Denot). g.met.W.RowWorld.possible u.world.now)
    c.tidy.result c.args.txn.now _ (asked_claim c.args.oid) c.requires.active c.tidy.ensures.stands refl refl c.tidy.ensures.err
