use Rattle.std.proofs.Common.{◌≡◌, ℕ, refl}
use Rattle.erm_model.specs.RowTransaction.{asked_make, did_make}
use Rattle.erm_world.specs.World.{View}
use Rattle.erm_beside.specs.declared.txn.SharedTxn.{SharedTxn}
use Rattle.erm_beside.proofs.Txns.{does_ok, refused_err}
use Rattle.erm_beside.proofs.txn.SharedTxnRowTxn.fresh.Goals as goal

pub returns-clause-ok : goal.returns-clause-ok
returns-clause-ok g c = does_ok g.S.SharedSession.law (λ (s : SharedTxn g.row.S.Denot g.row.S-Shared.Denot). g.S.SharedSession.own s.session.now) (λ (s : SharedTxn g.row.S.Denot g.row.S-Shared.Denot). g.S.SharedSession.seat s.session.now) (λ (s : SharedTxn g.row.S.Denot g.row.S-Shared.Denot). g.S.SharedSession.stands s.shared.now s.session.now)
    (λ (s : SharedTxn g.row.S.Denot g.row.S-Shared.Denot) (f : View). g.S.SharedSession.ends s.session.now f) (λ (s t : SharedTxn g.row.S.Denot g.row.S-Shared.Denot). (t.session.ghost_name ≡ s.session.ghost_name) × (t.shared ≡ s.shared))
    (λ (s : SharedTxn g.row.S.Denot g.row.S-Shared.Denot). g.met.S.SharedSession.sound s.shared.now s.session.now)
    c.fresh.result c.args.self.now _ (λ (oid : ℕ). did_make oid) c.requires c.fresh.ensures.stands (refl, refl) c.fresh.ensures.onward c.fresh.ensures.ok

pub returns-clause-err : goal.returns-clause-err
returns-clause-err g c = refused_err g.S.SharedSession.law (λ (s : SharedTxn g.row.S.Denot g.row.S-Shared.Denot). g.S.SharedSession.own s.session.now) (λ (s : SharedTxn g.row.S.Denot g.row.S-Shared.Denot). g.S.SharedSession.seat s.session.now) (λ (s : SharedTxn g.row.S.Denot g.row.S-Shared.Denot). g.S.SharedSession.stands s.shared.now s.session.now)
    (λ (s : SharedTxn g.row.S.Denot g.row.S-Shared.Denot) (f : View). g.S.SharedSession.ends s.session.now f) (λ (s t : SharedTxn g.row.S.Denot g.row.S-Shared.Denot). (t.session.ghost_name ≡ s.session.ghost_name) × (t.shared ≡ s.shared))
    (λ (s : SharedTxn g.row.S.Denot g.row.S-Shared.Denot). g.met.S.SharedSession.sound s.shared.now s.session.now)
    c.fresh.result c.args.self.now _ asked_make c.requires c.fresh.ensures.stands (refl, refl) c.fresh.ensures.onward c.fresh.ensures.err c.fresh.ensures.met
