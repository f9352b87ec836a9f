use Rattle.std.proofs.Common.{◌≡◌, refl}
use Rattle.std.proofs.lemmas.Result.{on_ok_weaker}
use Rattle.erm_model.specs.RowTransaction.{asked_claim, did_claim}
use Rattle.erm_world.specs.World.{View}
use Rattle.erm_beside.specs.declared.txn.SharedTxn.{SharedTxn}
use Rattle.erm_beside.proofs.Txns.{does, refused_err}
use Rattle.erm_beside.proofs.txn.SharedTxnRowTxn.claim.Goals as goal

pub returns-clause-ok : goal.returns-clause-ok
returns-clause-ok g c = on_ok_weaker c.claim.result (λ did. does g.S.SharedSession.law (λ (s : SharedTxn g.row.S.Denot g.row.S-Shared.Denot). g.S.SharedSession.own s.session.now) (λ (s : SharedTxn g.row.S.Denot g.row.S-Shared.Denot). g.S.SharedSession.seat s.session.now) (λ (s : SharedTxn g.row.S.Denot g.row.S-Shared.Denot). g.S.SharedSession.stands s.shared.now s.session.now)
    (λ (s : SharedTxn g.row.S.Denot g.row.S-Shared.Denot) (f : View). g.S.SharedSession.ends s.session.now f) (λ (s t : SharedTxn g.row.S.Denot g.row.S-Shared.Denot). (t.session.ghost_name ≡ s.session.ghost_name) × (t.shared ≡ s.shared))
    (λ (s : SharedTxn g.row.S.Denot g.row.S-Shared.Denot). g.met.S.SharedSession.sound s.shared.now s.session.now)
    c.args.self.now _ (did_claim c.args.oid) c.requires.active c.claim.ensures.stands (refl, refl) c.claim.ensures.onward did) c.claim.ensures.ok

pub returns-clause-err : goal.returns-clause-err
returns-clause-err g c = refused_err g.S.SharedSession.law (λ (s : SharedTxn g.row.S.Denot g.row.S-Shared.Denot). g.S.SharedSession.own s.session.now) (λ (s : SharedTxn g.row.S.Denot g.row.S-Shared.Denot). g.S.SharedSession.seat s.session.now) (λ (s : SharedTxn g.row.S.Denot g.row.S-Shared.Denot). g.S.SharedSession.stands s.shared.now s.session.now)
    (λ (s : SharedTxn g.row.S.Denot g.row.S-Shared.Denot) (f : View). g.S.SharedSession.ends s.session.now f) (λ (s t : SharedTxn g.row.S.Denot g.row.S-Shared.Denot). (t.session.ghost_name ≡ s.session.ghost_name) × (t.shared ≡ s.shared))
    (λ (s : SharedTxn g.row.S.Denot g.row.S-Shared.Denot). g.met.S.SharedSession.sound s.shared.now s.session.now)
    c.claim.result c.args.self.now _ (asked_claim c.args.oid) c.requires.active c.claim.ensures.stands (refl, refl) c.claim.ensures.onward c.claim.ensures.err c.claim.ensures.met
