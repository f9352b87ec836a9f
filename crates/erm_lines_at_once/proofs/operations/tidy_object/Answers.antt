use Rattle.std.proofs.lemmas.Result.{on_ok_weaker}
use Rattle.erm_model.specs.RowTransaction.{asked_claim, did_claim}
use Rattle.erm_beside.proofs.Txns.{does, refused_err}
use Rattle.std.proofs.Common.{◌≡◌, refl}
use Rattle.erm_world.specs.World.{View}
use Rattle.erm_beside.specs.declared.txn.SharedTxn.{SharedTxn}
use Rattle.erm_lines_at_once.proofs.operations.tidy_object.Goals as goal

pub returns-clause-ok : goal.returns-clause-ok
returns-clause-ok g c = on_ok_weaker c.tidy.result (λ did. does g.S.SharedSession.law (λ (s : SharedTxn g.row.S.Denot g.row.S-Shared.Denot). g.S.SharedSession.own s.session.now) (λ (s : SharedTxn g.row.S.Denot g.row.S-Shared.Denot). g.S.SharedSession.seat s.session.now) (λ (s : SharedTxn g.row.S.Denot g.row.S-Shared.Denot). g.S.SharedSession.stands s.shared.now s.session.now)
    (λ (s : SharedTxn g.row.S.Denot g.row.S-Shared.Denot) (f : View). g.S.SharedSession.ends s.session.now f) (λ (s t : SharedTxn g.row.S.Denot g.row.S-Shared.Denot). (t.session.ghost_name ≡ s.session.ghost_name) × (t.shared ≡ s.shared))
    (λ (s : SharedTxn g.row.S.Denot g.row.S-Shared.Denot). g.met.S.SharedSession.sound s.shared.now s.session.now)
    c.args.txn.now _ (did_claim c.args.oid) c.requires.active c.tidy.ensures.stands (refl, refl) c.tidy.ensures.onward did) c.tidy.ensures.ok

pub returns-clause-err : goal.returns-clause-err
returns-clause-err g c = refused_err g.S.SharedSession.law (λ (s : SharedTxn g.row.S.Denot g.row.S-Shared.Denot). g.S.SharedSession.own s.session.now) (λ (s : SharedTxn g.row.S.Denot g.row.S-Shared.Denot). g.S.SharedSession.seat s.session.now) (λ (s : SharedTxn g.row.S.Denot g.row.S-Shared.Denot). g.S.SharedSession.stands s.shared.now s.session.now)
    (λ (s : SharedTxn g.row.S.Denot g.row.S-Shared.Denot) (f : View). g.S.SharedSession.ends s.session.now f) (λ (s t : SharedTxn g.row.S.Denot g.row.S-Shared.Denot). (t.session.ghost_name ≡ s.session.ghost_name) × (t.shared ≡ s.shared))
    (λ (s : SharedTxn g.row.S.Denot g.row.S-Shared.Denot). g.met.S.SharedSession.sound s.shared.now s.session.now)
    c.tidy.result c.args.txn.now _ (asked_claim c.args.oid) c.requires.active c.tidy.ensures.stands (refl, refl) c.tidy.ensures.onward c.tidy.ensures.err c.tidy.ensures.met
