use Rattle.std.proofs.Common.{◌≡◌, refl}
use Rattle.erm_world.specs.World.{View}
use Rattle.erm_beside.specs.declared.safe_txn.SafeTxn.{SafeTxn}
use Rattle.erm_beside.proofs.SafeTxns.{does}
use Rattle.erm_beside.proofs.safe_txn.SafeTxnRowRead.read.Goals as goal

pub returns-clause-ok : goal.returns-clause-ok
returns-clause-ok g c =
    does g.S.SharedSession.law (λ (s : SafeTxn g.row.S.Denot g.row.S-Shared.Denot). g.S.SharedSession.own s.session.now) (λ (s : SafeTxn g.row.S.Denot g.row.S-Shared.Denot). g.S.SharedSession.seat s.session.now)
    (λ (s : SafeTxn g.row.S.Denot g.row.S-Shared.Denot). g.S.SharedSession.stands s.shared.now s.session.now) (λ (s : SafeTxn g.row.S.Denot g.row.S-Shared.Denot) (f : View). g.S.SharedSession.ends s.session.now f)
    (λ (s t : SafeTxn g.row.S.Denot g.row.S-Shared.Denot). (t.session.ghost_name ≡ s.session.ghost_name) × (t.shared ≡ s.shared))
    (λ (s : SafeTxn g.row.S.Denot g.row.S-Shared.Denot) (f : View). g.met.S.SharedSession.within s.session.now f)
    (λ (s : SafeTxn g.row.S.Denot g.row.S-Shared.Denot). g.met.S.SharedSession.some s.shared.now s.session.now)
    (λ (s : SafeTxn g.row.S.Denot g.row.S-Shared.Denot) (f : View). g.met.S.SharedSession.lasting s.session.now f)
    c.args.self.now _ c.args.oid c.safe_read.result c.requires.active c.safe_read.ensures.stands (refl, refl) c.safe_read.ensures.onward c.safe_read.ensures.same c.safe_read.ensures.row
