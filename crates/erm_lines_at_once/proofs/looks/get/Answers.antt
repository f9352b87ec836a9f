use Rattle.std.proofs.Common.{◌≡◌}
use Rattle.erm_world.specs.World.{View}
use Rattle.erm_beside.specs.declared.safe_txn.SafeTxn.{SafeTxn}
use Rattle.erm_lines_at_once.proofs.Sighted.{got, ready}
use Rattle.erm_lines_at_once.proofs.looks.get.Goals as goal

pub get-requires-clause-ready : goal.get-requires-clause-ready
get-requires-clause-ready g c =
    ready g.S.SharedSession.law (λ (s : SafeTxn g.row.S.Denot g.row.S-Shared.Denot). g.S.SharedSession.own s.session.now) (λ (s : SafeTxn g.row.S.Denot g.row.S-Shared.Denot). g.S.SharedSession.seat s.session.now)
    (λ (s : SafeTxn g.row.S.Denot g.row.S-Shared.Denot). g.S.SharedSession.stands s.shared.now s.session.now) (λ (s : SafeTxn g.row.S.Denot g.row.S-Shared.Denot) (f : View). g.S.SharedSession.ends s.session.now f)
    (λ (s t : SafeTxn g.row.S.Denot g.row.S-Shared.Denot). (t.session.ghost_name ≡ s.session.ghost_name) × (t.shared ≡ s.shared))
    (λ (s : SafeTxn g.row.S.Denot g.row.S-Shared.Denot) (f : View). g.met.S.SharedSession.within s.session.now f) (λ (s : SafeTxn g.row.S.Denot g.row.S-Shared.Denot). g.met.S.SharedSession.some s.shared.now s.session.now)
    (λ (s : SafeTxn g.row.S.Denot g.row.S-Shared.Denot) (f : View). g.met.S.SharedSession.lasting s.session.now f) c.requires.law
    c.args.txn.now c.requires.active

pub returns-clause-answered : goal.returns-clause-answered
returns-clause-answered g c = λ f end.
    got g.S.SharedSession.law (λ (s : SafeTxn g.row.S.Denot g.row.S-Shared.Denot). g.S.SharedSession.own s.session.now) (λ (s : SafeTxn g.row.S.Denot g.row.S-Shared.Denot). g.S.SharedSession.seat s.session.now)
    (λ (s : SafeTxn g.row.S.Denot g.row.S-Shared.Denot). g.S.SharedSession.stands s.shared.now s.session.now) (λ (s : SafeTxn g.row.S.Denot g.row.S-Shared.Denot) (f : View). g.S.SharedSession.ends s.session.now f)
    (λ (s t : SafeTxn g.row.S.Denot g.row.S-Shared.Denot). (t.session.ghost_name ≡ s.session.ghost_name) × (t.shared ≡ s.shared))
    (λ (s : SafeTxn g.row.S.Denot g.row.S-Shared.Denot) (f : View). g.met.S.SharedSession.within s.session.now f) (λ (s : SafeTxn g.row.S.Denot g.row.S-Shared.Denot). g.met.S.SharedSession.some s.shared.now s.session.now)
    (λ (s : SafeTxn g.row.S.Denot g.row.S-Shared.Denot) (f : View). g.met.S.SharedSession.lasting s.session.now f) c.requires.law
    c.args.txn.now c.get.new.txn c.args.table c.args.key c.in-Ok.value c.in-Ok.ensures.ok f end

pub unreachable-requires : goal.unreachable-requires
unreachable-requires g c = c.in-Err.ensures.err.refused.stopped
