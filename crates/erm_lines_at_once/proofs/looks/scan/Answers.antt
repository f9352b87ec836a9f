use Rattle.std.proofs.Common.{◌≡◌}
use Rattle.erm_lines.specs.Operations.{IsMetByScan}
use Rattle.erm_world.specs.World.{View}
use Rattle.erm_beside.specs.declared.safe_txn.SafeTxn.{SafeTxn}
use Rattle.erm_lines_at_once.proofs.Sighted.{never_refused, ready, scanned}
use Rattle.erm_lines_at_once.proofs.looks.scan.Goals as goal

pub scan-requires-clause-ready : goal.scan-requires-clause-ready
scan-requires-clause-ready g c =
    ready g.S.SharedSession.law (λ (s : SafeTxn g.row.S.Denot g.row.S-Shared.Denot). g.S.SharedSession.own s.session.now) (λ (s : SafeTxn g.row.S.Denot g.row.S-Shared.Denot). g.S.SharedSession.seat s.session.now)
    (λ (s : SafeTxn g.row.S.Denot g.row.S-Shared.Denot). g.S.SharedSession.stands s.shared.now s.session.now) (λ (s : SafeTxn g.row.S.Denot g.row.S-Shared.Denot) (f : View). g.S.SharedSession.ends s.session.now f)
    (λ (s t : SafeTxn g.row.S.Denot g.row.S-Shared.Denot). (t.session.ghost_name ≡ s.session.ghost_name) × (t.shared ≡ s.shared))
    (λ (s : SafeTxn g.row.S.Denot g.row.S-Shared.Denot) (f : View). g.met.S.SharedSession.within s.session.now f) (λ (s : SafeTxn g.row.S.Denot g.row.S-Shared.Denot). g.met.S.SharedSession.some s.shared.now s.session.now)
    (λ (s : SafeTxn g.row.S.Denot g.row.S-Shared.Denot) (f : View). g.met.S.SharedSession.lasting s.session.now f) c.requires.law
    c.args.txn.now c.requires.active

pub returns-clause-answered : goal.returns-clause-answered
returns-clause-answered g c = λ f end.
    scanned g.S.SharedSession.law (λ (s : SafeTxn g.row.S.Denot g.row.S-Shared.Denot). g.S.SharedSession.own s.session.now) (λ (s : SafeTxn g.row.S.Denot g.row.S-Shared.Denot). g.S.SharedSession.seat s.session.now)
    (λ (s : SafeTxn g.row.S.Denot g.row.S-Shared.Denot). g.S.SharedSession.stands s.shared.now s.session.now) (λ (s : SafeTxn g.row.S.Denot g.row.S-Shared.Denot) (f : View). g.S.SharedSession.ends s.session.now f)
    (λ (s t : SafeTxn g.row.S.Denot g.row.S-Shared.Denot). (t.session.ghost_name ≡ s.session.ghost_name) × (t.shared ≡ s.shared))
    (λ (s : SafeTxn g.row.S.Denot g.row.S-Shared.Denot) (f : View). g.met.S.SharedSession.within s.session.now f) (λ (s : SafeTxn g.row.S.Denot g.row.S-Shared.Denot). g.met.S.SharedSession.some s.shared.now s.session.now)
    (λ (s : SafeTxn g.row.S.Denot g.row.S-Shared.Denot) (f : View). g.met.S.SharedSession.lasting s.session.now f) c.requires.law
    c.args.txn.now c.scan.new.txn c.args.table c.args.low c.args.high c.in-Ok.found c.in_ok-found.field-0 c.in-Ok.is c.in_ok-found.ensures.ok f end

pub unreachable-requires : goal.unreachable-requires
unreachable-requires g c =
    never_refused g.S.SharedSession.law (λ (s : SafeTxn g.row.S.Denot g.row.S-Shared.Denot). g.S.SharedSession.own s.session.now) (λ (s : SafeTxn g.row.S.Denot g.row.S-Shared.Denot). g.S.SharedSession.seat s.session.now)
    (λ (s : SafeTxn g.row.S.Denot g.row.S-Shared.Denot). g.S.SharedSession.stands s.shared.now s.session.now) (λ (s : SafeTxn g.row.S.Denot g.row.S-Shared.Denot) (f : View). g.S.SharedSession.ends s.session.now f)
    (λ (s t : SafeTxn g.row.S.Denot g.row.S-Shared.Denot). (t.session.ghost_name ≡ s.session.ghost_name) × (t.shared ≡ s.shared))
    (λ (s : SafeTxn g.row.S.Denot g.row.S-Shared.Denot) (f : View). g.met.S.SharedSession.within s.session.now f) (λ (s : SafeTxn g.row.S.Denot g.row.S-Shared.Denot). g.met.S.SharedSession.some s.shared.now s.session.now)
    (λ (s : SafeTxn g.row.S.Denot g.row.S-Shared.Denot) (f : View). g.met.S.SharedSession.lasting s.session.now f) c.requires.law
    (IsMetByScan c.args.table c.args.low c.args.high) c.args.txn.now c.scan.new.txn c.in_ok-found.field-0 c.in-Err.field-0 c.in-Err.is c.in_ok-found.ensures.err
