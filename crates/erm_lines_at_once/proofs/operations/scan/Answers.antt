use Rattle.std.proofs.Common.{◌≡◌, ◌∙◌}
use Rattle.erm_world.specs.World.{View}
use Rattle.erm_beside.specs.declared.txn.SharedTxn.{SharedTxn}
use Rattle.erm_lines_at_once.proofs.Bridged.{ready, scan_cut, scanned}
use Rattle.erm_lines_at_once.proofs.operations.scan.Goals as goal

pub scan-requires-clause-ready : goal.scan-requires-clause-ready
scan-requires-clause-ready g c = ready g.S.SharedSession.law (λ (s : SharedTxn g.row.S.Denot g.row.S-Shared.Denot). g.S.SharedSession.own s.session.now) (λ (s : SharedTxn g.row.S.Denot g.row.S-Shared.Denot). g.S.SharedSession.seat s.session.now) (λ (s : SharedTxn g.row.S.Denot g.row.S-Shared.Denot). g.S.SharedSession.stands s.shared.now s.session.now)
    (λ (s : SharedTxn g.row.S.Denot g.row.S-Shared.Denot) (f : View). g.S.SharedSession.ends s.session.now f) (λ (s t : SharedTxn g.row.S.Denot g.row.S-Shared.Denot). (t.session.ghost_name ≡ s.session.ghost_name) × (t.shared ≡ s.shared))
    (λ (s : SharedTxn g.row.S.Denot g.row.S-Shared.Denot). g.met.S.SharedSession.sound s.shared.now s.session.now) (λ (s t u : SharedTxn g.row.S.Denot g.row.S-Shared.Denot) first second. (second.0 ∙ first.0, second.1 ∙ first.1)) c.requires.law
    c.args.txn.now c.requires.ran.0 c.requires.active c.requires.ran.1

pub returns-in-Ok-clause-tried : goal.returns-in-Ok-clause-tried
returns-in-Ok-clause-tried g c = λ f end. scanned g.S.SharedSession.law (λ (s : SharedTxn g.row.S.Denot g.row.S-Shared.Denot). g.S.SharedSession.own s.session.now) (λ (s : SharedTxn g.row.S.Denot g.row.S-Shared.Denot). g.S.SharedSession.seat s.session.now) (λ (s : SharedTxn g.row.S.Denot g.row.S-Shared.Denot). g.S.SharedSession.stands s.shared.now s.session.now)
    (λ (s : SharedTxn g.row.S.Denot g.row.S-Shared.Denot) (f : View). g.S.SharedSession.ends s.session.now f) (λ (s t : SharedTxn g.row.S.Denot g.row.S-Shared.Denot). (t.session.ghost_name ≡ s.session.ghost_name) × (t.shared ≡ s.shared))
    (λ (s : SharedTxn g.row.S.Denot g.row.S-Shared.Denot). g.met.S.SharedSession.sound s.shared.now s.session.now) (λ (s t u : SharedTxn g.row.S.Denot g.row.S-Shared.Denot) first second. (second.0 ∙ first.0, second.1 ∙ first.1)) c.requires.law
    f c.args.txn.now c.scan.new.txn c.args.table c.args.low c.args.high c.in-Ok.found c.in_ok-found.field-0 c.requires.ran.0 c.requires.ran.1 c.in-Ok.is c.in_ok-found.ensures.ok

pub returns-in-Err-clause-tried : goal.returns-in-Err-clause-tried
returns-in-Err-clause-tried g c = scan_cut g.S.SharedSession.law (λ (s : SharedTxn g.row.S.Denot g.row.S-Shared.Denot). g.S.SharedSession.own s.session.now) (λ (s : SharedTxn g.row.S.Denot g.row.S-Shared.Denot). g.S.SharedSession.seat s.session.now) (λ (s : SharedTxn g.row.S.Denot g.row.S-Shared.Denot). g.S.SharedSession.stands s.shared.now s.session.now)
    (λ (s : SharedTxn g.row.S.Denot g.row.S-Shared.Denot) (f : View). g.S.SharedSession.ends s.session.now f) (λ (s t : SharedTxn g.row.S.Denot g.row.S-Shared.Denot). (t.session.ghost_name ≡ s.session.ghost_name) × (t.shared ≡ s.shared))
    (λ (s : SharedTxn g.row.S.Denot g.row.S-Shared.Denot). g.met.S.SharedSession.sound s.shared.now s.session.now) (λ (s t u : SharedTxn g.row.S.Denot g.row.S-Shared.Denot) first second. (second.0 ∙ first.0, second.1 ∙ first.1)) c.requires.law
    c.refused.result c.args.txn.now c.scan.new.txn c.in-Err.stop c.refused.ensures c.args.table c.args.low c.args.high c.in_ok-found.field-0 c.in-Err.is c.in_ok-found.ensures.err
