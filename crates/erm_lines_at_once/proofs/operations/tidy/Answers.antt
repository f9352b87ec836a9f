use Rattle.std.proofs.Common.{◌≡◌, ◌∙◌}
use Rattle.erm_world.specs.World.{View}
use Rattle.erm_beside.specs.declared.txn.SharedTxn.{SharedTxn}
use Rattle.erm_model.specs.RowTransaction.{StopsRead}
use Rattle.erm_tree.specs.Calls.{AsksReads, Reads}
use Rattle.erm_tree.specs.Reads.{IsOnWay}
use Rattle.erm_lines_at_once.proofs.Bridged.{claim_cut, claim_follows, does_follows, find_cut, ready, stopped_follows, tidied_none, tidied_some}
use Rattle.erm_lines_at_once.proofs.operations.tidy.Goals as goal

pub find-requires-clause-ready : goal.find-requires-clause-ready
find-requires-clause-ready g c = ready g.S.SharedSession.law (λ (s : SharedTxn g.row.S.Denot g.row.S-Shared.Denot). g.S.SharedSession.own s.session.now) (λ (s : SharedTxn g.row.S.Denot g.row.S-Shared.Denot). g.S.SharedSession.seat s.session.now) (λ (s : SharedTxn g.row.S.Denot g.row.S-Shared.Denot). g.S.SharedSession.stands s.shared.now s.session.now)
    (λ (s : SharedTxn g.row.S.Denot g.row.S-Shared.Denot) (f : View). g.S.SharedSession.ends s.session.now f) (λ (s t : SharedTxn g.row.S.Denot g.row.S-Shared.Denot). (t.session.ghost_name ≡ s.session.ghost_name) × (t.shared ≡ s.shared))
    (λ (s : SharedTxn g.row.S.Denot g.row.S-Shared.Denot). g.met.S.SharedSession.sound s.shared.now s.session.now) (λ (s t u : SharedTxn g.row.S.Denot g.row.S-Shared.Denot) first second. (second.0 ∙ first.0, second.1 ∙ first.1)) c.requires.law
    c.args.txn.now c.requires.ran.0 c.requires.active c.requires.ran.1

pub returns-in-Ok-None-clause-tried : goal.returns-in-Ok-None-clause-tried
returns-in-Ok-None-clause-tried g c = λ f end. tidied_none g.S.SharedSession.law (λ (s : SharedTxn g.row.S.Denot g.row.S-Shared.Denot). g.S.SharedSession.own s.session.now) (λ (s : SharedTxn g.row.S.Denot g.row.S-Shared.Denot). g.S.SharedSession.seat s.session.now) (λ (s : SharedTxn g.row.S.Denot g.row.S-Shared.Denot). g.S.SharedSession.stands s.shared.now s.session.now)
    (λ (s : SharedTxn g.row.S.Denot g.row.S-Shared.Denot) (f : View). g.S.SharedSession.ends s.session.now f) (λ (s t : SharedTxn g.row.S.Denot g.row.S-Shared.Denot). (t.session.ghost_name ≡ s.session.ghost_name) × (t.shared ≡ s.shared))
    (λ (s : SharedTxn g.row.S.Denot g.row.S-Shared.Denot). g.met.S.SharedSession.sound s.shared.now s.session.now) (λ (s t u : SharedTxn g.row.S.Denot g.row.S-Shared.Denot) first second. (second.0 ∙ first.0, second.1 ∙ first.1)) c.requires.law
    f c.args.txn.now c.find.new.txn c.args.table c.args.key c.in-Ok-None.field-0 c.in-Ok-None.field-0-is c.in-Ok-None.ensures.ok

pub returns-in-Ok-clause-follows : goal.returns-in-Ok-clause-follows
returns-in-Ok-clause-follows g c = does_follows g.S.SharedSession.law (λ (s : SharedTxn g.row.S.Denot g.row.S-Shared.Denot). g.S.SharedSession.own s.session.now) (λ (s : SharedTxn g.row.S.Denot g.row.S-Shared.Denot). g.S.SharedSession.seat s.session.now) (λ (s : SharedTxn g.row.S.Denot g.row.S-Shared.Denot). g.S.SharedSession.stands s.shared.now s.session.now)
    (λ (s : SharedTxn g.row.S.Denot g.row.S-Shared.Denot) (f : View). g.S.SharedSession.ends s.session.now f) (λ (s t : SharedTxn g.row.S.Denot g.row.S-Shared.Denot). (t.session.ghost_name ≡ s.session.ghost_name) × (t.shared ≡ s.shared))
    (λ (s : SharedTxn g.row.S.Denot g.row.S-Shared.Denot). g.met.S.SharedSession.sound s.shared.now s.session.now) (λ (s t u : SharedTxn g.row.S.Denot g.row.S-Shared.Denot) first second. (second.0 ∙ first.0, second.1 ∙ first.1)) c.requires.law
    c.args.txn.now c.find.new.txn c.tidy_object.new.txn c.args.table c.args.key c.in-Ok-Some.oid c.in-Ok-Some.field-0 c.in-Ok-Some.ensures.ok c.in-Ok.ensures.ok

pub returns-in-Ok-clause-tried : goal.returns-in-Ok-clause-tried
returns-in-Ok-clause-tried g c = λ f end. tidied_some g.S.SharedSession.law (λ (s : SharedTxn g.row.S.Denot g.row.S-Shared.Denot). g.S.SharedSession.own s.session.now) (λ (s : SharedTxn g.row.S.Denot g.row.S-Shared.Denot). g.S.SharedSession.seat s.session.now) (λ (s : SharedTxn g.row.S.Denot g.row.S-Shared.Denot). g.S.SharedSession.stands s.shared.now s.session.now)
    (λ (s : SharedTxn g.row.S.Denot g.row.S-Shared.Denot) (f : View). g.S.SharedSession.ends s.session.now f) (λ (s t : SharedTxn g.row.S.Denot g.row.S-Shared.Denot). (t.session.ghost_name ≡ s.session.ghost_name) × (t.shared ≡ s.shared))
    (λ (s : SharedTxn g.row.S.Denot g.row.S-Shared.Denot). g.met.S.SharedSession.sound s.shared.now s.session.now) (λ (s t u : SharedTxn g.row.S.Denot g.row.S-Shared.Denot) first second. (second.0 ∙ first.0, second.1 ∙ first.1)) c.requires.law
    f c.args.txn.now c.find.new.txn c.tidy_object.new.txn c.args.table c.args.key c.in-Ok-Some.oid c.in-Ok-Some.field-0 c.in-Ok.cells c.in-Ok-Some.field-0-is c.in-Ok-Some.ensures.ok c.in-Ok.ensures.count c.in-Ok.ensures.ok

pub returns-in-Err-tidy_object-clause-follows : goal.returns-in-Err-tidy_object-clause-follows
returns-in-Err-tidy_object-clause-follows g c = claim_follows g.S.SharedSession.law (λ (s : SharedTxn g.row.S.Denot g.row.S-Shared.Denot). g.S.SharedSession.own s.session.now) (λ (s : SharedTxn g.row.S.Denot g.row.S-Shared.Denot). g.S.SharedSession.seat s.session.now) (λ (s : SharedTxn g.row.S.Denot g.row.S-Shared.Denot). g.S.SharedSession.stands s.shared.now s.session.now)
    (λ (s : SharedTxn g.row.S.Denot g.row.S-Shared.Denot) (f : View). g.S.SharedSession.ends s.session.now f) (λ (s t : SharedTxn g.row.S.Denot g.row.S-Shared.Denot). (t.session.ghost_name ≡ s.session.ghost_name) × (t.shared ≡ s.shared))
    (λ (s : SharedTxn g.row.S.Denot g.row.S-Shared.Denot). g.met.S.SharedSession.sound s.shared.now s.session.now) (λ (s t u : SharedTxn g.row.S.Denot g.row.S-Shared.Denot) first second. (second.0 ∙ first.0, second.1 ∙ first.1)) c.requires.law
    c.args.txn.now c.find.new.txn c.tidy_object.new.txn c.args.table c.args.key c.in-Ok-Some.oid c.in-Ok-Some.field-0 c.in-Err-tidy_object.stop c.in-Ok-Some.field-0-is c.in-Ok-Some.ensures.ok c.in-Err-tidy_object.ensures.err

pub returns-in-Err-tidy_object-clause-tried : goal.returns-in-Err-tidy_object-clause-tried
returns-in-Err-tidy_object-clause-tried g c = claim_cut g.S.SharedSession.law (λ (s : SharedTxn g.row.S.Denot g.row.S-Shared.Denot). g.S.SharedSession.own s.session.now) (λ (s : SharedTxn g.row.S.Denot g.row.S-Shared.Denot). g.S.SharedSession.seat s.session.now) (λ (s : SharedTxn g.row.S.Denot g.row.S-Shared.Denot). g.S.SharedSession.stands s.shared.now s.session.now)
    (λ (s : SharedTxn g.row.S.Denot g.row.S-Shared.Denot) (f : View). g.S.SharedSession.ends s.session.now f) (λ (s t : SharedTxn g.row.S.Denot g.row.S-Shared.Denot). (t.session.ghost_name ≡ s.session.ghost_name) × (t.shared ≡ s.shared))
    (λ (s : SharedTxn g.row.S.Denot g.row.S-Shared.Denot). g.met.S.SharedSession.sound s.shared.now s.session.now) (λ (s t u : SharedTxn g.row.S.Denot g.row.S-Shared.Denot) first second. (second.0 ∙ first.0, second.1 ∙ first.1)) c.requires.law
    c.refused.result c.args.txn.now c.find.new.txn c.tidy_object.new.txn c.args.table c.args.key c.in-Ok-Some.oid c.in-Ok-Some.field-0 c.in-Err-tidy_object.stop c.in-Ok-Some.field-0-is c.in-Ok-Some.ensures.ok c.in-Err-tidy_object.ensures.err c.refused.ensures

pub returns-in-Err-clause-follows : goal.returns-in-Err-clause-follows
returns-in-Err-clause-follows g c = stopped_follows g.S.SharedSession.law (λ (s : SharedTxn g.row.S.Denot g.row.S-Shared.Denot). g.S.SharedSession.own s.session.now) (λ (s : SharedTxn g.row.S.Denot g.row.S-Shared.Denot). g.S.SharedSession.seat s.session.now) (λ (s : SharedTxn g.row.S.Denot g.row.S-Shared.Denot). g.S.SharedSession.stands s.shared.now s.session.now)
    (λ (s : SharedTxn g.row.S.Denot g.row.S-Shared.Denot) (f : View). g.S.SharedSession.ends s.session.now f) (λ (s t : SharedTxn g.row.S.Denot g.row.S-Shared.Denot). (t.session.ghost_name ≡ s.session.ghost_name) × (t.shared ≡ s.shared))
    (λ (s : SharedTxn g.row.S.Denot g.row.S-Shared.Denot). g.met.S.SharedSession.sound s.shared.now s.session.now) (λ (s t u : SharedTxn g.row.S.Denot g.row.S-Shared.Denot) first second. (second.0 ∙ first.0, second.1 ∙ first.1)) c.requires.law
    StopsRead (Reads g.S.SharedSession.law (IsOnWay c.args.table c.args.key)) (AsksReads (IsOnWay c.args.table c.args.key)) c.args.txn.now c.find.new.txn c.in-Err.stop c.in-Err.ensures.err

pub returns-in-Err-clause-tried : goal.returns-in-Err-clause-tried
returns-in-Err-clause-tried g c = find_cut g.S.SharedSession.law (λ (s : SharedTxn g.row.S.Denot g.row.S-Shared.Denot). g.S.SharedSession.own s.session.now) (λ (s : SharedTxn g.row.S.Denot g.row.S-Shared.Denot). g.S.SharedSession.seat s.session.now) (λ (s : SharedTxn g.row.S.Denot g.row.S-Shared.Denot). g.S.SharedSession.stands s.shared.now s.session.now)
    (λ (s : SharedTxn g.row.S.Denot g.row.S-Shared.Denot) (f : View). g.S.SharedSession.ends s.session.now f) (λ (s t : SharedTxn g.row.S.Denot g.row.S-Shared.Denot). (t.session.ghost_name ≡ s.session.ghost_name) × (t.shared ≡ s.shared))
    (λ (s : SharedTxn g.row.S.Denot g.row.S-Shared.Denot). g.met.S.SharedSession.sound s.shared.now s.session.now) (λ (s t u : SharedTxn g.row.S.Denot g.row.S-Shared.Denot) first second. (second.0 ∙ first.0, second.1 ∙ first.1)) c.requires.law
    c.refused-in-Err.result c.args.txn.now c.find.new.txn c.in-Err.stop c.refused-in-Err.ensures c.args.table c.args.key c.in-Err.ensures.err
