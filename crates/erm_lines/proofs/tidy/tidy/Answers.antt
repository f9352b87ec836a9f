use Rattle.std.proofs.Common.{◌≡◌, Some, None}
use Rattle.erm_world.specs.declared.txn.WorldTxn.{WorldTxn}
use Rattle.erm_lines.proofs.Tidied.{tidy_err, tidy_none, tidy_some, tidy_unclaimed}
use Rattle.erm_lines.proofs.tidy.tidy.Goals as goal

pub find-requires-clause-ready : goal.find-requires-clause-ready
find-requires-clause-ready g c = c.runs_are_ready.ensures c.requires.law c.args.txn.now c.requires.ran.0 c.requires.active c.requires.ran.1

pub returns-in-Ok-None-clause-answered : goal.returns-in-Ok-None-clause-answered
returns-in-Ok-None-clause-answered g c =
    tidy_none g.W.RowWorld.law (λ (u : WorldTxn g.row.W.Denot). g.W.RowWorld.view u.world.now) (λ (u : WorldTxn g.row.W.Denot). u.seat) (λ (u : WorldTxn g.row.W.Denot). g.W.RowWorld.stands u.world.now)
    (λ (u v : WorldTxn g.row.W.Denot). v.world.ghost_name ≡ u.world.ghost_name) c.requires.law (c.calls_are_runs.ensures c.requires.law)
    c.args.txn.now c.find.new.txn c.args.table c.args.key c.in-Ok-None.field-0 (c.looks_and_claims_set_no_row.ensures.find c.args.table c.args.key None) c.in-Ok-None.field-0-is c.in-Ok-None.ensures.ok

pub returns-in-Ok-clause-answered : goal.returns-in-Ok-clause-answered
returns-in-Ok-clause-answered g c =
    tidy_some g.W.RowWorld.law (λ (u : WorldTxn g.row.W.Denot). g.W.RowWorld.view u.world.now) (λ (u : WorldTxn g.row.W.Denot). u.seat) (λ (u : WorldTxn g.row.W.Denot). g.W.RowWorld.stands u.world.now)
    (λ (u v : WorldTxn g.row.W.Denot). v.world.ghost_name ≡ u.world.ghost_name) c.requires.law (c.calls_are_runs.ensures c.requires.law)
    c.args.txn.now c.find.new.txn c.tidy_object.new.txn c.args.table c.args.key c.in-Ok-Some.oid c.in-Ok-Some.field-0 (c.looks_and_claims_set_no_row.ensures.find c.args.table c.args.key (Some c.in-Ok-Some.oid)) c.in-Ok-Some.field-0-is c.in-Ok-Some.ensures.ok
    c.in-Ok.cells c.in-Ok.ensures.count (c.looks_and_claims_set_no_row.ensures.claim c.in-Ok-Some.oid) c.in-Ok.ensures.ok

pub returns-in-Err-tidy_object-clause-answered : goal.returns-in-Err-tidy_object-clause-answered
returns-in-Err-tidy_object-clause-answered g c =
    tidy_unclaimed g.W.RowWorld.law (λ (u : WorldTxn g.row.W.Denot). g.W.RowWorld.view u.world.now) (λ (u : WorldTxn g.row.W.Denot). u.seat) (λ (u : WorldTxn g.row.W.Denot). g.W.RowWorld.stands u.world.now)
    (λ (u v : WorldTxn g.row.W.Denot). v.world.ghost_name ≡ u.world.ghost_name) c.requires.law (c.calls_are_runs.ensures c.requires.law)
    c.args.txn.now c.find.new.txn c.tidy_object.new.txn c.args.table c.args.key c.in-Ok-Some.oid c.in-Ok-Some.field-0 (c.looks_and_claims_set_no_row.ensures.find c.args.table c.args.key (Some c.in-Ok-Some.oid)) c.in-Ok-Some.field-0-is c.in-Ok-Some.ensures.ok
    c.refusal.result c.in-Err-tidy_object.stop (c.refused_calls_set_no_row.ensures.claim c.in-Ok-Some.oid) c.in-Err-tidy_object.ensures.err c.refusal.ensures

pub returns-in-Err-clause-answered : goal.returns-in-Err-clause-answered
returns-in-Err-clause-answered g c =
    tidy_err g.W.RowWorld.law (λ (u : WorldTxn g.row.W.Denot). g.W.RowWorld.view u.world.now) (λ (u : WorldTxn g.row.W.Denot). u.seat) (λ (u : WorldTxn g.row.W.Denot). g.W.RowWorld.stands u.world.now)
    (λ (u v : WorldTxn g.row.W.Denot). v.world.ghost_name ≡ u.world.ghost_name) c.requires.law (c.calls_are_runs.ensures c.requires.law)
    c.refusal-in-Err.result c.args.txn.now c.find.new.txn c.args.table c.args.key c.in-Err.stop (c.refused_calls_set_no_row.ensures.find c.args.table c.args.key) c.in-Err.ensures.err c.refusal-in-Err.ensures
