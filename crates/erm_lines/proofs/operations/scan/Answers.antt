use Rattle.std.proofs.Common.{◌≡◌}
use Rattle.erm_world.specs.declared.txn.WorldTxn.{WorldTxn}
use Rattle.erm_lines.proofs.Looked.{scan_err, scan_ok}
use Rattle.erm_lines.proofs.operations.scan.Goals as goal

pub scan-requires-clause-ready : goal.scan-requires-clause-ready
scan-requires-clause-ready g c = c.runs_are_ready.ensures c.requires.law c.args.txn.now c.requires.ran.0 c.requires.active c.requires.ran.1

pub returns-in-Ok-clause-answered : goal.returns-in-Ok-clause-answered
returns-in-Ok-clause-answered g c =
    scan_ok g.W.RowWorld.law (λ (u : WorldTxn g.row.W.Denot). g.W.RowWorld.view u.world.now) (λ (u : WorldTxn g.row.W.Denot). u.seat) (λ (u : WorldTxn g.row.W.Denot). g.W.RowWorld.stands u.world.now)
    (λ (u v : WorldTxn g.row.W.Denot). v.world.ghost_name ≡ u.world.ghost_name) c.requires.law (c.calls_are_runs.ensures c.requires.law)
    c.args.txn.now c.scan.new.txn c.args.table c.args.low c.args.high c.in-Ok.found c.in_ok-found.field-0 (c.runs_are_ready.ensures c.requires.law c.args.txn.now c.requires.ran.0 c.requires.active c.requires.ran.1).lawful c.in-Ok.is c.in_ok-found.ensures.ok

pub returns-in-Err-clause-answered : goal.returns-in-Err-clause-answered
returns-in-Err-clause-answered g c =
    scan_err g.W.RowWorld.law (λ (u : WorldTxn g.row.W.Denot). g.W.RowWorld.view u.world.now) (λ (u : WorldTxn g.row.W.Denot). u.seat) (λ (u : WorldTxn g.row.W.Denot). g.W.RowWorld.stands u.world.now)
    (λ (u v : WorldTxn g.row.W.Denot). v.world.ghost_name ≡ u.world.ghost_name) c.requires.law (c.calls_are_runs.ensures c.requires.law)
    c.refusal.result c.args.txn.now c.scan.new.txn c.args.table c.args.low c.args.high c.in-Err.stop c.in_ok-found.field-0 c.in-Err.is c.in_ok-found.ensures.err c.refusal.ensures
