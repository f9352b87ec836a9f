use Rattle.std.proofs.Common.{◌≡◌}
use Rattle.erm_world.specs.declared.txn.WorldTxn.{WorldTxn}
use Rattle.erm_lines.proofs.Lines.{del_err, del_ok}
use Rattle.erm_lines.proofs.operations.del.Goals as goal

pub del-requires-clause-ready : goal.del-requires-clause-ready
del-requires-clause-ready g c = c.runs_are_ready.ensures c.requires.law c.args.txn.now c.requires.ran.0 c.requires.active c.requires.ran.1

pub returns-in-Ok-clause-answered : goal.returns-in-Ok-clause-answered
returns-in-Ok-clause-answered g c =
    del_ok g.W.RowWorld.law (λ (u : WorldTxn g.row.W.Denot). g.W.RowWorld.view u.world.now) (λ (u : WorldTxn g.row.W.Denot). u.seat) (λ (u : WorldTxn g.row.W.Denot). g.W.RowWorld.stands u.world.now)
    (λ (u v : WorldTxn g.row.W.Denot). v.world.ghost_name ≡ u.world.ghost_name) c.requires.law (c.calls_are_runs.ensures c.requires.law)
    c.args.txn.now c.del.new.txn c.args.table c.args.key c.in-Ok.ensures.ok

pub returns-in-Err-clause-answered : goal.returns-in-Err-clause-answered
returns-in-Err-clause-answered g c =
    del_err g.W.RowWorld.law (λ (u : WorldTxn g.row.W.Denot). g.W.RowWorld.view u.world.now) (λ (u : WorldTxn g.row.W.Denot). u.seat) (λ (u : WorldTxn g.row.W.Denot). g.W.RowWorld.stands u.world.now)
    (λ (u v : WorldTxn g.row.W.Denot). v.world.ghost_name ≡ u.world.ghost_name) c.requires.law (c.calls_are_runs.ensures c.requires.law)
    c.refusal.result c.args.txn.now c.del.new.txn c.args.table c.args.key c.in-Err.stop (c.refused_calls_set_no_row.ensures.del c.args.table c.args.key) c.in-Err.ensures.err c.refusal.ensures
