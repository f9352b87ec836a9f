use Rattle.std.proofs.Common.{◌≡◌}
use Rattle.erm_world.specs.declared.txn.WorldTxn.{WorldTxn}
use Rattle.erm_lines.proofs.Lines.{next_err, next_ok}
use Rattle.erm_lines.proofs.operations.next.Goals as goal

pub next-requires-clause-ready : goal.next-requires-clause-ready
next-requires-clause-ready g c = c.runs_are_ready.ensures c.requires.law c.args.txn.now c.requires.ran.0 c.requires.active c.requires.ran.1

pub returns-in-Ok-clause-answered : goal.returns-in-Ok-clause-answered
returns-in-Ok-clause-answered g c =
    next_ok g.W.RowWorld.law (λ (u : WorldTxn g.row.W.Denot). g.W.RowWorld.view u.world.now) (λ (u : WorldTxn g.row.W.Denot). u.seat) (λ (u : WorldTxn g.row.W.Denot). g.W.RowWorld.stands u.world.now)
    (λ (u v : WorldTxn g.row.W.Denot). v.world.ghost_name ≡ u.world.ghost_name) c.requires.law (c.calls_are_runs.ensures c.requires.law)
    c.args.txn.now c.next.new.txn c.args.table c.args.from c.in-Ok.found c.in-Ok.ensures.ok

pub returns-in-Err-clause-answered : goal.returns-in-Err-clause-answered
returns-in-Err-clause-answered g c =
    next_err g.W.RowWorld.law (λ (u : WorldTxn g.row.W.Denot). g.W.RowWorld.view u.world.now) (λ (u : WorldTxn g.row.W.Denot). u.seat) (λ (u : WorldTxn g.row.W.Denot). g.W.RowWorld.stands u.world.now)
    (λ (u v : WorldTxn g.row.W.Denot). v.world.ghost_name ≡ u.world.ghost_name) c.requires.law (c.calls_are_runs.ensures c.requires.law)
    c.refusal.result c.args.txn.now c.next.new.txn c.args.table c.args.from c.in-Err.stop (c.refused_calls_set_no_row.ensures.next c.args.table c.args.from) c.in-Err.ensures.err c.refusal.ensures
