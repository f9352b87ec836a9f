use Rattle.std.proofs.Common.{◌≡◌}
use Rattle.erm_world.specs.declared.txn.WorldTxn.{WorldTxn}
use Rattle.erm_world_cases.proofs.Stay.{call_answers, call_refuses, called_kept}
use Rattle.erm_world_cases.proofs.sessions.answer_by.Goals as goal

pub call-requires-clause-ready : goal.call-requires-clause-ready
call-requires-clause-ready g c =
    let before = c.requires.runs c.args.txn.now.seat c.requires.active.1 c.requires.active.2 in
    c.runs_are_ready.ensures c.requires.law c.args.txn.now before.0 c.requires.active before.1

pub returns-clause-runs : goal.returns-clause-runs
returns-clause-runs g c =
    called_kept g.W.RowWorld.law (λ (u : WorldTxn g.row.W.Denot). g.W.RowWorld.view u.world.now) (λ (u : WorldTxn g.row.W.Denot). u.seat) (λ (u : WorldTxn g.row.W.Denot). g.W.RowWorld.stands u.world.now)
    (λ (u v : WorldTxn g.row.W.Denot). v.world.ghost_name ≡ u.world.ghost_name) (c.calls_are_runs.ensures c.requires.law)
    c.args.txn.now c.call.new.txn c.requires.active c.call.ensures.follows c.args.op.now c.requires.runs c.call.result c.call.ensures.ok c.call.ensures.err

pub returns-clause-ok : goal.returns-clause-ok
returns-clause-ok g c =
    call_answers g.W.RowWorld.law (λ (u : WorldTxn g.row.W.Denot). g.W.RowWorld.view u.world.now) (λ (u : WorldTxn g.row.W.Denot). u.seat) (λ (u : WorldTxn g.row.W.Denot). g.W.RowWorld.stands u.world.now)
    (λ (u v : WorldTxn g.row.W.Denot). v.world.ghost_name ≡ u.world.ghost_name) (c.calls_are_runs.ensures c.requires.law)
    c.args.txn.now c.call.new.txn c.requires.active c.call.ensures.follows c.args.op.now c.call.result c.call.ensures.ok

pub returns-clause-err : goal.returns-clause-err
returns-clause-err g c =
    call_refuses g.W.RowWorld.law (λ (u : WorldTxn g.row.W.Denot). g.W.RowWorld.view u.world.now) (λ (u : WorldTxn g.row.W.Denot). u.seat) (λ (u : WorldTxn g.row.W.Denot). g.W.RowWorld.stands u.world.now)
    (λ (u v : WorldTxn g.row.W.Denot). v.world.ghost_name ≡ u.world.ghost_name) (c.calls_are_runs.ensures c.requires.law)
    c.args.txn.now c.call.new.txn c.requires.active c.call.ensures.follows c.args.op.now c.call.result c.call.ensures.err
