use Rattle.std.proofs.Common.{sym, ◌∙◌}
use Rattle.erm_lines.proofs.Receipts.{aborted_ends, aborted_keeps}
use Rattle.erm_lines.proofs.Watched.{snapshot_left}
use Rattle.erm_lines.proofs.ends.close_session.Goals as goal

pub returns-in-Active : goal.returns-in-Active
returns-in-Active g c = record {
  stands = c.abort.ensures.stands;
  closed = aborted_ends (g.W.RowWorld.view c.args.world.now) (g.W.RowWorld.view c.abort.new.self) c.args.seat c.requires.session c.requires.open
      (λ sealed. let at = sym c.in-Active.is ∙ c.phase.ensures ∙ sealed in cc) c.abort.ensures.aborted;
  waits = tt;
  kept = aborted_keeps (g.W.RowWorld.view c.args.world.now) (g.W.RowWorld.view c.abort.new.self) c.args.seat c.args.receipt.now c.abort.ensures.aborted;
}

pub end_safe-requires-clause-snapshot : goal.end_safe-requires-clause-snapshot
end_safe-requires-clause-snapshot g c = snapshot_left (g.W.RowWorld.view c.args.world.now) c.args.seat c.requires.open
    (λ sealed. c.in_default.not-Sealed (c.phase.ensures ∙ sealed)) (λ active. c.in_default.not-Active (c.phase.ensures ∙ active))

pub returns-in_default : goal.returns-in_default
returns-in_default g c = record {
  stands = c.end_safe.ensures.stands;
  closed = aborted_ends (g.W.RowWorld.view c.args.world.now) (g.W.RowWorld.view c.end_safe.new.self) c.args.seat c.requires.session c.requires.open
      (λ sealed. c.in_default.not-Sealed (c.phase.ensures ∙ sealed)) c.end_safe.ensures.ended;
  waits = tt;
  kept = aborted_keeps (g.W.RowWorld.view c.args.world.now) (g.W.RowWorld.view c.end_safe.new.self) c.args.seat c.args.receipt.now c.end_safe.ensures.ended;
}
