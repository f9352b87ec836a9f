use Rattle.std.proofs.Common.{sym, ap, ◌∙◌}
use Rattle.std.proofs.lemmas.Result.{IfOk-weaker}
use Rattle.erm_world.specs.World.{phase_at}
use Rattle.erm_lines.specs.Answers.{DidLine}
use Rattle.erm_lines.specs.Whole.{WasAnswered, WasWatched, is_snapshot}
use Rattle.erm_lines.proofs.Receipts.{if_answered, snapshot_keeps}
use Rattle.erm_lines.proofs.Watched.{is_free, no_snapshot, plain_line, snapshot_rests, snapshot_there, watched_line}
use Rattle.erm_lines.proofs.line.answer_line.Goals as goal

pub watch-requires-clause-snapshot : goal.watch-requires-clause-snapshot
watch-requires-clause-snapshot g c =
    snapshot_there (g.W.RowWorld.view c.args.world.now) c.args.line.now.session (ap is_snapshot (sym c.phase-phase.ensures) ∙ sym c.is_snapshot.ensures ∙ c.if-is_snapshot.true)

pub returns-then-is_snapshot-clause-answered : goal.returns-then-is_snapshot-clause-answered
returns-then-is_snapshot-clause-answered g c =
    let v = g.W.RowWorld.view c.args.world.now in
    let t = g.W.RowWorld.view c.watch.new.world in
    let l = c.args.line.now in
    IfOk-weaker c.watch.result (λ a. WasWatched v l.session l.command a t) (λ a. DidLine v l a t)
    (λ a it. watched_line v t l a c.requires.session (is_free c.refusal_of.result c.phase-phase.result (phase_at v l.session) l.command c.refusal_of.ensures c.phase-phase.ensures c.in_default.not-Some) (ap is_snapshot (sym c.phase-phase.ensures) ∙ sym c.is_snapshot.ensures ∙ c.if-is_snapshot.true) it.fits it.did) c.watch.ensures.answered

pub returns-then-is_snapshot-clause-kept : goal.returns-then-is_snapshot-clause-kept
returns-then-is_snapshot-clause-kept g c =
    let v = g.W.RowWorld.view c.args.world.now in
    let t = g.W.RowWorld.view c.watch.new.world in
    let l = c.args.line.now in
    if_answered (λ a. WasWatched v l.session l.command a t) c.watch.result
    (λ a it. snapshot_keeps v t l.session c.args.receipt.now l.command a (snapshot_rests v l.session (ap is_snapshot (sym c.phase-phase.ensures) ∙ sym c.is_snapshot.ensures ∙ c.if-is_snapshot.true)) it.did) c.watch.ensures.answered

pub run-requires-clause-plain : goal.run-requires-clause-plain
run-requires-clause-plain g c =
    no_snapshot (phase_at (g.W.RowWorld.view c.args.world.now) c.args.line.now.session) (ap is_snapshot (sym c.phase-phase.ensures) ∙ sym c.is_snapshot.ensures ∙ c.if-is_snapshot.false)

pub returns-clause-answered : goal.returns-clause-answered
returns-clause-answered g c =
    let v = g.W.RowWorld.view c.args.world.now in
    let t = g.W.RowWorld.view c.run.new.world in
    let l = c.args.line.now in
    IfOk-weaker c.run.result (λ a. WasAnswered v l.session l.command a t) (λ a. DidLine v l a t)
    (λ a it. plain_line v t l a c.requires.session (is_free c.refusal_of.result c.phase-phase.result (phase_at v l.session) l.command c.refusal_of.ensures c.phase-phase.ensures c.in_default.not-Some) (no_snapshot (phase_at v l.session) (ap is_snapshot (sym c.phase-phase.ensures) ∙ sym c.is_snapshot.ensures ∙ c.if-is_snapshot.false)) it.fits it.did) c.run.ensures.answered
