use Rattle.std.proofs.Common.{Option, IfOk, IfSome, sym, ap, subst}
use Rattle.std.proofs.lemmas.Result.{IfOk-weaker}
use Rattle.erm_report.specs.declared.answer.Answer.{Answer}
use Rattle.erm_script.specs.declared.script.Command.{Command}
use Rattle.erm_script.specs.declared.script.Command.TheVariants as command
use Rattle.erm_good_report.specs.Phases.{NeedsAny, NeedsReader, NeedsWriter, need_of}
use Rattle.erm_world.specs.Face.{Grows}
use Rattle.erm_world.specs.World.{View, phase_at}
use Rattle.erm_lines.proofs.Watched.{active_in, idle_where, settle_where, start_where}
use Rattle.erm_lines_at_once.specs.Answers.{WasAnsweredBeside}
use Rattle.erm_worker.specs.Work.{IsReady, WasAsked}
use Rattle.erm_worker.proofs.Asked.{operates}
use Rattle.erm_worker.proofs.Kept.{aborted_ready, back_ready, begun_ready, saved_ready, sealed_ready}
use Rattle.erm_worker.proofs.Ready.{committed_ready, flushed_ready, operated_ready, same_grown, snapshot_ready}
use Rattle.erm_worker.proofs.Short.{on_err}
use Rattle.erm_worker.proofs.line.run.Goals as goal

-- THE PHASES
pub begin-requires-clause-idle : goal.begin-requires-clause-idle
begin-requires-clause-idle g c = idle_where (phase_at (g.S.SharedSession.own c.args.session.now) (g.S.SharedSession.seat c.args.session.now)) c.args.command.now c.requires.allowed c.in-Begin.is

pub begin_snapshot-requires-clause-idle : goal.begin_snapshot-requires-clause-idle
begin_snapshot-requires-clause-idle g c =
    start_where (phase_at (g.S.SharedSession.own c.args.session.now) (g.S.SharedSession.seat c.args.session.now)) c.args.command.now c.requires.allowed c.in-Safe.is c.requires.plain

pub save-requires-clause-active : goal.save-requires-clause-active
save-requires-clause-active g c =
    active_in (phase_at (g.S.SharedSession.own c.args.session.now) (g.S.SharedSession.seat c.args.session.now)) c.args.command.now NeedsWriter (ap need_of c.in-Save.is) tt c.requires.plain c.requires.allowed

pub back-requires-clause-active : goal.back-requires-clause-active
back-requires-clause-active g c =
    active_in (phase_at (g.S.SharedSession.own c.args.session.now) (g.S.SharedSession.seat c.args.session.now)) c.args.command.now NeedsWriter (ap need_of c.in-Back.is) tt c.requires.plain c.requires.allowed

pub back-requires-clause-ran : goal.back-requires-clause-ran
back-requires-clause-ran g c =
    c.requires.ready.run (active_in (phase_at (g.S.SharedSession.own c.args.session.now) (g.S.SharedSession.seat c.args.session.now)) c.args.command.now NeedsWriter (ap need_of c.in-Back.is) tt c.requires.plain c.requires.allowed)

pub seal-answer-requires-clause-active : goal.seal-answer-requires-clause-active
seal-answer-requires-clause-active g c =
    active_in (phase_at (g.S.SharedSession.own c.args.session.now) (g.S.SharedSession.seat c.args.session.now)) c.args.command.now NeedsWriter (ap need_of c.in-Seal.is) tt c.requires.plain c.requires.allowed

pub seal-answer-requires-clause-ran : goal.seal-answer-requires-clause-ran
seal-answer-requires-clause-ran g c =
    c.requires.ready.run (active_in (phase_at (g.S.SharedSession.own c.args.session.now) (g.S.SharedSession.seat c.args.session.now)) c.args.command.now NeedsWriter (ap need_of c.in-Seal.is) tt c.requires.plain c.requires.allowed)

pub settle-requires-clause-sealed : goal.settle-requires-clause-sealed
settle-requires-clause-sealed g c = settle_where (phase_at (g.S.SharedSession.own c.args.session.now) (g.S.SharedSession.seat c.args.session.now)) c.args.command.now c.requires.allowed c.in-Settle.is

pub commit-requires-clause-active : goal.commit-requires-clause-active
commit-requires-clause-active g c =
    active_in (phase_at (g.S.SharedSession.own c.args.session.now) (g.S.SharedSession.seat c.args.session.now)) c.args.command.now NeedsReader (ap need_of c.in-Commit.is) tt c.requires.plain c.requires.allowed

pub abort-requires-clause-active : goal.abort-requires-clause-active
abort-requires-clause-active g c =
    active_in (phase_at (g.S.SharedSession.own c.args.session.now) (g.S.SharedSession.seat c.args.session.now)) c.args.command.now NeedsAny (ap need_of c.in-Abort.is) tt c.requires.plain c.requires.allowed

pub operate-requires : goal.operate-requires
operate-requires g c =
    let phase = phase_at (g.S.SharedSession.own c.args.session.now) (g.S.SharedSession.seat c.args.session.now) in
    let it = operates c.args.command.now phase c.requires.may.of_session c.requires.plain c.requires.allowed c.in_default.not-Begin c.in_default.not-Safe c.in_default.not-Save c.in_default.not-Back c.in_default.not-Seal c.in_default.not-Settle
    c.in_default.not-Commit c.in_default.not-Abort c.in_default.not-Durable in
    record { law = c.requires.law; stands = c.requires.stands; active = it.active; ran = c.requires.ready.run; named = it.named; table = c.requires.may.table }

-- A SNAPSHOT
pub returns-in-Safe-clause-asked : goal.returns-in-Safe-clause-asked
returns-in-Safe-clause-asked g c =
    let seat = g.S.SharedSession.seat c.args.session.now in
    let v = g.S.SharedSession.own c.args.session.now in
    let after = c.begin_snapshot.new.session in
    subst (λ (x : Command). IfOk c.begin_snapshot.result (λ (answered : Option Answer). (f : View) → g.S.SharedSession.ends after f → WasAsked f seat x answered v (g.S.SharedSession.own after)))
    (sym c.in-Safe.is) c.begin_snapshot.ensures.asked

pub returns-in-Safe-clause-ready : goal.returns-in-Safe-clause-ready
returns-in-Safe-clause-ready g c =
    let seat = g.S.SharedSession.seat c.args.session.now in
    let v = g.S.SharedSession.own c.args.session.now in
    let after = c.begin_snapshot.new.session in
    let t = g.S.SharedSession.own after in
    let some = g.met.S.SharedSession.some c.args.shared.now after c.begin_snapshot.ensures.stands in
    IfOk-weaker c.begin_snapshot.result (λ (answered : Option Answer). (f : View) → g.S.SharedSession.ends after f → WasAsked f seat command.Safe answered v t)
    (λ (answered : Option Answer). IfSome answered (λ _. IsReady t seat c.args.receipt.now))
    (λ answered was. snapshot_ready some.0 seat answered v t c.args.receipt.now c.requires.ready (was some.0 some.1)) c.begin_snapshot.ensures.asked

pub returns-in-Safe-clause-grown : goal.returns-in-Safe-clause-grown
returns-in-Safe-clause-grown g c =
    let seat = g.S.SharedSession.seat c.args.session.now in
    same_grown c.begin_snapshot.result ((g.S.SharedSession.own c.args.session.now).session seat) ((g.S.SharedSession.own c.begin_snapshot.new.session).session seat) c.begin_snapshot.ensures.same

-- THE OTHERS

pub returns-in_ok-begin-in-Begin-clause-asked : goal.returns-in_ok-begin-in-Begin-clause-asked
returns-in_ok-begin-in-Begin-clause-asked g c =
    let seat = g.S.SharedSession.seat c.args.session.now in
    let v = g.S.SharedSession.own c.args.session.now in
    λ f end. subst (λ (x : Command). WasAnsweredBeside f seat x c.in_ok-begin-in-Begin.field-0 v (g.S.SharedSession.own c.begin.new.session)) (sym c.in-Begin.is) (c.in_ok-begin-in-Begin.ensures.answered f)

pub returns-in_ok-begin-in-Begin-clause-ready : goal.returns-in_ok-begin-in-Begin-clause-ready
returns-in_ok-begin-in-Begin-clause-ready g c =
    let seat = g.S.SharedSession.seat c.args.session.now in
    let v = g.S.SharedSession.own c.args.session.now in
    begun_ready c.begun_transactions_are_runs.ensures v seat v (g.S.SharedSession.own c.begin.new.session) c.args.receipt.now c.requires.ready c.in_ok-begin-in-Begin.field-0
    (idle_where (phase_at v seat) c.args.command.now c.requires.allowed c.in-Begin.is) (c.in_ok-begin-in-Begin.ensures.answered v).did

pub returns-in_ok-save-in-Save-clause-asked : goal.returns-in_ok-save-in-Save-clause-asked
returns-in_ok-save-in-Save-clause-asked g c =
    let seat = g.S.SharedSession.seat c.args.session.now in
    let v = g.S.SharedSession.own c.args.session.now in
    λ f end. subst (λ (x : Command). WasAnsweredBeside f seat x c.in_ok-save-in-Save.field-0 v (g.S.SharedSession.own c.save.new.session)) (sym c.in-Save.is) (c.in_ok-save-in-Save.ensures.answered f)

pub returns-in_ok-save-in-Save-clause-ready : goal.returns-in_ok-save-in-Save-clause-ready
returns-in_ok-save-in-Save-clause-ready g c =
    let seat = g.S.SharedSession.seat c.args.session.now in
    let v = g.S.SharedSession.own c.args.session.now in
    saved_ready c.begun_transactions_are_runs.ensures v seat v (g.S.SharedSession.own c.save.new.session) c.args.receipt.now c.requires.ready c.in_ok-save-in-Save.field-0
    (active_in (phase_at v seat) c.args.command.now NeedsWriter (ap need_of c.in-Save.is) tt c.requires.plain c.requires.allowed) (c.in_ok-save-in-Save.ensures.answered v).did

pub returns-in-Back-clause-asked : goal.returns-in-Back-clause-asked
returns-in-Back-clause-asked g c =
    let seat = g.S.SharedSession.seat c.args.session.now in
    let v = g.S.SharedSession.own c.args.session.now in
    λ f end. subst (λ (x : Command). WasAnsweredBeside f seat x c.back.result v (g.S.SharedSession.own c.back.new.session)) (sym c.in-Back.is) (c.back.ensures.answered f)

pub returns-in-Back-clause-ready : goal.returns-in-Back-clause-ready
returns-in-Back-clause-ready g c =
    let seat = g.S.SharedSession.seat c.args.session.now in
    let v = g.S.SharedSession.own c.args.session.now in
    back_ready c.begun_transactions_are_runs.ensures v seat v (g.S.SharedSession.own c.back.new.session) c.args.receipt.now c.requires.ready c.in-Back.n c.back.result
    (active_in (phase_at v seat) c.args.command.now NeedsWriter (ap need_of c.in-Back.is) tt c.requires.plain c.requires.allowed) (c.back.ensures.answered v).did

pub returns-in-Seal-clause-asked : goal.returns-in-Seal-clause-asked
returns-in-Seal-clause-asked g c =
    let seat = g.S.SharedSession.seat c.args.session.now in
    let v = g.S.SharedSession.own c.args.session.now in
    λ f end. subst (λ (x : Command). WasAnsweredBeside f seat x c.seal-answer.result v (g.S.SharedSession.own c.seal-answer.new.session)) (sym c.in-Seal.is) (c.seal-answer.ensures.answered f)

pub returns-in-Seal-clause-ready : goal.returns-in-Seal-clause-ready
returns-in-Seal-clause-ready g c =
    let seat = g.S.SharedSession.seat c.args.session.now in
    let v = g.S.SharedSession.own c.args.session.now in
    sealed_ready c.begun_transactions_are_runs.ensures v seat v (g.S.SharedSession.own c.seal-answer.new.session) c.args.receipt.now c.requires.ready c.seal-answer.result (c.seal-answer.ensures.answered v).did

pub returns-in-Commit-clause-ready : goal.returns-in-Commit-clause-ready
returns-in-Commit-clause-ready g c =
    let seat = g.S.SharedSession.seat c.args.session.now in
    let v = g.S.SharedSession.own c.args.session.now in
    committed_ready v seat c.commit.result v (g.S.SharedSession.own c.commit.new.session) c.args.receipt.now c.commit.new.receipt (c.commit.ensures.asked v) c.commit.ensures.kept c.requires.ready

pub returns-in-Abort-clause-asked : goal.returns-in-Abort-clause-asked
returns-in-Abort-clause-asked g c =
    let seat = g.S.SharedSession.seat c.args.session.now in
    let v = g.S.SharedSession.own c.args.session.now in
    λ f end. subst (λ (x : Command). WasAnsweredBeside f seat x c.abort.result v (g.S.SharedSession.own c.abort.new.session)) (sym c.in-Abort.is) (c.abort.ensures.answered f)

pub returns-in-Abort-clause-ready : goal.returns-in-Abort-clause-ready
returns-in-Abort-clause-ready g c =
    let seat = g.S.SharedSession.seat c.args.session.now in
    let v = g.S.SharedSession.own c.args.session.now in
    aborted_ready c.begun_transactions_are_runs.ensures v seat v (g.S.SharedSession.own c.abort.new.session) c.args.receipt.now c.requires.ready c.abort.result (c.abort.ensures.answered v).did

pub returns-in-Durable-clause-ready : goal.returns-in-Durable-clause-ready
returns-in-Durable-clause-ready g c =
    let seat = g.S.SharedSession.seat c.args.session.now in
    let v = g.S.SharedSession.own c.args.session.now in
    flushed_ready c.begun_transactions_are_runs.ensures v seat c.durable.result v (g.S.SharedSession.own c.durable.new.session) c.args.receipt.now (c.durable.ensures.asked v) c.requires.ready

pub returns-in_default : goal.returns-in_default
returns-in_default g c =
    let seat = g.S.SharedSession.seat c.args.session.now in
    let v = g.S.SharedSession.own c.args.session.now in
    let t = g.S.SharedSession.own c.operate.new.session in
    record {
      stands = c.operate.ensures.stands;
      onward = c.operate.ensures.onward;
      asked = c.operate.ensures.asked;
      ready = operated_ready c.operate.result v t seat c.args.receipt.now c.operate.ensures.ran c.operate.ensures.grows c.requires.ready;
      told = c.operate.ensures.told;
      grown = on_err c.operate.result (Grows (v.session seat) (t.session seat)) c.operate.ensures.grows;
    }
