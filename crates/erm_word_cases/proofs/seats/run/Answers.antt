use Rattle.std.proofs.Common.{ℕ, ap}
use Rattle.erm_machine.specs.declared.part.Part.{Part}
use Rattle.erm_seats.specs.declared.answer.BeginStop.{BeginStop}
use Rattle.erm_seats.specs.Calls.{DidBegin, DidStop}
use Rattle.erm_seats.specs.Race.{HasStopped}
use Rattle.erm_word_cases.proofs.Racing.{any_lawful, alone_there, not_there, number_left, seal_active, seal_rests, run_taken, run_bound, has_run, has_stopped, ok_says, err_says}
use Rattle.erm_word_cases.proofs.seats.run.Goals as goal

pub look-answer-requires-clause-taken : goal.look-answer-requires-clause-taken
look-answer-requires-clause-taken c =
    run_taken c.args.opening.now c.args.who c.in_ok-begin.begin c.args.pass.me.0.view _ c.requires.idle
    (ok_says (λ (begin : ℕ). DidBegin c.args.pass.me.0.view c.args.who begin c.begin_steps.new.p.me.0.view) c.begin_steps.result c.in_ok-begin.begin c.in_ok-begin.ensures.value c.begin_steps.ensures.begun)
    c.args.size c.seal_steps-stamp.result _ c.seal_steps-stamp.ensures.sealed

pub look-answer-requires-clause-bound : goal.look-answer-requires-clause-bound
look-answer-requires-clause-bound c =
    run_bound c.args.opening.now c.args.who c.in_ok-begin.begin c.args.pass.me.0.view _ c.requires.idle
    (ok_says (λ (begin : ℕ). DidBegin c.args.pass.me.0.view c.args.who begin c.begin_steps.new.p.me.0.view) c.begin_steps.result c.in_ok-begin.begin c.in_ok-begin.ensures.value c.begin_steps.ensures.begun)
    c.args.size c.seal_steps-stamp.result _ c.seal_steps-stamp.ensures.sealed

pub returns-clause-ran : goal.returns-clause-ran
returns-clause-ran c =
    has_run c.args.opening.now c.args.who c.in_ok-begin.begin c.args.pass.me.0.view _ c.requires.idle
    (ok_says (λ (begin : ℕ). DidBegin c.args.pass.me.0.view c.args.who begin c.begin_steps.new.p.me.0.view) c.begin_steps.result c.in_ok-begin.begin c.in_ok-begin.ensures.value c.begin_steps.ensures.begun)
    c.args.size c.seal_steps-stamp.result _ c.seal_steps-stamp.ensures.sealed
    c.args.other c.look-answer.result _ c.look-answer.ensures.looked c.look-answer.ensures.stays

pub returns-in_err-begin-clause-stopped : goal.returns-in_err-begin-clause-stopped
returns-in_err-begin-clause-stopped c =
    let stop = err_says (λ (stop : BeginStop). DidStop c.args.pass.me.0.view c.args.who stop c.begin_steps.new.p.me.0.view) c.begin_steps.result c.in_err-begin.ensures.value c.begin_steps.ensures.stopped in
    not_there (HasStopped c.args.opening.now c.args.who) c.from_residual.result c.from_residual.ensures
    (has_stopped c.args.opening.now c.args.who c.args.pass.me.0.view _ stop.0 c.requires.idle stop.1)

pub seal_steps-stamp-requires-clause-active : goal.seal_steps-stamp-requires-clause-active
seal_steps-stamp-requires-clause-active c =
    seal_active c.args.opening.now c.args.who c.in_ok-begin.begin c.args.pass.me.0.view _ c.requires.idle
    (ok_says (λ (begin : ℕ). DidBegin c.args.pass.me.0.view c.args.who begin c.begin_steps.new.p.me.0.view) c.begin_steps.result c.in_ok-begin.begin c.in_ok-begin.ensures.value c.begin_steps.ensures.begun)

pub seal_steps-stamp-requires-clause-rests : goal.seal_steps-stamp-requires-clause-rests
seal_steps-stamp-requires-clause-rests c =
    seal_rests c.args.opening.now c.args.who c.in_ok-begin.begin c.args.pass.me.0.view _ c.requires.idle
    (ok_says (λ (begin : ℕ). DidBegin c.args.pass.me.0.view c.args.who begin c.begin_steps.new.p.me.0.view) c.begin_steps.result c.in_ok-begin.begin c.in_ok-begin.ensures.value c.begin_steps.ensures.begun)

pub begin_steps-requires-clause-idle : goal.begin_steps-requires-clause-idle
begin_steps-requires-clause-idle c = ap (λ (z : Part). z.place) (alone_there c.args.opening.now c.args.who c.args.pass.me.0.view c.requires.idle)

pub begin_steps-requires-clause-number : goal.begin_steps-requires-clause-number
begin_steps-requires-clause-number c = number_left c.args.opening.now c.args.who c.args.pass.me.0.view c.requires.idle

pub seal_steps-stamp-requires-clause-lawful : goal.seal_steps-stamp-requires-clause-lawful
seal_steps-stamp-requires-clause-lawful c = any_lawful _
