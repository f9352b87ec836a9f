use Rattle.std.proofs.Common.{ℕ, ap}
use Rattle.erm_machine.specs.declared.part.Part.{Part}
use Rattle.erm_seats.specs.Calls.{DidBegin}
use Rattle.erm_word_cases.proofs.Racing.{alone_there, number_left, ok_says}
use Rattle.erm_word_cases.proofs.Sessions.{is_begun, starts, begins, claims_none}
use Rattle.erm_word_cases.proofs.entries.enter_then.Goals as goal

pub begin_steps-requires-clause-idle : goal.begin_steps-requires-clause-idle
begin_steps-requires-clause-idle c = ap (λ (z : Part). z.place) (alone_there c.args.opening.now 2 c.args.pass.me.0.view c.requires.idle)

pub begin_steps-requires-clause-number : goal.begin_steps-requires-clause-number
begin_steps-requires-clause-number c = number_left c.args.opening.now 2 c.args.pass.me.0.view c.requires.idle

pub enter-requires-clause-active : goal.enter-requires-clause-active
enter-requires-clause-active c =
    is_begun c.args.opening.now 2 c.args.pass.me.0.view c.requires.idle c.in_ok-begin.begin _
    (ok_says (λ (begin : ℕ). DidBegin c.args.pass.me.0.view 2 begin c.begin_steps.new.p.me.0.view) c.begin_steps.result c.in_ok-begin.begin c.in_ok-begin.ensures.value c.begin_steps.ensures.begun)

pub enter-requires-clause-starts : goal.enter-requires-clause-starts
enter-requires-clause-starts c =
    starts c.args.opening.now 2 c.args.pass.me.0.view c.requires.idle c.in_ok-begin.begin _
    (ok_says (λ (begin : ℕ). DidBegin c.args.pass.me.0.view 2 begin c.begin_steps.new.p.me.0.view) c.begin_steps.result c.in_ok-begin.begin c.in_ok-begin.ensures.value c.begin_steps.ensures.begun)

pub enter-requires-clause-begin : goal.enter-requires-clause-begin
enter-requires-clause-begin c =
    begins c.args.opening.now 2 c.args.pass.me.0.view c.requires.idle c.in_ok-begin.begin _
    (ok_says (λ (begin : ℕ). DidBegin c.args.pass.me.0.view 2 begin c.begin_steps.new.p.me.0.view) c.begin_steps.result c.in_ok-begin.begin c.in_ok-begin.ensures.value c.begin_steps.ensures.begun)

pub enter-requires-clause-unclaimed : goal.enter-requires-clause-unclaimed
enter-requires-clause-unclaimed c =
    claims_none c.args.opening.now 2 c.args.pass.me.0.view c.requires.idle c.in_ok-begin.begin _
    (ok_says (λ (begin : ℕ). DidBegin c.args.pass.me.0.view 2 begin c.begin_steps.new.p.me.0.view) c.begin_steps.result c.in_ok-begin.begin c.in_ok-begin.ensures.value c.begin_steps.ensures.begun) 5
