use Rattle.std.proofs.Common.{ℕ, ap, ◌∙◌, arith}
use Rattle.erm_machine.specs.declared.part.Part.{Part}
use Rattle.erm_seats.specs.Calls.{DidBegin}
use Rattle.erm_word_cases.proofs.Racing.{alone_there, number_left, ok_says}
use Rattle.erm_entries.specs.Spelling.{word_of}
use Rattle.erm_word_cases.proofs.Sessions.{found_head, active_found, claims_found, number_found}
use Rattle.erm_word_cases.proofs.entries.claim_first.Goals as goal
use Rattle.erm_machine.specs.Life.{next_number}

pub begin_steps-requires-clause-idle : goal.begin_steps-requires-clause-idle
begin_steps-requires-clause-idle c = ap (λ (z : Part). z.place) (alone_there c.args.opening.now 1 c.args.pass.me.0.view c.requires.idle)

pub begin_steps-requires-clause-number : goal.begin_steps-requires-clause-number
begin_steps-requires-clause-number c = number_left c.args.opening.now 1 c.args.pass.me.0.view c.requires.idle

pub claim-requires-clause-head : goal.claim-requires-clause-head
claim-requires-clause-head c =
    found_head c.args.opening.now 1 c.args.pass.me.0.view c.requires.idle c.in_ok-begin.begin c.begin_steps.new.p.me.0.view
    (ok_says (λ (begin : ℕ). DidBegin c.args.pass.me.0.view 1 begin c.begin_steps.new.p.me.0.view) c.begin_steps.result c.in_ok-begin.begin c.in_ok-begin.ensures.value c.begin_steps.ensures.begun)
    5 c.in-Walked.entry c.in-Walked.stamp c.find_head.new.p.me.0.view c.in-Walked.ensures.found c.if-stamp-begin.false (word_of c.of.result) c.of.ensures.spelled

pub claim-requires-clause-active : goal.claim-requires-clause-active
claim-requires-clause-active c =
    active_found c.args.opening.now 1 c.args.pass.me.0.view c.requires.idle c.in_ok-begin.begin c.begin_steps.new.p.me.0.view
    (ok_says (λ (begin : ℕ). DidBegin c.args.pass.me.0.view 1 begin c.begin_steps.new.p.me.0.view) c.begin_steps.result c.in_ok-begin.begin c.in_ok-begin.ensures.value c.begin_steps.ensures.begun)
    5 c.in-Walked.entry c.in-Walked.stamp c.find_head.new.p.me.0.view c.in-Walked.ensures.found c.if-stamp-begin.false

pub claim-requires-clause-number : goal.claim-requires-clause-number
claim-requires-clause-number c =
    number_found c.args.opening.now 1 c.args.pass.me.0.view c.requires.idle c.in_ok-begin.begin c.begin_steps.new.p.me.0.view
    (ok_says (λ (begin : ℕ). DidBegin c.args.pass.me.0.view 1 begin c.begin_steps.new.p.me.0.view) c.begin_steps.result c.in_ok-begin.begin c.in_ok-begin.ensures.value c.begin_steps.ensures.begun)
    5 c.in-Walked.entry c.in-Walked.stamp c.find_head.new.p.me.0.view c.in-Walked.ensures.found c.if-stamp-begin.false
    ∙ ap (λ (z : Part). next_number 1 z.number) (alone_there c.args.opening.now 1 c.args.pass.me.0.view c.requires.idle)

pub claim-requires-clause-room : goal.claim-requires-clause-room
claim-requires-clause-room c =
    let none =
    claims_found c.args.opening.now 1 c.args.pass.me.0.view c.requires.idle c.in_ok-begin.begin c.begin_steps.new.p.me.0.view
    (ok_says (λ (begin : ℕ). DidBegin c.args.pass.me.0.view 1 begin c.begin_steps.new.p.me.0.view) c.begin_steps.result c.in_ok-begin.begin c.in_ok-begin.ensures.value c.begin_steps.ensures.begun)
    5 c.in-Walked.entry c.in-Walked.stamp c.find_head.new.p.me.0.view c.in-Walked.ensures.found c.if-stamp-begin.false
    in
    omega (arith, none)
