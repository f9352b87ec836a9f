use Rattle.std.proofs.Common.{ℕ, arith}
use Rattle.erm_seats.specs.Calls.{DidBegin}
use Rattle.erm_word_cases.proofs.Racing.{any_lawful, seal_active, seal_rests, begun_taken, begun_bound, again_taken, again_bound, ok_says}
use Rattle.erm_word_cases.proofs.seats.look_at_sealed.Goals as goal

pub look-at-requires-clause-taken : goal.look-at-requires-clause-taken
look-at-requires-clause-taken c =
    again_taken c.args.opening.now 2 c.in_ok-late.late c.args.second.me.0.view _ c.requires.second
    (ok_says (λ (begin : ℕ). DidBegin c.args.second.me.0.view 2 begin c.begin_steps-2.new.p.me.0.view) c.begin_steps-2.result c.in_ok-late.late c.in_ok-late.ensures.value c.begin_steps-2.ensures.begun)
    1 14 c.look-above.result _ c.look-above.ensures.looked

pub look-at-requires-clause-bound : goal.look-at-requires-clause-bound
look-at-requires-clause-bound c =
    again_bound c.args.opening.now 2 c.in_ok-late.late c.args.second.me.0.view _ c.requires.second
    (ok_says (λ (begin : ℕ). DidBegin c.args.second.me.0.view 2 begin c.begin_steps-2.new.p.me.0.view) c.begin_steps-2.result c.in_ok-late.late c.in_ok-late.ensures.value c.begin_steps-2.ensures.begun)
    1 14 c.look-above.result _ c.look-above.ensures.looked 13 (let late = c.if-late-lt14.false in omega (arith, late))

pub seal_steps-stamp-requires-clause-active : goal.seal_steps-stamp-requires-clause-active
seal_steps-stamp-requires-clause-active c =
    seal_active c.args.opening.now 1 c.in_ok-begin.begin c.args.first.me.0.view _ c.requires.first
    (ok_says (λ (begin : ℕ). DidBegin c.args.first.me.0.view 1 begin c.begin_steps.new.p.me.0.view) c.begin_steps.result c.in_ok-begin.begin c.in_ok-begin.ensures.value c.begin_steps.ensures.begun)

pub seal_steps-stamp-requires-clause-rests : goal.seal_steps-stamp-requires-clause-rests
seal_steps-stamp-requires-clause-rests c =
    seal_rests c.args.opening.now 1 c.in_ok-begin.begin c.args.first.me.0.view _ c.requires.first
    (ok_says (λ (begin : ℕ). DidBegin c.args.first.me.0.view 1 begin c.begin_steps.new.p.me.0.view) c.begin_steps.result c.in_ok-begin.begin c.in_ok-begin.ensures.value c.begin_steps.ensures.begun)

pub look-above-requires-clause-taken : goal.look-above-requires-clause-taken
look-above-requires-clause-taken c =
    begun_taken c.args.opening.now 2 c.in_ok-late.late c.args.second.me.0.view _ c.requires.second
    (ok_says (λ (begin : ℕ). DidBegin c.args.second.me.0.view 2 begin c.begin_steps-2.new.p.me.0.view) c.begin_steps-2.result c.in_ok-late.late c.in_ok-late.ensures.value c.begin_steps-2.ensures.begun)

pub look-above-requires-clause-bound : goal.look-above-requires-clause-bound
look-above-requires-clause-bound c =
    begun_bound c.args.opening.now 2 c.in_ok-late.late c.args.second.me.0.view _ c.requires.second
    (ok_says (λ (begin : ℕ). DidBegin c.args.second.me.0.view 2 begin c.begin_steps-2.new.p.me.0.view) c.begin_steps-2.result c.in_ok-late.late c.in_ok-late.ensures.value c.begin_steps-2.ensures.begun)
    14 c.if-late-lt14.false

pub seal_steps-stamp-requires-clause-lawful : goal.seal_steps-stamp-requires-clause-lawful
seal_steps-stamp-requires-clause-lawful c = any_lawful _
