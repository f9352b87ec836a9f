use Rattle.std.proofs.Common.{sym, subst, ap, ◌∙◌}
use Rattle.erm_rule.specs.declared.view.Opening.{Opening}
use Rattle.erm_rule.specs.declared.view.View.{View}
use Rattle.erm_rule.specs.Rule.{rest_view}
use Rattle.erm_rule.specs.Steps.{Ends}
use Rattle.erm_rule.specs.Views.{joined, MayJoin}
use Rattle.erm_seats.specs.Race.{ran_part, HasRun}
use Rattle.erm_word_cases.proofs.Racing.{rest_takes, rest_takes_more, ran_taken, have_raced, some_says}
use Rattle.erm_word_cases.proofs.seats.race.Goals as goal

pub join-requires-clause-takes : goal.join-requires-clause-takes
join-requires-clause-takes g c = subst MayJoin (sym c.in_ok-table.ensures.rest) (rest_takes c.args.opening.now)

pub join-requires-clause-taken : goal.join-requires-clause-taken
join-requires-clause-taken g c =
    let run : HasRun c.args.opening.now 1 2 c.args.size c.in-Some.begin c.in-Some.stamp c.in-Some.answer c.in-Some.first.me.0.view =
    (some_says _ c.join-one.result.0 _ c.in-Some.is c.join-one.ensures.first.0).1 in
    ran_taken _ _ _ _ _ _ _ _ run

pub join-requires-2-clause-takes : goal.join-requires-2-clause-takes
join-requires-2-clause-takes g c =
    let o : Opening = c.args.opening.now in
    let run : HasRun o 1 2 c.args.size c.in-Some.begin c.in-Some.stamp c.in-Some.answer c.in-Some.first.me.0.view =
    (some_says _ c.join-one.result.0 _ c.in-Some.is c.join-one.ensures.first.0).1 in
    subst MayJoin
    (sym
    (c.join.ensures.joined
    ∙ ap (λ (v : View). joined v c.in-Some.first.me.0.view) c.in_ok-table.ensures.rest
    ∙ ap (λ (v : View). joined (rest_view o 2) v) run.view_is))
    (rest_takes_more o (ran_part o 1 2 c.args.size run.announced c.in-Some.begin c.in-Some.stamp c.in-Some.answer))

pub join-requires-2-clause-taken : goal.join-requires-2-clause-taken
join-requires-2-clause-taken g c =
    let run : HasRun c.args.opening.now 2 1 c.args.size c.in-Some-two.begin_too c.in-Some-two.stamp_too c.in-Some-two.answer_too c.in-Some-two.second.me.0.view =
    (some_says _ c.join-one.result.1 _ c.in-Some-two.is c.join-one.ensures.second.0).1 in
    ran_taken _ _ _ _ _ _ _ _ run

pub returns-clause-raced : goal.returns-clause-raced
returns-clause-raced g c =
    let o : Opening = c.args.opening.now in
    let one : HasRun o 1 2 c.args.size c.in-Some.begin c.in-Some.stamp c.in-Some.answer c.in-Some.first.me.0.view =
    (some_says _ c.join-one.result.0 _ c.in-Some.is c.join-one.ensures.first.0).1 in
    let two : HasRun o 2 1 c.args.size c.in-Some-two.begin_too c.in-Some-two.stamp_too c.in-Some-two.answer_too c.in-Some-two.second.me.0.view =
    (some_says _ c.join-one.result.1 _ c.in-Some-two.is c.join-one.ensures.second.0).1 in
    have_raced o c.args.size c.close-tail.result c.in-Some.begin c.in-Some.stamp c.in-Some.answer c.in-Some-two.begin_too c.in-Some-two.stamp_too c.in-Some-two.answer_too
    c.in-Some.first.me.0.view c.in-Some-two.second.me.0.view _ c.join-2.new.p.me.0 one two c.in_ok-table.ensures.rest
    (c.join-2.ensures.joined ∙ ap (λ (v : View). joined v c.in-Some-two.second.me.0.view) c.join.ensures.joined)
    (subst (λ (k : Opening). Ends k c.join-2.new.p.me.0 c.close-tail.result) c.in_ok-table.ensures.key c.close-tail.ensures.ends.ends)
