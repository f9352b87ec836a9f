use Rattle.std.proofs.Common.{sym, ap, ◌∙◌, subst}
use Rattle.erm_rule.specs.declared.view.Opening.{Opening}
use Rattle.erm_rule.specs.declared.view.View.{View}
use Rattle.erm_rule.specs.Steps.{Ends}
use Rattle.erm_rule.specs.Views.{MayJoin, joined}
use Rattle.erm_word_cases.proofs.Racing.{rest_takes}
use Rattle.erm_word_cases.proofs.Skewing.{never_both, raced_taken, rest_takes_raced}
use Rattle.erm_word_cases.proofs.skew.end.Goals as goal

pub join-requires-clause-takes : goal.join-requires-clause-takes
join-requires-clause-takes c = subst MayJoin (sym c.requires.rest.1) (rest_takes c.args._opening.now)

pub join-requires-clause-taken : goal.join-requires-clause-taken
join-requires-clause-taken c = let one = c.requires.one.1 in raced_taken one.0 5 1 c.args.one.1 c.args.one.0.me.0.view one.2

pub join-requires-2-clause-takes : goal.join-requires-2-clause-takes
join-requires-2-clause-takes c =
    let one = c.requires.one.1 in
    rest_takes_raced c.args._opening.now one.0 5 c.args.one.1 c.args.one.0.me.0.view c.args.rest.me.0.view c.join.new.p.me.0.view one.2 c.requires.rest.1 c.join.ensures.joined

pub join-requires-2-clause-taken : goal.join-requires-2-clause-taken
join-requires-2-clause-taken c = let two = c.requires.two.1 in raced_taken two.0 6 2 c.args.two.1 c.args.two.0.me.0.view two.2

pub returns : goal.returns
returns c =
    let one = c.requires.one.1 in
    let two = c.requires.two.1 in
    record {
      never_both =
          never_both c.skewed_commits_exclude_one_another.ensures c.snapshots_of_one_begin_agree.ensures c.args._opening.now c.close.result c.args._begin one.0 two.0 c.args.one.1 c.args.two.1
          c.args.one.0.me.0.view c.args.two.0.me.0.view c.args.rest.me.0.view c.join-2.new.p.me.0 one.1 two.1 one.2 two.2 c.requires.rest.1
          (c.join-2.ensures.joined ∙ ap (λ (v : View). joined v c.args.two.0.me.0.view) c.join.ensures.joined)
          (subst (λ (k : Opening). Ends k c.join-2.new.p.me.0 c.close.result) c.requires.key c.close.ensures.ends.ends);
    }
