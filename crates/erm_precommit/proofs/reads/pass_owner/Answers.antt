use Rattle.std.proofs.lemmas.Result.{IfErr-weaker}
use Rattle.erm_precommit.proofs.Causes.{stopped_by_owner}
use Rattle.erm_precommit.proofs.Standing.{then_on}
use Rattle.erm_precommit.proofs.reads.pass_owner.Goals as goal
use Rattle.erm_rule.proofs.Wents.{went_more}
use Rattle.erm_precommit.proofs.Took.{wait_after}

pub returns-in-Some-clause-went : goal.returns-in-Some-clause-went
returns-in-Some-clause-went g c = then_on c.args.p.now.me.0.view c.args.who c.requires.stands.sealed _ _ c.load_head.ensures.went c.look_at_owner.ensures.went

pub returns-in-Some-clause-waits : goal.returns-in-Some-clause-waits
returns-in-Some-clause-waits g c =
    IfErr-weaker c.look_at_owner.result _ _
    (λ wait stop. stopped_by_owner c.args.p.now.me.0.view c.args.who c.requires.stands.sealed _ c.load_head.ensures.went c.args.place c.in-Some.owner wait _ c.in-Some.ensures.owner c.in-Some.ensures.owned stop)
    c.look_at_owner.ensures.stops

pub returns-in-Some-clause-loads : goal.returns-in-Some-clause-loads
returns-in-Some-clause-loads g c = went_more _ _ _ _ _ _ c.load_head.ensures.loads c.look_at_owner.ensures.loads

pub returns-in-Some-clause-took_wait : goal.returns-in-Some-clause-took_wait
returns-in-Some-clause-took_wait g c = IfErr-weaker c.look_at_owner.result _ _ (λ wait took. wait_after _ _ _ _ _ _ _ c.load_head.ensures.loads took) c.look_at_owner.ensures.took_wait
