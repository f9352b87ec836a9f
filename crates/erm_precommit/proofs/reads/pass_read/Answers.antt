use Rattle.std.proofs.lemmas.Result.{err_from_is_err_and}
use Rattle.erm_precommit.proofs.Standing.{then_on}
use Rattle.erm_precommit.proofs.reads.pass_read.Goals as goal
use Rattle.erm_rule.proofs.Wents.{went_more}

pub returns-in_err-pass_owner-clause-waits : goal.returns-in_err-pass_owner-clause-waits
returns-in_err-pass_owner-clause-waits g c = let p = err_from_is_err_and c.from_residual.result c.from_residual.ensures.1 in rw (p.1, p.2) c.in_err-pass_owner.ensures.waits

pub returns-clause-went : goal.returns-clause-went
returns-clause-went g c = then_on c.args.p.now.me.0.view c.args.who c.requires.stands.sealed _ _ c.pass_owner.ensures.went c.rate_read.ensures.went

pub returns-clause-loads : goal.returns-clause-loads
returns-clause-loads g c = went_more _ _ _ _ _ _ c.pass_owner.ensures.loads c.rate_read.ensures.loads
