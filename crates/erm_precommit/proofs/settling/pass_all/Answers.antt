use Rattle.std.proofs.lemmas.Result.{err_from_is_err_and, IfErr-weaker}
use Rattle.erm_precommit.proofs.Causes.{waits_since}
use Rattle.erm_precommit.proofs.Standing.{then_on}
use Rattle.erm_precommit.proofs.settling.pass_all.Goals as goal
use Rattle.erm_rule.proofs.Wents.{went_more}
use Rattle.erm_precommit.proofs.Took.{wait_after}

pub returns-in_err-pass_reads-clause-waits : goal.returns-in_err-pass_reads-clause-waits
returns-in_err-pass_reads-clause-waits g c = let p = err_from_is_err_and c.from_residual.result c.from_residual.ensures.1 in rw (p.1, p.2) c.in_err-pass_reads.ensures.waits

pub returns-clause-went : goal.returns-clause-went
returns-clause-went g c = then_on c.args.p.now.me.0.view c.args.who c.requires.stands.sealed _ _ c.pass_reads.ensures.went c.pass_writes.ensures.went

pub returns-clause-waits : goal.returns-clause-waits
returns-clause-waits g c =
    IfErr-weaker c.pass_writes.result _ _ (λ wait h. waits_since c.args.p.now.me.0.view c.args.who c.requires.stands.sealed _ c.pass_reads.ensures.went wait.seat wait.seen _ h) c.pass_writes.ensures.waits

pub returns-clause-loads : goal.returns-clause-loads
returns-clause-loads g c = went_more _ _ _ _ _ _ c.pass_reads.ensures.loads c.pass_writes.ensures.loads

pub returns-clause-took_wait : goal.returns-clause-took_wait
returns-clause-took_wait g c = IfErr-weaker c.pass_writes.result _ _ (λ wait took. wait_after _ _ _ _ _ _ _ c.pass_reads.ensures.loads took) c.pass_writes.ensures.took_wait
