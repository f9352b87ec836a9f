use Rattle.erm_precommit.proofs.Causes.{waits_since}
use Rattle.erm_precommit.proofs.Standing.{then_on}
use Rattle.erm_precommit.proofs.Windows.{is_ready}
use Rattle.erm_precommit.proofs.settling.settle.Goals as goal

pub returns-in-Ok-clause-went : goal.returns-in-Ok-clause-went
returns-in-Ok-clause-went g c = then_on c.args.p.now.me.0.view c.args.who c.requires.sealed _ _ c.start.ensures.went c.pass_all.ensures.went

pub returns-in-Ok-clause-settled : goal.returns-in-Ok-clause-settled
returns-in-Ok-clause-settled g c = is_ready _ _ c.args.who c.pass_all.ensures.stands c.in-Ok.ensures.passed

pub returns-in-Err-pass_all-clause-went : goal.returns-in-Err-pass_all-clause-went
returns-in-Err-pass_all-clause-went g c = then_on c.args.p.now.me.0.view c.args.who c.requires.sealed _ _ c.start.ensures.went c.pass_all.ensures.went

pub returns-in-Err-pass_all-clause-settled : goal.returns-in-Err-pass_all-clause-settled
returns-in-Err-pass_all-clause-settled g c = waits_since c.args.p.now.me.0.view c.args.who c.requires.sealed _ c.start.ensures.went _ _ _ c.in-Err-pass_all.ensures.waits

pub returns-in-Ok-clause-took : goal.returns-in-Ok-clause-took
returns-in-Ok-clause-took g c = record { first = c.start.new.p.me.0; start = c.in_default.ensures.took; loads = c.pass_all.ensures.loads }

pub returns-in-Err-pass_all-clause-took : goal.returns-in-Err-pass_all-clause-took
returns-in-Err-pass_all-clause-took g c = record { first = c.start.new.p.me.0; start = c.in_default.ensures.took; waits = c.in-Err-pass_all.ensures.took_wait }
