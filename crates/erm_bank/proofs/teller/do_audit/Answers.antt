use Rattle.erm_bank.proofs.Errands.{did_audit, did_look}
use Rattle.erm_bank.proofs.teller.do_audit.Goals as goal
use Rattle.erm_bank.specs.declared.teller.Told.TheVariants as told

pub returns-in-Some-clause-did : goal.returns-in-Some-clause-did
returns-in-Some-clause-did g c =
    did_audit c.args.low c.args.high c.in-Some.total c.in-Ok.found _ c.args.client.now.transcript c.audit.new.client.transcript c.ranges.high.fits c.in-Some.ensures.total c.in-Ok.ensures.ended

pub returns-in-Ok-clause-did : goal.returns-in-Ok-clause-did
returns-in-Ok-clause-did g c =
    did_look c.args.low c.args.high told.NoTotal (λ low high total is. cc) c.audit.result _ c.args.client.now.transcript c.audit.new.client.transcript c.audit.ensures.ended
    (c.in-Ok.found, c.in-Ok.ensures.ended, c.in-None.ensures.none)

pub returns-clause-did : goal.returns-clause-did
returns-clause-did g c =
    did_look c.args.low c.args.high told.Refused (λ low high total is. cc) c.audit.result _ c.args.client.now.transcript c.audit.new.client.transcript c.audit.ensures.ended
    (_, c.in-Err.ensures.ended)
