use Rattle.erm_bank.proofs.Errands.{did_task}
use Rattle.erm_bank.proofs.teller.do_task.Goals as goal
use Rattle.erm_bank.specs.declared.teller.Told.TheVariants as told

pub returns-in-Ok-clause-did : goal.returns-in-Ok-clause-did
returns-in-Ok-clause-did g c =
    did_task c.args.task (told.Served c.in-Ok.outcome) (λ low high total is. cc) c.serve.result _ c.args.client.now.transcript c.serve.new.client.transcript c.serve.ensures.ended c.in-Ok.ensures.ended

pub returns-in-Err-clause-did : goal.returns-in-Err-clause-did
returns-in-Err-clause-did g c =
    did_task c.args.task told.Refused (λ low high total is. cc) c.serve.result _ c.args.client.now.transcript c.serve.new.client.transcript c.serve.ensures.ended
    (_, c.in-Err.ensures.ended)
