use Rattle.erm_bank.proofs.teller.wait_for_disk.Goals as goal
use Rattle.erm_report.specs.declared.answer.Answer.TheVariants as answer
use Rattle.erm_script.specs.declared.script.Command.TheVariants as command
use Rattle.erm_tellers.proofs.Kept.{went_by}
use Rattle.erm_bank.proofs.Errands.{waits_by}

pub returns-clause-went : goal.returns-clause-went
returns-clause-went g c =
    went_by c.args.client.now.transcript c.durable.new.self.transcript c.requires.client.transcript_ok answer.Durable command.Durable c.durable.result (λ y. tt) (λ no. no)
    c.durable.ensures.ok c.durable.ensures.err

pub returns-clause-waited : goal.returns-clause-waited
returns-clause-waited g c = waits_by c.args.client.now.transcript c.durable.new.self.transcript c.durable.result c.durable.ensures.ok c.durable.ensures.err
