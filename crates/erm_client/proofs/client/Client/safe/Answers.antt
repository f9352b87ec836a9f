use Rattle.erm_client.proofs.client.Client.safe.Goals as goal
use Rattle.erm_client.proofs.Steps.{told_err}

pub returns-clause-err : goal.returns-clause-err
returns-clause-err g c = told_err c.args.self.now.transcript c.ask.new.self.transcript _ c.in_ok-ask.ensures.ok c.last.result.now c.last.ensures.last c.safe_in.result c.safe_in.ensures.err
