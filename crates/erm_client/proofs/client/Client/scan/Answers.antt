use Rattle.erm_client.proofs.client.Client.scan.Goals as goal
use Rattle.erm_client.proofs.Steps.{found_err}

pub returns-clause-err : goal.returns-clause-err
returns-clause-err g c = found_err c.args.self.now.transcript c.ask.new.self.transcript c.args.table c.args.low c.args.high c.in_ok-ask.ensures.ok c.last.result.now c.last.ensures.last c.found_in.result c.found_in.ensures.err
