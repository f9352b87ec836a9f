use Rattle.erm_client.proofs.client.Client.new.Goals as goal
use Rattle.erm_client.proofs.Grown.{new_ran}

pub returns-clause-ran : goal.returns-clause-ran
returns-clause-ran g c = λ f. new_ran f (g.S.SharedSession.own c.args.session) c.args.seat c.new.result c.new.ensures
