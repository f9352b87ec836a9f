use Rattle.erm_rule.proofs.Draws.{agrees_to_draw}
use Rattle.erm_rule.proofs.life.add_tail.Goals as goal

pub step-requires-clause-agrees : goal.step-requires-clause-agrees
step-requires-clause-agrees g c = agrees_to_draw (c.args.p.now.me.0.view) c.args.who c.args.size
