use Rattle.erm_table_world.proofs.Worlds.{left_alone}
use Rattle.erm_table_world.proofs.world.TableWorldRowWorld.durable.Goals as goal

pub returns-clause-stands : goal.returns-clause-stands
returns-clause-stands g c = c.standing_worlds_have_laws.ensures c.durable.new.self c.durable.ensures.stands

pub returns-clause-same : goal.returns-clause-same
returns-clause-same g c = left_alone c.args.self.now c.durable.new.self c.args.seat c.durable.ensures.saves c.durable.ensures.same
