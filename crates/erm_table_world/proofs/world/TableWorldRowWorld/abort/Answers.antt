use Rattle.erm_table_world.proofs.Worlds.{did_abort}
use Rattle.erm_table_world.proofs.world.TableWorldRowWorld.abort.Goals as goal

pub returns-clause-stands : goal.returns-clause-stands
returns-clause-stands g c = c.standing_worlds_have_laws.ensures c.abort.new.self c.abort.ensures.stands

pub returns-clause-aborted : goal.returns-clause-aborted
returns-clause-aborted g c = did_abort c.args.self.now c.abort.new.self c.args.seat c.abort.ensures.saves c.abort.ensures.aborted
