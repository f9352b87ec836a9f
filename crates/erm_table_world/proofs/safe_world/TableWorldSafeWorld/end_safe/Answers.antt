use Rattle.erm_table_world.proofs.Worlds.{did_abort}
use Rattle.erm_table_world.proofs.safe_world.TableWorldSafeWorld.end_safe.Goals as goal

pub returns-clause-stands : goal.returns-clause-stands
returns-clause-stands g c = c.standing_worlds_have_laws.ensures c.end_safe.new.self c.end_safe.ensures.stands

pub returns-clause-ended : goal.returns-clause-ended
returns-clause-ended g c = did_abort c.args.self.now c.end_safe.new.self c.args.seat c.end_safe.ensures.saves c.end_safe.ensures.ended
