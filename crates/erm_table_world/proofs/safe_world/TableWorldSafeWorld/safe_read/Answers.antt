use Rattle.erm_table_world.proofs.Worlds.{left_alone}
use Rattle.erm_table_world.proofs.safe_world.TableWorldSafeWorld.safe_read.Goals as goal

pub returns-clause-stands : goal.returns-clause-stands
returns-clause-stands g c = c.standing_worlds_have_laws.ensures c.safe_read.new.self c.safe_read.ensures.stands

pub returns-clause-same : goal.returns-clause-same
returns-clause-same g c = left_alone c.args.self.now c.safe_read.new.self c.args.seat c.safe_read.ensures.saves c.safe_read.ensures.same

pub returns-clause-row : goal.returns-clause-row
returns-clause-row g c = c.safe_read.ensures.row
