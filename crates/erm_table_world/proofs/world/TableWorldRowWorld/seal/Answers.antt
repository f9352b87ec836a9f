use Rattle.erm_table_world.proofs.Worlds.{did_seal}
use Rattle.erm_table_world.proofs.world.TableWorldRowWorld.seal.Goals as goal

pub returns-clause-stands : goal.returns-clause-stands
returns-clause-stands g c = c.standing_worlds_have_laws.ensures c.seal.new.self c.seal.ensures.stands

pub returns-clause-sealed : goal.returns-clause-sealed
returns-clause-sealed g c = did_seal c.args.self.now c.seal.new.self c.args.seat c.seal.ensures.saves c.seal.result c.seal.ensures.sealed
