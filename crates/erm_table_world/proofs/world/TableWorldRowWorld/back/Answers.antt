use Rattle.erm_table_world.proofs.world.TableWorldRowWorld.back.Goals as goal

pub returns-clause-stands : goal.returns-clause-stands
returns-clause-stands g c = c.standing_worlds_have_laws.ensures c.back.new.self c.back.ensures.stands
