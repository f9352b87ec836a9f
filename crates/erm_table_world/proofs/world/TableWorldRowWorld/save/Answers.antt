use Rattle.erm_table_world.proofs.world.TableWorldRowWorld.save.Goals as goal

pub returns-clause-stands : goal.returns-clause-stands
returns-clause-stands g c = c.standing_worlds_have_laws.ensures c.save.new.self c.save.ensures.stands
