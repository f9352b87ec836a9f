use Rattle.erm_core_steps.proofs.Results.{err_to, on_ok_to}
use Rattle.erm_table_world.proofs.Worlds.{did_write, did_not_claim}
use Rattle.erm_table_world.proofs.world.TableWorldRowWorld.write.Goals as goal

pub returns-clause-stands : goal.returns-clause-stands
returns-clause-stands g c = c.standing_worlds_have_laws.ensures c.write.new.self c.write.ensures.stands

pub returns-clause-ok : goal.returns-clause-ok
returns-clause-ok g c = on_ok_to c.write.result _ _ (λ did. did_write c.args.self.now c.write.new.self c.args.seat c.write.ensures.saves c.args.oid c.args.row.now c.requires.active did) c.write.ensures.ok

pub returns-clause-err : goal.returns-clause-err
returns-clause-err g c = err_to c.write.result _ _ (λ why did. did_not_claim c.args.self.now c.write.new.self c.args.seat c.write.ensures.saves c.args.oid why did) c.write.ensures.err
