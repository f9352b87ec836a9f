use Rattle.erm_core_steps.proofs.Results.{err_to, ok_to}
use Rattle.erm_table_world.proofs.Worlds.{did_not_settle, did_settle}
use Rattle.erm_table_world.proofs.world.TableWorldRowWorld.settle.Goals as goal

pub returns-clause-stands : goal.returns-clause-stands
returns-clause-stands g c = c.standing_worlds_have_laws.ensures c.settle.new.self c.settle.ensures.stands

pub returns-clause-ok : goal.returns-clause-ok
returns-clause-ok g c = ok_to c.settle.result _ _ (λ x did. did_settle c.args.self.now c.settle.new.self c.args.seat c.settle.ensures.saves x did) c.settle.ensures.ok

pub returns-clause-err : goal.returns-clause-err
returns-clause-err g c = err_to c.settle.result _ _ (λ why did. did_not_settle c.args.self.now c.settle.new.self c.args.seat c.settle.ensures.saves why did) c.settle.ensures.err
