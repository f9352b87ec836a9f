use Rattle.erm_core_steps.proofs.Results.{err_to, ok_to}
use Rattle.erm_table_world.proofs.Worlds.{did_make, did_not_make}
use Rattle.erm_table_world.proofs.world.TableWorldRowWorld.fresh.Goals as goal

pub returns-clause-stands : goal.returns-clause-stands
returns-clause-stands g c = c.standing_worlds_have_laws.ensures c.fresh.new.self c.fresh.ensures.stands

pub returns-clause-ok : goal.returns-clause-ok
returns-clause-ok g c = ok_to c.fresh.result _ _ (λ x did. did_make c.args.self.now c.fresh.new.self c.args.seat c.fresh.ensures.saves x c.requires.active did) c.fresh.ensures.ok

pub returns-clause-err : goal.returns-clause-err
returns-clause-err g c = err_to c.fresh.result _ _ (λ why did. did_not_make c.args.self.now c.fresh.new.self c.args.seat c.fresh.ensures.saves why did) c.fresh.ensures.err
