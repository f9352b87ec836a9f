use Rattle.erm_core_steps.proofs.Results.{err_to, on_ok_to}
use Rattle.erm_table_world.proofs.Worlds.{did_claim, did_not_claim}
use Rattle.erm_table_world.proofs.world.TableWorldRowWorld.tidy.Goals as goal

pub returns-clause-stands : goal.returns-clause-stands
returns-clause-stands g c = c.standing_worlds_have_laws.ensures c.tidy.new.self c.tidy.ensures.stands

pub returns-clause-ok : goal.returns-clause-ok
returns-clause-ok g c = on_ok_to c.tidy.result _ _ (λ did. did_claim c.args.self.now c.tidy.new.self c.args.seat c.tidy.ensures.saves c.args.oid c.requires.active did) c.tidy.ensures.ok

pub returns-clause-err : goal.returns-clause-err
returns-clause-err g c = err_to c.tidy.result _ _ (λ why did. did_not_claim c.args.self.now c.tidy.new.self c.args.seat c.tidy.ensures.saves c.args.oid why did) c.tidy.ensures.err

pub returns-clause-count : goal.returns-clause-count
returns-clause-count g c = c.tidy.ensures.count
