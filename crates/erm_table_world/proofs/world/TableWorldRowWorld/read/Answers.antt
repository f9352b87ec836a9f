use Rattle.erm_core_steps.proofs.Results.{err_to, ok_to}
use Rattle.erm_table_world.proofs.Worlds.{did_not_read, did_read}
use Rattle.erm_table_world.proofs.world.TableWorldRowWorld.read.Goals as goal

pub returns-clause-stands : goal.returns-clause-stands
returns-clause-stands g c = c.standing_worlds_have_laws.ensures c.read.new.self c.read.ensures.stands

pub returns-clause-ok : goal.returns-clause-ok
returns-clause-ok g c = ok_to c.read.result _ _ (λ x did. did_read c.args.self.now c.read.new.self c.args.seat c.read.ensures.saves c.args.oid x c.requires.active did) c.read.ensures.ok

pub returns-clause-err : goal.returns-clause-err
returns-clause-err g c = err_to c.read.result _ _ (λ why did. did_not_read c.args.self.now c.read.new.self c.args.seat c.read.ensures.saves c.args.oid why did) c.read.ensures.err
