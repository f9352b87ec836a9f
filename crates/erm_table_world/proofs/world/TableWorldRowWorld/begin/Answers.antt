use Rattle.erm_core_steps.proofs.Results.{err_to, ok_to}
use Rattle.erm_table_world.proofs.Worlds.{did_begin, may_not_begin}
use Rattle.erm_table_world.proofs.world.TableWorldRowWorld.begin.Goals as goal

pub returns-clause-stands : goal.returns-clause-stands
returns-clause-stands g c = c.standing_worlds_have_laws.ensures c.begin.new.self c.begin.ensures.stands

pub returns-clause-ok : goal.returns-clause-ok
returns-clause-ok g c = ok_to c.begin.result _ _ (λ x did. did_begin c.args.self.now c.begin.new.self c.args.seat c.begin.ensures.saves g.L.RowLaw.law c.requires.stands.stands c.requires.session c.requires.idle x did) c.begin.ensures.ok

pub returns-clause-err : goal.returns-clause-err
returns-clause-err g c = err_to c.begin.result _ _ (λ why did. may_not_begin c.args.self.now c.begin.new.self c.args.seat c.begin.ensures.saves why did) c.begin.ensures.err
