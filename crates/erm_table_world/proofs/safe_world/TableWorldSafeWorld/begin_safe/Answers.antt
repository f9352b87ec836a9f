use Rattle.erm_core_steps.proofs.Results.{err_to, ok_to}
use Rattle.erm_table_world.proofs.Worlds.{did_begin_safe, may_not_begin}
use Rattle.erm_table_world.proofs.safe_world.TableWorldSafeWorld.begin_safe.Goals as goal

pub returns-clause-stands : goal.returns-clause-stands
returns-clause-stands g c = c.standing_worlds_have_laws.ensures c.begin_safe.new.self c.begin_safe.ensures.stands

pub returns-clause-ok : goal.returns-clause-ok
returns-clause-ok g c = ok_to c.begin_safe.result _ _ (λ x did. did_begin_safe c.args.self.now c.begin_safe.new.self c.args.seat c.begin_safe.ensures.saves x (λ on. absurd (let at = c.requires.idle in cc)) did) c.begin_safe.ensures.ok

pub returns-clause-err : goal.returns-clause-err
returns-clause-err g c = err_to c.begin_safe.result _ _ (λ why did. may_not_begin c.args.self.now c.begin_safe.new.self c.args.seat c.begin_safe.ensures.saves why did) c.begin_safe.ensures.err
