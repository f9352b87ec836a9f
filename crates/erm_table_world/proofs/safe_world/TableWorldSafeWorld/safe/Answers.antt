use Rattle.erm_core_steps.proofs.Results.{err_to, on_ok_to}
use Rattle.erm_table_world.proofs.Worlds.{did_not_safe, did_safe}
use Rattle.erm_table_world.proofs.safe_world.TableWorldSafeWorld.safe.Goals as goal

pub returns-clause-stands : goal.returns-clause-stands
returns-clause-stands g c = c.standing_worlds_have_laws.ensures c.safe.new.self c.safe.ensures.stands

pub returns-clause-ok : goal.returns-clause-ok
returns-clause-ok g c = on_ok_to c.safe.result _ _ (λ did. did_safe c.args.self.now c.safe.new.self c.args.seat c.safe.ensures.saves (λ on. absurd (let at = c.requires.pending in cc)) did) c.safe.ensures.ok

pub returns-clause-err : goal.returns-clause-err
returns-clause-err g c = err_to c.safe.result _ _ (λ why did. did_not_safe c.args.self.now c.safe.new.self c.args.seat c.safe.ensures.saves why (λ on. absurd (let at = c.requires.pending in cc)) did) c.safe.ensures.err
