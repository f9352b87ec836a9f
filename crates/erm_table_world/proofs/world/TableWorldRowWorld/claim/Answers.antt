use Rattle.erm_core_steps.proofs.Results.{err_to, on_ok_to}
use Rattle.erm_table_world.proofs.Worlds.{did_claim, did_not_claim}
use Rattle.erm_table_world.proofs.world.TableWorldRowWorld.claim.Goals as goal

pub returns-clause-stands : goal.returns-clause-stands
returns-clause-stands g c = c.standing_worlds_have_laws.ensures c.claim.new.self c.claim.ensures.stands

pub returns-clause-ok : goal.returns-clause-ok
returns-clause-ok g c = on_ok_to c.claim.result _ _ (λ did. did_claim c.args.self.now c.claim.new.self c.args.seat c.claim.ensures.saves c.args.oid c.requires.active did) c.claim.ensures.ok

pub returns-clause-err : goal.returns-clause-err
returns-clause-err g c = err_to c.claim.result _ _ (λ why did. did_not_claim c.args.self.now c.claim.new.self c.args.seat c.claim.ensures.saves c.args.oid why did) c.claim.ensures.err
