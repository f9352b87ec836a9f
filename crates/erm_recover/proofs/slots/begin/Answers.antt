use Rattle.std.proofs.Common.{refl, arith, rules}
use Rattle.std.proofs.lemmas.Grind.{common_steps}
use Rattle.erm_recover.proofs.SlotFiles.{begins_none}
use Rattle.erm_recover.proofs.slots.begin.Goals as goal

pub returns-in-None-None : goal.returns-in-None-None
returns-in-None-None c = begins_none _ _ _ _ c.fill.new.self _ c.in-None-None.is-0 c.in-None-None.is-1 refl (λ oid few. let n = c.fill.ensures.clones in grind (arith, common_steps, n))
