use Rattle.std.proofs.Common.{arith}
use Rattle.std.proofs.lemmas.Grind.{common_steps}
use Rattle.erm_ship.proofs.Laying.{finds_start}
use Rattle.erm_ship.proofs.base.find_base.Goals as goal

pub returns-in_default-clause-found : goal.returns-in_default-clause-found
returns-in_default-clause-found g c =
    finds_start _ c.args.slots.now c.fill.new.self c.in_default.ensures.none (λ oid few. let n = c.fill.ensures.clones in grind (arith, common_steps, n))
