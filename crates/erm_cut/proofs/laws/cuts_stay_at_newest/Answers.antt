use Rattle.std.proofs.Common.{◌≡◌, ℕ, sym, subst}
use Rattle.erm_machine.specs.declared.task.Task.TheVariants.{Rest}
use Rattle.erm_machine.specs.Core.{Core}
use Rattle.erm_rule.specs.Newest.{NewestInHand, CutsAtNewest}
use Rattle.erm_rule.proofs.Newest.{newest_kept}
use Rattle.erm_cut.proofs.laws.cuts_stay_at_newest.Goals as goal

idle_newest : (c : Core) → ((q : ℕ) → (c.seats q).task ≡ Rest) → CutsAtNewest c
idle_newest c rest q = subst (NewestInHand c.shared) (sym (rest q)) tt

pub returns : goal.returns
returns c = record {
  idle = λ core rest q. idle_newest core rest q;
  kept = λ core d p kind sound all e. newest_kept core p kind d sound all e;
}
