-- The pass that is left may gather.
use Rattle.std.proofs.Common.{◌≡◌, refl, sym, subst}
use Rattle.erm_ring.specs.Turns.{MayGather}
use Rattle.erm_rule.specs.declared.view.Opening.{Opening}
use Rattle.erm_rule.specs.declared.view.View.{View}
use Rattle.erm_rule.specs.Rule.{first_view, rest_view}

-- the pass that is left has the flush seat, which has done nothing
rest_gathers : (o : Opening) → MayGather (rest_view o 3)
unfolding rest_view first_view
rest_gathers o = record { held = refl; between = refl }

pub rest_may_gather : (o : Opening) (v : View) → v ≡ rest_view o 3 → MayGather v
rest_may_gather o v is = subst MayGather (sym is) (rest_gathers o)
