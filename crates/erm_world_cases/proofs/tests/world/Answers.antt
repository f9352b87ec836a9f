use Rattle.std.proofs.Common.{ℕ, refl, sym, subst, arith, List, ◌∙◌}
use Rattle.erm_model.specs.declared.limits.TheConstants.{OID_LIMIT}
use Rattle.erm_model.specs.Rows.{rows_of}
use Rattle.erm_node.specs.Sound.{IsSound}
use Rattle.erm_world_cases.proofs.Opened.{new_unreached, opened_in, over_in}
use Rattle.erm_world_cases.proofs.tests.world.Goals as goal

pub open-requires-clause-meets : goal.open-requires-clause-meets
open-requires-clause-meets g c = subst (λ (list : List (List ℕ)). IsSound (rows_of list)) (c.deref.ensures.value ∙ sym c.deref-2.ensures.value) (c.sound.ensures.0 search)

pub open-requires-clause-unreached : goal.open-requires-clause-unreached
open-requires-clause-unreached g c x above = new_unreached c.zero_rows_are_not_reached.ensures OID_LIMIT c.deref-2.result.now refl (c.deref-2.ensures.value ∙ c.in_ok-rows.ensures) (subst (λ (list : List (List ℕ)). IsSound (rows_of list)) (c.deref.ensures.value ∙ sym c.deref-2.ensures.value) (c.sound.ensures.0 search)) x (omega (arith, above, c.requires.low))

pub returns-clause-runs : goal.returns-clause-runs
returns-clause-runs g c = opened_in c.open.result _ _ _ _ _ _ c.open.ensures.opened

pub returns-clause-uncommitted : goal.returns-clause-uncommitted
returns-clause-uncommitted g c = over_in c.open.result _ _ _ _ _ _ c.open.ensures.opened
