use Rattle.std.proofs.Common.{ℕ, List, ◌∷◌, ◌++◌, [], ap, ◌∙◌}
use Rattle.erm_model.specs.Run.{Saving, going_on}
use Rattle.erm_model.proofs.Fronts.{fronts-push}
use Rattle.erm_model.proofs.staying.Staying.add.Goals as goal

pub returns-clause-ok : goal.returns-clause-ok
returns-clause-ok c =
    rw c.in_ok-push.ensures.items (fronts-push c.self.inside.places.items c.self.inside.lengths.items c.self.invariant c.args.place)
    ∙ ap (λ (s : Saving (List ℕ)). going_on (s.now ++ c.args.place ∷ []) s) c.self.view_is
