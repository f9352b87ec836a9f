use Rattle.std.proofs.Common.{◌++◌, ◌∷◌, [], List, ℕ, ap, ◌∙◌}
use Rattle.erm_make.specs.Workload.{first_names}
use Rattle.erm_make.proofs.Steps.{first_names-more, first_names-none}
use Rattle.erm_make.proofs.names.names.Goals as goal

pub loop-place-init : goal.loop-place-init
loop-place-init c = c.in_ok-names.ensures.items ∙ first_names-none

pub loop-place-preserved : goal.loop-place-preserved
loop-place-preserved c =
    c.in_ok-push.ensures.items ∙ ap (λ (names : List (List ℕ)). names ++ c.in_ok-name.field-0 ∷ []) c.loop-place.invariant
    ∙ ap (λ (name : List ℕ). first_names c.loop-place.place ++ name ∷ []) c.in_ok-name.ensures ∙ first_names-more c.loop-place.place
