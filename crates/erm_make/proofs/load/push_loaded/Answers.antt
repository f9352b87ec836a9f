use Rattle.std.proofs.Common.{◌≡◌, ◌+◌, ◌∷◌, ◌++◌, [], ap, ◌∙◌, arith, rules, List, ℕ}
use Rattle.std.proofs.lemmas.Grind.{common_steps}
use Rattle.erm_script.specs.declared.script.Command.TheVariants.{Put}
use Rattle.erm_make.specs.Workload.{loaded}
use Rattle.erm_make.proofs.Steps.{Adds-more, Adds-same, loaded-more, loaded-none}
use Rattle.erm_make.proofs.load.push_loaded.Goals as goal

pub loop-place-init : goal.loop-place-init
loop-place-init c = (Adds-same (loaded c.args.first 0) c.args.lines.now.items (loaded-none c.args.first), omega arith)

pub loop-place-preserved : goal.loop-place-preserved
loop-place-preserved c =
    let none : c.unwrap-value.result ≡ [] = first_of (search rules, grind (arith, common_steps)) in
    let next = ap (λ (v : List ℕ). loaded c.args.first c.loop-place.place ++ (1, Put 0 (c.args.first + c.loop-place.place) v) ∷ []) none
    ∙ loaded-more c.args.first c.loop-place.place in
    (Adds-more (loaded c.args.first (c.loop-place.place + 1)) c.loop-place.invariant.0 c.in_ok-push.ensures.added next, omega (arith, c.in_ok-push.ensures.many))
