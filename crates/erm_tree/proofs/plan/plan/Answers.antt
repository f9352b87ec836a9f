use Rattle.std.proofs.Common.{List, length, sym, ap, ◌∙◌, arith}
use Rattle.std.proofs.lemmas.List.{length-map}
use Rattle.erm_tree.specs.declared.plan.Step.{Step}
use Rattle.erm_tree.specs.Insert.{objects_for}
use Rattle.erm_tree.specs.Step.{place_of, places_of}
use Rattle.erm_tree.proofs.Runs.{objects_below, objects_root}
use Rattle.erm_tree.proofs.plan.plan.Goals as goal

pub plan_below-requires-clause-enough : goal.plan_below-requires-clause-enough
plan_below-requires-clause-enough c =
    objects_below (place_of c.in-Some.root.now) (places_of c.in-Some.below.now) (length c.args.made.now)
    (c.requires.made ∙ ap (λ (path : List Step). objects_for (places_of path)) c.in-Some.ensures.cases.0)

pub plan_root-requires-clause-enough : goal.plan_root-requires-clause-enough
plan_root-requires-clause-enough c full =
    let inside = objects_root (place_of c.in-Some.root.now) (places_of c.in-Some.below.now) c.args.made.now c.args.key (length c.args.made.now) c.in-Some-plan_below.pair
    (c.requires.made ∙ ap (λ (path : List Step). objects_for (places_of path)) c.in-Some.ensures.cases.0) (sym c.in-Some-plan_below.ensures.pair) full in
    omega (arith, inside, length-map c.in-Some.below.now place_of)
