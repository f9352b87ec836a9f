use Rattle.std.proofs.Common.{◌<◌, List, length, sym, subst, arith}
use Rattle.std.proofs.lemmas.List.{length-map}
use Rattle.erm_tree.specs.declared.plan.Step.{Step}
use Rattle.erm_tree.specs.Insert.{full_run}
use Rattle.erm_tree.specs.Step.{place_of, places_of}
use Rattle.erm_tree.proofs.Runs.{object_for-full, full_run-below}
use Rattle.erm_tree.proofs.plan.+plan_below.Goals as goal

pub plan_below-requires : goal.plan_below-requires
plan_below-requires t c =
    let below = places_of c.in-Some.below.now in
    let enough = subst (λ (path : List Step). full_run (places_of path) < length c.args.made.now) c.in-Some.ensures.cases.0 c.requires.enough in
    (omega (arith, c.decreases, c.in-Some.ensures.cases.1), (omega (arith, c.in-Some.ensures.cases.1, c.requires.room), full_run-below (place_of c.in-Some.step.now) below (length c.args.made.now) enough))

pub push-requires-then-not-is_full : goal.push-requires-then-not-is_full
push-requires-then-not-is_full t c = (omega arith, omega (arith, c.in-Some.ensures.cases.1, c.requires.room, c.in_ok-pair.ensures.grows))

pub bounds-made-below : goal.bounds-made-below
bounds-made-below t c =
    let below = places_of c.in-Some.below.now in
    let enough = subst (λ (path : List Step). full_run (places_of path) < length c.args.made.now) c.in-Some.ensures.cases.0 c.requires.enough in
    let inside = object_for-full (place_of c.in-Some.step.now) below c.args.made.now c.args.key (length c.args.made.now) c.in_ok-pair.pair enough (sym c.in_ok-pair.ensures.pair) (sym c.if-not-is_full.ensures.value) in
    omega (arith, inside, length-map c.in-Some.below.now place_of)

pub push-requires-2 : goal.push-requires-2
push-requires-2 t c = (omega arith, omega (arith, c.in-Some.ensures.cases.1, c.requires.room, c.in_ok-pair.ensures.grows))

pub push-requires-3 : goal.push-requires-3
push-requires-3 t c = (omega arith, omega (arith, c.in-Some.ensures.cases.1, c.requires.room, c.in_ok-pair.ensures.grows, c.push-2.ensures.len))
