use Rattle.std.proofs.Common.{◌≡◌, ◌<◌, length, set, ap, ◌∙◌, arith}
use Rattle.std.proofs.lemmas.List.{get_or_default}
use Rattle.std.proofs.lemmas.List.Edits.{map_over_more}
use Rattle.erm_model.specs.declared.history.VersionWritten.{VersionWritten}
use Rattle.erm_world.specs.Works.{with_row}
use Rattle.erm_map_world.proofs.works.set_row.Goals as goal

pub loop-c-preserved : goal.loop-c-preserved
loop-c-preserved c =
    let same : length c.deref_mut-c-items.result.now ≡ length c.args.claims.now.items = ap length c.deref_mut-c-items.ensures.value in
    let within : c.loop-c.c-index < length c.args.claims.now.items = omega (arith, c.loop-c-test.true, same) in
    ap (λ (claim : VersionWritten). set c.loop-c.c-items c.loop-c.c-index claim) c.set_one.ensures
    ∙ map_over_more (with_row c.args.oid c.args.row.now) c.args.claims.now.items c.loop-c.c-items c.loop-c.c-index _ within c.loop-c.invariant (get_or_default c.loop-c.c-items c.loop-c.c-index _ _ (omega (arith, c.loop-c-test.true, c.loop-c.auto.c-items)))
