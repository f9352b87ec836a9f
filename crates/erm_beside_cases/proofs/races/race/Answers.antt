use Rattle.std.proofs.Common.{sym, ap, ◌∙◌, subst}
use Rattle.erm_model.specs.RowTransaction.{any_law}
use Rattle.erm_shared_session.specs.Stands.{Stands, seat_of}
use Rattle.erm_beside_cases.proofs.RunAgain.{all_done, each_stands}
use Rattle.erm_beside_cases.proofs.races.race.Goals as goal

pub for_each_mut-requires-clause-accepts : goal.for_each_mut-requires-clause-accepts
for_each_mut-requires-clause-accepts g c κs within =
    λ i p less is. each_stands any_law c.args.table.now c.args.sessions.now.items c.as_mut_slice.result.now c.as_mut_slice.ensures.value c.requires.done i p.now less is

pub returns-clause-done : goal.returns-clause-done
returns-clause-done g c =
    all_done any_law c.args.table.now c.args.sessions.now.len c.args.sessions.now.items c.as_mut_slice.result.now c.for_each_mut.new.s c.as_mut_slice.ensures.value c.for_each_mut.auto.s
    c.args.sessions.now.ok.0 c.requires.done
    (λ i s less.
    let did = (c.for_each_mut.ensures i s less).1 in
    (subst (Stands any_law c.args.table.now) did.left did.call.0, ap seat_of (sym did.left) ∙ did.call.1 ∙ ap seat_of did.argument_is))
