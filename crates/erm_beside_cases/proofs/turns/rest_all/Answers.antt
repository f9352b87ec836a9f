use Rattle.std.proofs.Common.{◌<◌, length, ◌∙◌, arith}
use Rattle.erm_model.specs.RowTransaction.{any_law}
use Rattle.erm_beside_cases.proofs.RunAgain.{all_rest, one_there, set_done, set_rests}
use Rattle.erm_beside_cases.proofs.turns.rest_all.Goals as goal

pub rest-requires : goal.rest-requires
rest-requires c =
    let at = c.loop-place in
    let within : at.place < length at.sessions.items = (let low = c.loop-place-test.true in let long = at.sessions.ok.0 in let many = at.invariant.1 in let end = c.len-place-end.ensures in omega (arith, low, long, many, end)) in
    record { stands = (at.invariant.0 at.place c.index_mut.result.now (one_there at.sessions.items at.place c.index_mut.result.now within c.index_mut.ensures.value)).0 }

pub loop-place-preserved : goal.loop-place-preserved
loop-place-preserved c =
    let at = c.loop-place in
    let within : at.place < length at.sessions.items = (let low = c.loop-place-test.true in let long = at.sessions.ok.0 in let many = at.invariant.1 in let end = c.len-place-end.ensures in omega (arith, low, long, many, end)) in
    let seat = (at.invariant.0 at.place c.index_mut.result.now (one_there at.sessions.items at.place c.index_mut.result.now within c.index_mut.ensures.value)).1 in (
      set_done any_law c.args.table.now at.sessions.items at.place c.rest.new.session at.invariant.0 c.rest.ensures.stands (c.rest.ensures.seat ∙ seat),
      at.invariant.1,
      set_rests at.place at.sessions.items c.rest.new.session at.invariant.2 c.rest.ensures.rests,
    )

pub returns-clause-rests : goal.returns-clause-rests
returns-clause-rests c =
    let at = c.loop-place in
    all_rest at.place at.sessions.items at.invariant.2 (let past = c.loop-place-test.false in let long = at.sessions.ok.0 in let many = at.invariant.1 in let end = c.len-place-end.ensures in omega (arith, past, long, many, end))
