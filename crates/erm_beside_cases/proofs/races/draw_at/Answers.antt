use Rattle.std.proofs.Common.{◌<◌, length, ◌∙◌, arith}
use Rattle.erm_model.specs.RowTransaction.{any_law}
use Rattle.erm_beside_cases.proofs.RunAgain.{one_there, set_done}
use Rattle.erm_beside_cases.proofs.races.draw_at.Goals as goal

pub draw-requires-clause-stands : goal.draw-requires-clause-stands
draw-requires-clause-stands c =
    let within : c.args.place < length c.args.sessions.now.items = (let low = c.requires.within in let long = c.args.sessions.now.ok.0 in omega (arith, low, long)) in
    (c.requires.done c.args.place c.index_mut.result.now (one_there c.args.sessions.now.items c.args.place c.index_mut.result.now within c.index_mut.ensures.value)).0

pub returns-clause-done : goal.returns-clause-done
returns-clause-done c =
    let within : c.args.place < length c.args.sessions.now.items = (let low = c.requires.within in let long = c.args.sessions.now.ok.0 in omega (arith, low, long)) in
    let seat = (c.requires.done c.args.place c.index_mut.result.now (one_there c.args.sessions.now.items c.args.place c.index_mut.result.now within c.index_mut.ensures.value)).1 in
    set_done any_law c.args.table.now c.args.sessions.now.items c.args.place c.draw.new.session c.requires.done c.draw.ensures.stands (c.draw.ensures.seat ∙ seat)
