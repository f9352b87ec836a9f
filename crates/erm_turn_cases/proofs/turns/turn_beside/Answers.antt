use Rattle.erm_lone.specs.Within.{ends_itself}
use Rattle.erm_turn_cases.proofs.turns.turn_beside.Goals as goal

pub returns-clause-later : goal.returns-clause-later
returns-clause-later g c =
    let after = c.try_line-tried.new.session in
    let stands = c.try_line-tried.ensures.stands in
    let here = g.W.RowWorld.view after.world in
    (c.try_line-tried.ensures.onward.ends_so here (ends_itself g.W.RowWorld.law here after.seat stands.1 (g.met.W.RowWorld.serializable after.world stands.0))).1

pub returns-clause-moves : goal.returns-clause-moves
returns-clause-moves g c =
    let after = c.try_line-tried.new.session in
    let stands = c.try_line-tried.ensures.stands in
    let here = g.W.RowWorld.view after.world in
    (c.try_line-tried.ensures.onward.ends_so here (ends_itself g.W.RowWorld.law here after.seat stands.1 (g.met.W.RowWorld.serializable after.world stands.0))).3
