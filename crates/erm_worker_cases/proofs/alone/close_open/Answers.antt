use Rattle.erm_lone.specs.Within.{ends_itself}
use Rattle.erm_worker_cases.proofs.alone.close_open.Goals as goal

pub returns-clause-opening : goal.returns-clause-opening
returns-clause-opening g c =
    let after = c.close_session-closed.new.session in
    let stands = c.close_session-closed.ensures.stands in
    let here = g.W.RowWorld.view after.world in
    (c.close_session-closed.ensures.onward.ends_so here (ends_itself g.W.RowWorld.law here after.seat stands.1 (g.met.W.RowWorld.serializable after.world stands.0))).1.opening
