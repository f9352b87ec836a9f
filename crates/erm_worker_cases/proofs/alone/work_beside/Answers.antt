use Rattle.erm_lone.specs.Within.{ends_itself}
use Rattle.erm_worker_cases.proofs.alone.work_beside.Goals as goal

pub run_lines-requires-clause-seat : goal.run_lines-requires-clause-seat
run_lines-requires-clause-seat g c = λ l m. (c.requires.lines l m).session

pub run_lines-requires-clause-may : goal.run_lines-requires-clause-may
run_lines-requires-clause-may g c = λ l m. (c.requires.lines l m).may

pub returns-clause-later : goal.returns-clause-later
returns-clause-later g c =
    let after = c.run_lines.new.session in
    let stands = c.run_lines.ensures.stands in
    let here = g.W.RowWorld.view after.world in
    (c.run_lines.ensures.onward.ends_so here (ends_itself g.W.RowWorld.law here after.seat stands.1 (g.met.W.RowWorld.serializable after.world stands.0))).1
