use Rattle.std.proofs.Common.{Option}
use Rattle.std.proofs.lemmas.Result.{IfOk-weaker, on_ok_weaker}
use Rattle.erm_report.specs.declared.answer.Answer.{Answer}
use Rattle.erm_lone.specs.Later.{EndsIn}
use Rattle.erm_turn_cases.specs.Turns.{HadTurn, WasRun}
use Rattle.erm_turn_cases.proofs.Kept.{all_runs, had_turn}
use Rattle.erm_turn_cases.proofs.turns.turn.Goals as goal

pub returns-clause-opening : goal.returns-clause-opening
returns-clause-opening g c = c.turn_beside.ensures.later.opening

pub returns-clause-runs : goal.returns-clause-runs
returns-clause-runs g c =
    on_ok_weaker c.turn_beside.result.1 (λ ran. all_runs (g.W.RowWorld.view c.args.world) (g.W.RowWorld.view c.turn_beside.result.0) c.args.line.now.session c.turn_beside.ensures.later.opening c.turn_beside.ensures.others
    c.requires.runs ran) c.turn_beside.ensures.ran

pub returns-clause-did : goal.returns-clause-did
returns-clause-did g c =
    let v = g.W.RowWorld.view c.args.world in
    let t = g.W.RowWorld.view c.turn_beside.result.0 in
    let l = c.args.line.now in
    IfOk-weaker c.turn_beside.result.1 (λ (tried : Option Answer). WasRun (λ f. EndsIn g.W.RowWorld.law t l.session f) l tried v t) (λ (tried : Option Answer). HadTurn g.W.RowWorld.law v l tried t)
    (λ tried run. had_turn g.W.RowWorld.law l tried v t c.requires.session c.turn_beside.ensures.others c.turn_beside.ensures.later c.turn_beside.ensures.moves run) c.turn_beside.ensures.did
