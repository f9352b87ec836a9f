use Rattle.std.proofs.Common.{◌≡◌, ◌∙◌, ap}
use Rattle.std.proofs.lemmas.Result.{IfOk-weaker}
use Rattle.erm_report.specs.declared.answer.Answer.{Answer}
use Rattle.erm_script.specs.declared.script.ScriptLine.{ScriptLine}
use Rattle.erm_world.specs.World.{Opening}
use Rattle.erm_lines.specs.Answers.{DidLine}
use Rattle.erm_world_cases.specs.Sessions.{AllRun}
use Rattle.erm_world_cases.proofs.tests.lines.kept_line.Goals as goal

pub returns-clause-runs : goal.returns-clause-runs
returns-clause-runs g c =
    let asked : ScriptLine = record { line = 1; session = c.args.session; command = c.args.command } in
    let before = g.W.RowWorld.view c.args.world.now in
    let after = g.W.RowWorld.view c.answer_line.new.world in
    IfOk-weaker c.answer_line.result (λ (a : Answer). DidLine before asked a after) (λ (a : Answer). AllRun after)
    (λ a did. (c.lines_keep_runs.ensures.lines before after asked a c.requires.runs did).0) c.answer_line.ensures.answered

pub returns-clause-sessions : goal.returns-clause-sessions
returns-clause-sessions g c =
    let asked : ScriptLine = record { line = 1; session = c.args.session; command = c.args.command } in
    let before = g.W.RowWorld.view c.args.world.now in
    let after = g.W.RowWorld.view c.answer_line.new.world in
    IfOk-weaker c.answer_line.result (λ (a : Answer). DidLine before asked a after) (λ (a : Answer). after.opening.sessions ≡ 2)
    (λ a did. ap (λ (o : Opening). o.sessions) (c.lines_keep_runs.ensures.lines before after asked a c.requires.runs did).1 ∙ c.requires.sessions) c.answer_line.ensures.answered
