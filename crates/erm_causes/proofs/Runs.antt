-- The transactions of a run that a report tells touch objects of their lines' tables alone.
use Rattle.std.proofs.Common.{ℕ, List, [], ◌∷◌, ◌++◌, ◌∙◌, subst}
use Rattle.erm_model.proofs.Members.{∈-behind}
use Rattle.erm_model.specs.Run.{Step}
use Rattle.erm_machine.proofs.Listed.{∈-head}
use Rattle.erm_report.specs.declared.answer.Answer.{Answer}
use Rattle.erm_script.specs.declared.script.ScriptLine.{ScriptLine}
use Rattle.erm_world.specs.Going.{Extends}
use Rattle.erm_world.specs.World.{IsSession, View, Work, history_of}
use Rattle.erm_maps.specs.Runs.{IsAnswered}
use Rattle.erm_good_report.specs.GoodReport.{places_of}
use Rattle.erm_good_report.specs.Phases.{Closed}
use Rattle.erm_good_report.specs.Transactions.{Progress, nothing, progress_of}
use Rattle.erm_lines.proofs.Keeping.{NoneRuns}
use Rattle.erm_lines.specs.Executions.{AreClosed, IsCourse, IsExecution, Move, close, flush, line, line_moves, log}
use Rattle.erm_told.proofs.Closing.{AreLast}
use Rattle.erm_told.proofs.Runs.{executed_both, last_moves, same_progress}
use Rattle.erm_told_limits.specs.Limits.{AreInRange}
use Rattle.erm_causes.specs.Laws.{RunsTouchTables}
use Rattle.erm_causes.specs.Touched.{TouchesAll}
use Rattle.erm_causes.proofs.Fine.{fine_touches, still_session}
use Rattle.erm_causes.proofs.Moves.{move_range, opened_told}
use Rattle.erm_causes.proofs.Own.{TreeLaws}
use Rattle.erm_causes.proofs.Tables.{AreMovesInRange, TableOf, heard_moves, heard_said, opened_fine, run_fine, run_opening, table_of_run}
use Rattle.erm_told_limits.proofs.Given.{HistoryLaws}

-- lines in range, and what closes the sessions
pub lines_range : (script : List ScriptLine) (answers : List Answer) (more : List Move) → AreInRange script → AreMovesInRange more → AreMovesInRange (line_moves script answers ++ more)
lines_range [] answers more range then_range = then_range
lines_range (l ∷ script) [] more range then_range = then_range
lines_range (l ∷ script) (a ∷ answers) more range then_range =
    (move_range l a (range l (∈-head l script)), lines_range script answers more (λ k within. range k (∈-behind l script k within)) then_range)

pub last_range : (moves : List Move) → AreLast moves → AreMovesInRange moves
last_range [] last = tt
last_range (line l a ∷ moves) last = absurd last.0
last_range (log l a ∷ moves) last = absurd last.0
last_range (close seat a ∷ moves) last = (tt, last_range moves last.1)
last_range (flush ∷ moves) last = (tt, last_range moves last.1)

module _ (v t : View) (script : List ScriptLine) (answers : List Answer) (run : IsCourse v script answers t) (closed : List Closed) (are : AreClosed run.closing closed) where
  pub whole_run : IsExecution v (line_moves script answers ++ run.closing) t
  whole_run = executed_both (line_moves script answers) run.closing v run.between t run.lines run.closes

  pub table_at : TreeLaws → TableOf (line_moves script answers ++ run.closing) v t whole_run
  table_at tree = table_of_run tree.one (line_moves script answers ++ run.closing) v t whole_run run.opened.serializable

  module _ (tree : TreeLaws) (laws : HistoryLaws) (begun : NoneRuns)
      (stay : (w u : Work) (steps : List Step) → Extends w u → IsAnswered w steps → IsAnswered u steps) where
    pub touched_by : (of : TableOf (line_moves script answers ++ run.closing) v t whole_run) (seat : ℕ) → IsSession v seat
        → TouchesAll of.table (history_of t) (progress_of seat (places_of script answers closed)) (t.session seat)
    touched_by of seat session =
        let moves = line_moves script answers ++ run.closing in
        let fine = run_fine tree laws begun stay of.table moves (λ q. nothing) v t whole_run
        (lines_range script answers run.closing run.ranges (last_range run.closing (last_moves v t script answers run closed are))) of.opened of.right
        (opened_told v run.opened) (opened_fine tree laws begun stay of.table v run.opened) in
        subst (λ (p : Progress). TouchesAll of.table (history_of t) p (t.session seat)) (heard_said moves (λ q. nothing) seat ∙ same_progress v t script answers run closed are seat)
        (fine_touches of.table (history_of t) (heard_moves moves (λ q. nothing) seat) (t.saves seat) (t.session seat) (fine seat (still_session v t seat (run_opening moves v t whole_run) session)))

pub runs_touch : TreeLaws → HistoryLaws → NoneRuns
    → ((w u : Work) (steps : List Step) → Extends w u → IsAnswered w steps → IsAnswered u steps) → RunsTouchTables
runs_touch tree laws begun stay v t script answers run closed are =
    let of = table_at v t script answers run closed are tree in
    (of.table, of.opened, touched_by v t script answers run closed are tree laws begun stay of)
