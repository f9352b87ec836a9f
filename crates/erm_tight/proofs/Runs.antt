-- The transactions of a run that a report tells have lines that tell which records of keys they touched.
use Rattle.std.proofs.Common.{ℕ, List, ◌++◌, ◌∙◌, subst}
use Rattle.erm_report.specs.declared.answer.Answer.{Answer}
use Rattle.erm_script.specs.declared.script.ScriptLine.{ScriptLine}
use Rattle.erm_model.specs.Run.{Step}
use Rattle.erm_world.specs.Going.{Extends}
use Rattle.erm_world.specs.World.{IsSession, View, Work}
use Rattle.erm_maps.specs.Runs.{IsAnswered}
use Rattle.erm_good_report.specs.GoodReport.{places_of}
use Rattle.erm_good_report.specs.Phases.{Closed}
use Rattle.erm_good_report.specs.Transactions.{Progress, nothing, progress_of}
use Rattle.erm_lines.specs.Executions.{AreClosed, IsCourse, line_moves}
use Rattle.erm_lines.proofs.Keeping.{NoneRuns}
use Rattle.erm_told.proofs.Runs.{last_moves, same_progress}
use Rattle.erm_causes.proofs.Fine.{still_session}
use Rattle.erm_causes.proofs.Moves.{opened_told}
use Rattle.erm_causes.proofs.Runs.{last_range, lines_range, whole_run}
use Rattle.erm_causes.proofs.Tables.{heard_said, run_opening}
use Rattle.erm_tight.proofs.Moves.{IsMarked, opened_marked, run_marked}
use Rattle.erm_tight.proofs.Whole.{KeyLaws}

module _ (v t : View) (script : List ScriptLine) (answers : List Answer) (run : IsCourse v script answers t) (closed : List Closed) (are : AreClosed run.closing closed) where
  pub run_marks : KeyLaws → NoneRuns → ((w u : Work) (steps : List Step) → Extends w u → IsAnswered w steps → IsAnswered u steps) → (seat : ℕ) → IsSession v seat
      → IsMarked (progress_of seat (places_of script answers closed)) (t.saves seat) (t.session seat)
  run_marks laws begun stay seat session =
      let moves = line_moves script answers ++ run.closing in
      let whole = whole_run v t script answers run closed are in
      let range = lines_range script answers run.closing run.ranges (last_range run.closing (last_moves v t script answers run closed are)) in
      let marked = run_marked laws begun stay moves (λ q. nothing) v t whole range (opened_told v run.opened) (opened_marked v run.opened) in
      subst (λ (p : Progress). IsMarked p (t.saves seat) (t.session seat)) (heard_said moves (λ q. nothing) seat ∙ same_progress v t script answers run closed are seat)
      (marked seat (still_session v t seat (run_opening moves v t whole) session))
