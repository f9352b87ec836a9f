-- A run so far tells its last world: so it has the map that it began on, and the order of that world.
use Rattle.std.proofs.Common.{◌≡◌, List, sym, ap, ◌∙◌, subst}
use Rattle.erm_model.specs.Committed.{Committed, HasSnapshotReplies, RunsInOrder, rank_of, state_after}
use Rattle.erm_model.specs.Member.{◌∈◌}
use Rattle.erm_model.specs.SerialOrder.{IsSerialOrder}
use Rattle.erm_node.specs.TreeMap.{map_of_rows}
use Rattle.erm_report.specs.declared.answer.Answer.{Answer}
use Rattle.erm_script.specs.declared.script.ScriptLine.{ScriptLine}
use Rattle.erm_world.specs.World.{View}
use Rattle.erm_world.specs.World as world
use Rattle.erm_good_report.specs.GoodReport.{places_of}
use Rattle.erm_good_report.specs.Opening.{Opening}
use Rattle.erm_good_report.specs.Phases.{Closed}
use Rattle.erm_good_report.specs.Transactions.{Transaction, history_of, steps_of, transactions_of}
use Rattle.erm_lines.specs.Executions.{AreClosed, IsCourse, IsOpeningOf}
use Rattle.erm_lines.specs.Laws.{ExecutionsGoOn, ExecutionsTell, OfCourses}
use Rattle.erm_told.proofs.Ended.{at_end, end_tells, opening_is}
use Rattle.erm_told_order.specs.Told.{IsTold, ToldAreSerial, ToldHaveSnapshots}

module _ (tell : ExecutionsTell) (go : ExecutionsGoOn) where
  pub end_map : (v t : View) (script : List ScriptLine) (answers : List Answer) (run : IsCourse v script answers t) (closed : List Closed) → AreClosed run.closing closed
      → (opening : Opening) → IsOpeningOf v opening → opening.map ≡ map_of_rows t.opening.rows
  end_map v t script answers run closed closes opening of =
      of.map ∙ ap (λ (o : world.Opening). map_of_rows o.rows) (sym (opening_is tell go v t script answers run closed closes))

  pub is_told : (v t : View) (script : List ScriptLine) (answers : List Answer) (run : IsCourse v script answers t) (closed : List Closed) → AreClosed run.closing closed
      → IsTold t (places_of script answers closed)
  is_told v t script answers run closed closes = record {
    serializable = at_end tell go v t script answers run closed closes;
    tells = end_tells tell go v t script answers run closed closes;
  }

  pub snapshots : ToldHaveSnapshots → OfCourses (λ opening script answers closed told. (t : Transaction) → t ∈ told → HasSnapshotReplies (history_of told) opening.map t.begin (steps_of t))
  snapshots law v t script answers run closed opening closes of =
      let said = places_of script answers closed in
      subst (λ (o : world.Opening). (u : Transaction) → u ∈ transactions_of o.sessions said → HasSnapshotReplies (history_of (transactions_of o.sessions said)) opening.map u.begin (steps_of u))
      (opening_is tell go v t script answers run closed closes)
      (law t said (is_told v t script answers run closed closes) opening.map (end_map v t script answers run closed closes opening of))

  pub serial : ToldAreSerial → OfCourses (λ opening script answers closed told. (order : List Committed) → IsSerialOrder rank_of (history_of told) order
      → RunsInOrder order opening.map (state_after order opening.map))
  serial law v t script answers run closed opening closes of order sorted =
      let said = places_of script answers closed in
      law t said (is_told v t script answers run closed closes) opening.map (end_map v t script answers run closed closes opening of) order
      (subst (λ (o : world.Opening). IsSerialOrder rank_of (history_of (transactions_of o.sessions said)) order)
      (sym (opening_is tell go v t script answers run closed closes)) sorted)
