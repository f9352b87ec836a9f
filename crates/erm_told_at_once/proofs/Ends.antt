-- The world in which all end is told: so it has the map that it began on, and the order of that world.
use Rattle.std.proofs.Common.{◌≡◌, List, sym, ap, ◌∙◌, subst}
use Rattle.erm_model.specs.Committed.{rank_of}
use Rattle.erm_model.specs.SerialOrder.{IsSerialOrder}
use Rattle.erm_node.specs.TreeMap.{map_of_rows}
use Rattle.erm_report.specs.declared.answer.Answer.{Answer}
use Rattle.erm_script.specs.declared.script.ScriptLine.{ScriptLine}
use Rattle.erm_world.specs.World.{View}
use Rattle.erm_world.specs.World as world
use Rattle.erm_model.specs.Committed.{HasSnapshotReplies}
use Rattle.erm_model.specs.Member.{◌∈◌}
use Rattle.erm_good_report.specs.GoodReport.{places_of}
use Rattle.erm_good_report.specs.Opening.{Opening}
use Rattle.erm_good_report.specs.Phases.{Closed}
use Rattle.erm_good_report.specs.Transactions.{Transaction, history_of, steps_of, transactions_of}
use Rattle.erm_lines.specs.Executions.{IsOpeningOf}
use Rattle.erm_told.proofs.Executed.{still_session}
use Rattle.erm_told_order.specs.Told.{IsTold, ToldAreSerial, ToldHaveSnapshots}
use Rattle.erm_lines_at_once.specs.Parts.{IsRunInPart, RunsInPartAreSerial, RunsInPartHaveSnapshots, RunsInPartTell}

module _ (tell : RunsInPartTell) where
  pub is_told : (v f : View) (whole part : List ScriptLine) (answers : List Answer) (closed : List Closed) → IsRunInPart v whole part answers closed f → IsTold f (places_of part answers closed)
  is_told v f whole part answers closed run = record {
    serializable = run.ends.serializable;
    tells = λ seat session. tell v f whole part answers closed run seat (still_session f v seat (sym run.opening) session);
  }

  end_map : (v f : View) (whole part : List ScriptLine) (answers : List Answer) (closed : List Closed) → IsRunInPart v whole part answers closed f → (opening : Opening) → IsOpeningOf v opening
      → opening.map ≡ map_of_rows f.opening.rows
  end_map v f whole part answers closed run opening of = of.map ∙ ap (λ (o : world.Opening). map_of_rows o.rows) (sym run.opening)

  pub snapshots : ToldHaveSnapshots → RunsInPartHaveSnapshots
  snapshots law v f whole part answers closed opening run of =
      let said = places_of part answers closed in
      subst (λ (o : world.Opening). (u : Transaction) → u ∈ transactions_of o.sessions said → HasSnapshotReplies (history_of (transactions_of o.sessions said)) opening.map u.begin (steps_of u))
      run.opening (law f said (is_told v f whole part answers closed run) opening.map (end_map v f whole part answers closed run opening of))

  pub serial : ToldAreSerial → RunsInPartAreSerial
  serial law v f whole part answers closed opening run of order sorted =
      let said = places_of part answers closed in
      law f said (is_told v f whole part answers closed run) opening.map (end_map v f whole part answers closed run opening of) order
      (subst (λ (o : world.Opening). IsSerialOrder rank_of (history_of (transactions_of o.sessions said)) order) (sym run.opening) sorted)
