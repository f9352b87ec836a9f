-- Run in the serial order of all, the commits that a run tells and its safe snapshots that ended give their replies.
use Rattle.std.proofs.Common.{◌≡◌, ℕ, ◌+◌, ◌*◌, ◌<◌, ◌≤◌, List, ◌++◌, length, option_to_list, refl, sym, ap, ◌∙◌, subst, inl, arith}
use Rattle.std.proofs.lemmas.Option.{slice_get_within}
use Rattle.erm_model.specs.declared.history.TransactionRecord.{TransactionRecord}
use Rattle.erm_model.specs.declared.limits.TheConstants.{GREATEST_BLOCK, LAST_NUMBER, LOG_END, SESSIONS, STOP}
use Rattle.erm_model.specs.Committed.{Committed, rank_of}
use Rattle.erm_model.specs.Member.{◌∈◌}
use Rattle.erm_model.specs.SerialOrder.{IsSerialOrder}
use Rattle.erm_machine.proofs.Listed.{∈-map}
use Rattle.erm_report.specs.declared.answer.Answer.{Answer}
use Rattle.erm_script.specs.declared.script.ScriptLine.{ScriptLine}
use Rattle.erm_world.specs.World.{Finished, IsSession, View}
use Rattle.erm_world.specs.World as world
use Rattle.erm_world.proofs.Commits.{tells_commits}
use Rattle.erm_maps.specs.Runs.{told_commit, told_commits}
use Rattle.erm_good_report.specs.GoodReport.{places_of}
use Rattle.erm_good_report.specs.Phases.{Closed}
use Rattle.erm_good_report.specs.Refusals.{draws_of, total_of}
use Rattle.erm_good_report.specs.Transactions.{Progress, Said, Snapshot, ended_of, history_of, progress_of, transactions_of}
use Rattle.erm_lines.specs.Executions.{AreClosed, IsCourse, line_moves}
use Rattle.erm_lines.specs.Laws.{ExecutionsGoOn, ExecutionsTell, RunsAreSerialWithSnapshots}
use Rattle.erm_told.specs.Snapshots.{ExecutionsKeepSafe}
use Rattle.erm_told.proofs.Courses.{run_so_far}
use Rattle.erm_told.proofs.Ended.{all_moves, opening_is}
use Rattle.erm_told.proofs.Executed.{still_session}
use Rattle.erm_told.proofs.Reported.{ended_at}
use Rattle.erm_told.proofs.Runs.{last_moves, same_progress, serializable_then}
use Rattle.erm_told_limits.specs.Limits.{EndsAreInReach}
use Rattle.erm_told_order.specs.Told.{AreKeptSafe, IsTold, ToldAreSerialWithSnapshots, told_in}
use Rattle.erm_told_order.proofs.Ends.{end_map, is_told}
use Rattle.erm_told_order.proofs.Orders.{commits_told}
use Rattle.erm_told_order.proofs.Places.{told_by}
use Rattle.erm_causes.proofs.Numbers.{Taken, closes_tail, closes_taken, draws_few, lines_taken, numbers_of, opened_taken}

-- WHAT A RUN SO FAR leaves
module _ (tell : ExecutionsTell) (go : ExecutionsGoOn) (ends : EndsAreInReach) (keep : ExecutionsKeepSafe) (v t : View) (script : List ScriptLine) (answers : List Answer)
    (run : IsCourse v script answers t) (closed : List Closed) (are : AreClosed run.closing closed) where
  abbrev said : List Said
  said = places_of script answers closed

  told : IsTold t said
  told = is_told tell go v t script answers run closed are

  opening_same : t.opening ≡ v.opening
  opening_same = opening_is tell go v t script answers run closed are

  -- one that was told safe is kept so
  kept : AreKeptSafe t said
  kept seat session begin s has is =
      keep v t (line_moves script answers ++ run.closing) run.opened (all_moves v t script answers run) seat (still_session t v seat (sym opening_same) session) begin s
      (subst (λ (p : Progress). s ∈ (p.snapshots ++ option_to_list p.snapshot)) (sym (same_progress v t script answers run closed are seat)) has) is

  -- numbers are no more than lines
  taken : Taken (0 + length script) t
  taken =
      let lines = lines_taken script answers 0 v run.between run.opened.serializable (opened_taken v run.opened) run.lines in
      let lawful = serializable_then (line_moves script answers) v run.between run.opened.serializable run.lines in
      closes_taken run.closing (0 + length script) run.between t (last_moves v t script answers run closed are) lawful lines run.closes

  numbers_few : (seat : ℕ) (s : Snapshot) → IsSession t seat → s ∈ (progress_of seat said).snapshots → s.number ≤ LAST_NUMBER
  numbers_few seat s session m =
      let p = progress_of seat said in
      let found = ended_at seat p.over p.snapshots (t.session seat).over s (told.tells seat session).over m in
      let number = (told.serializable.numbered seat session).over found.1.0 found.0 found.1.1 in
      let within = slice_get_within (t.session seat).over found.1.0 found.0 found.1.1 in
      omega (arith, found.2.snapshot.number_is, number, within, taken.most seat session, run.few)

  -- the log's end is no further on than the lines can have moved it
  tail_most : t.tail ≤ v.opening.tail + GREATEST_BLOCK * total_of draws_of script
  tail_most = subst (λ (n : ℕ). n ≤ v.opening.tail + GREATEST_BLOCK * total_of draws_of script)
      (sym (closes_tail run.closing run.between t (last_moves v t script answers run closed are) run.closes)) (ends v run.between script answers run.opened run.lines)

  -- so commits lie within the log: where there is one, the log was opened before its stop
  stamps_within : (c : Committed) → c ∈ history_of (told_in t said) → c.stamp < LOG_END
  stamps_within c m =
      let progress = λ (seat : ℕ). progress_of seat said in
      let in_world : c ∈ told_commits (told_by progress) (world.history_of t) =
      subst (λ (cs : List Committed). c ∈ cs) (commits_told t progress told.serializable told.tells) m in
      let from = ∈-map (told_commit (told_by progress)) (world.history_of t) c in_world in
      let own = (tells_commits t).only from.0 from.1 in
      let f : Finished = record { work = own.work; fate = world.commits own.stamp own.succ own.pred } in
      let lies = told.serializable.stamps own.seat own.work own.stamp own.session (inl (f, own.over, refl, refl)) in
      let some : 0 < numbers_of (t.session own.seat) = omega (arith, slice_get_within (t.session own.seat).over own.over.0 f own.over.1) in
      let room : v.opening.tail < STOP = subst (λ (o : world.Opening). o.tail < STOP) opening_same (taken.room own.seat own.session some) in
      let same : c.stamp ≡ own.stamp = sym (ap (λ (x : Committed). x.stamp) from.2) ∙ ap (λ (r : TransactionRecord). r.stamp) own.is in
      omega (arith, lies.1, tail_most, draws_few script, run.few, room, same)

pub ordered : ExecutionsTell → ExecutionsGoOn → EndsAreInReach → ExecutionsKeepSafe → ToldAreSerialWithSnapshots → RunsAreSerialWithSnapshots
ordered tell go ends keep law v t script answers run closed opening are of few commits order own all =
    let course = run_so_far v t script answers run in
    let places = places_of script answers closed in
    let same = sym (opening_is tell go v t script answers course closed are) in
    law t places (is_told tell go v t script answers course closed are) (kept tell go ends keep v t script answers course closed are) opening.map
    (end_map tell go v t script answers course closed are opening of) (subst (λ (o : world.Opening). o.sessions ≤ SESSIONS) same few)
    (numbers_few tell go ends keep v t script answers course closed are) (stamps_within tell go ends keep v t script answers course closed are) commits order
    (subst (λ (o : world.Opening). IsSerialOrder rank_of (history_of (transactions_of o.sessions places)) commits) same own)
    (subst (λ (o : world.Opening). IsSerialOrder rank_of (history_of (transactions_of o.sessions places) ++ ended_of o.sessions places) order) same all)
