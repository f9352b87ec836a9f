-- Run in the serial order of all, the commits that an execution at once tells and its safe snapshots that ended give their replies.
use Rattle.std.proofs.Common.{◌≡◌, ℕ, ◌<◌, ◌≤◌, Bool, cond, List, [], ◌∷◌, ◌++◌, fold, length, map, None, refl, sym, ap, ◌∙◌, subst, inl, inr, eq-eqb, ne_eqb, arith}
use Rattle.std.proofs.lemmas.Bool.{cases_eq}
use Rattle.std.proofs.lemmas.List.Sums.{fold-append}
use Rattle.std.proofs.lemmas.Option.{slice_get_within}
use Rattle.erm_model.specs.declared.history.TransactionRecord.{TransactionRecord}
use Rattle.erm_model.specs.declared.limits.TheConstants.{LAST_NUMBER, LOG_END, SESSIONS}
use Rattle.erm_model.specs.Committed.{Committed, RunsInOrder, rank_of, state_after}
use Rattle.erm_model.specs.Database.{Database}
use Rattle.erm_model.specs.Member.{◌∈◌}
use Rattle.erm_model.specs.Run.{Step}
use Rattle.erm_model.specs.SerialOrder.{IsSerialOrder, StampsDiffer}
use Rattle.erm_machine.proofs.Listed.{∈-map}
use Rattle.erm_node.specs.TreeMap.{map_of_rows}
use Rattle.erm_report.specs.declared.answer.Answer.{Answer}
use Rattle.erm_script.specs.declared.script.ScriptLine.{ScriptLine}
use Rattle.erm_world.specs.Going.{Extends}
use Rattle.erm_world.specs.World.{IsSession, View, Work, phase_at}
use Rattle.erm_world.specs.World as world
use Rattle.erm_world.proofs.Commits.{tells_commits}
use Rattle.erm_maps.specs.Runs.{IsAnswered, told_commit, told_commits}
use Rattle.erm_maps.proofs.Commits.{run_ends}
use Rattle.erm_good_report.specs.GoodReport.{places_of, serial_of}
use Rattle.erm_good_report.specs.Opening.{Opening}
use Rattle.erm_good_report.specs.Phases.{Closed}
use Rattle.erm_good_report.specs.Transactions.{HasSnapshot, Progress, Said, Snapshot, ended_of, heard, history_of, nothing, progress_of, said_of, transactions_of}
use Rattle.erm_lines.specs.Executions.{IsOpeningOf}
use Rattle.erm_lines.proofs.Keeping.{NoneRuns}
use Rattle.erm_told.proofs.Closing.{close_said}
use Rattle.erm_told.proofs.Differing.{stamps_differ}
use Rattle.erm_told.proofs.Executed.{hears, still_session}
use Rattle.erm_told.proofs.Reported.{ended_at}
use Rattle.erm_told.proofs.Sessions.{same_length}
use Rattle.erm_lines_at_once.specs.Executions.{DidOwn, IsOwnRun, all_moves}
use Rattle.erm_lines_at_once.specs.Parts.{IsRunInPart, RunsInPartAreSerialWithSnapshots, RunsInPartTell}
use Rattle.erm_told_order.specs.Told.{AreKeptSafe, IsTold, ToldAreSerialWithSnapshots, told_in}
use Rattle.erm_told_order.proofs.Orders.{commits_told}
use Rattle.erm_told_order.proofs.Places.{told_by}
use Rattle.erm_told_at_once.proofs.Ends.{is_told}
use Rattle.erm_told_at_once.proofs.Runs.{all_say, at_first, close_of, own_lines, runs_tell}
use Rattle.erm_told_at_once.proofs.Stamping.{stamps}
use Rattle.erm_causes_at_once.proofs.Numbers.{closes_none, numbers_in, places_few}
use Rattle.erm_causes_at_once.proofs.Safely.{kept_by}

-- of commits whose stamps differ there is a serial order
abbrev pub OrdersExist : Type 0
OrdersExist = (commits : List Committed) → StampsDiffer rank_of commits → (order : List Committed) × IsSerialOrder rank_of commits order

-- CLOSED. Sessions that are closed take no number.
closings_take : (f : View) (seat : ℕ) (cs : List Closed) (p : Progress) (u t : View) → IsOwnRun f seat u (map close_of cs) t → numbers_in (fold (hears seat) p (map close_said cs)) ≡ numbers_in p
closings_take f seat [] p u t passes = refl
closings_take f seat (c ∷ cs) p u t (x, w, passes, did, rest) =
    closings_take f seat cs (hears seat p (close_said c)) w t rest
    ∙ elim (cases_eq c.session seat) as (λ _. numbers_in (hears seat p (close_said c)) ≡ numbers_in p) [
      | inl is ↦
          let own = (subst (λ (b : Bool). DidOwn b f seat (close_of c) x w) (eq-eqb c.session seat is) did).1 in
          ap (λ (b : Bool). numbers_in (cond b (heard seat None c.answer p) p)) (eq-eqb c.session seat is) ∙ closes_none seat (phase_at x c.session) c.answer p own.fits
      | inr another ↦ ap (λ (b : Bool). numbers_in (cond b (heard seat None c.answer p) p)) (ne_eqb c.session seat another)
    ]

said_few : (script : List ScriptLine) (answers : List Answer) → length (said_of script answers) ≤ length script
said_few [] answers = omega arith
said_few (l ∷ script) [] = omega arith
said_few (l ∷ script) (a ∷ answers) = omega (arith, said_few script answers)

module _ (runs : NoneRuns) (stay : (w u : Work) (steps : List Step) → Extends w u → IsAnswered w steps → IsAnswered u steps)
    (v f : View) (whole script : List ScriptLine) (answers : List Answer) (closed : List Closed) (run : IsRunInPart v whole script answers closed f) where
  abbrev said : List Said
  said = places_of script answers closed

  tell : RunsInPartTell
  tell = runs_tell runs stay

  told : IsTold f said
  told = is_told tell v f whole script answers closed run

  first_session : (seat : ℕ) → IsSession f seat → IsSession v seat
  first_session seat session = still_session f v seat (sym run.opening) session

  -- those told safe are kept so
  kept : AreKeptSafe f said
  kept seat session begin s has is =
      let own = first_session seat session in
      let part = run.own seat own in
      let there = subst (λ (list : List Said). HasSnapshot list seat s) (sym (all_say script answers closed)) has in
      kept_by f runs stay seat (all_moves script answers closed) v part.last part.run (at_first runs stay v f whole script answers closed run seat own) begin s there is

  -- numbers are no more than lines
  numbers_taken : (seat : ℕ) → IsSession f seat → numbers_in (progress_of seat said) ≤ length script
  numbers_taken seat session =
      let own = first_session seat session in
      let parts = own_lines runs stay v f whole script answers closed run seat own in
      let lines = said_of script answers in
      let front : Progress = fold (hears seat) nothing lines in
      let most = places_few seat lines nothing in
      let closes : numbers_in (fold (hears seat) front (map close_said closed)) ≡ numbers_in front = closings_take f seat closed front parts.0 (run.own seat own).last parts.2 in
      let whole_is : numbers_in (progress_of seat said) ≡ numbers_in (fold (hears seat) front (map close_said closed)) = ap numbers_in (fold-append (hears seat) nothing lines (map close_said closed)) in
      omega (arith, most, closes, whole_is, said_few script answers)

  numbers_few : (seat : ℕ) (s : Snapshot) → IsSession f seat → s ∈ (progress_of seat said).snapshots → s.number ≤ LAST_NUMBER
  numbers_few seat s session m =
      let p = progress_of seat said in
      let over = (told.tells seat session).over in
      let found = ended_at seat p.over p.snapshots (f.session seat).over s over m in
      let number = (told.serializable.numbered seat session).over found.1.0 found.0 found.1.1 in
      let within = slice_get_within (f.session seat).over found.1.0 found.0 found.1.1 in
      let same = same_length seat p.over p.snapshots (f.session seat).over over in
      let most = numbers_taken seat session in
      omega (arith, found.2.snapshot.number_is, number, within, same, most, run.few)

  -- and commits lie within the log
  stamps_within : (c : Committed) → c ∈ history_of (told_in f said) → c.stamp < LOG_END
  stamps_within c m =
      let progress = λ (seat : ℕ). progress_of seat said in
      let in_world : c ∈ told_commits (told_by progress) (world.history_of f) =
      subst (λ (cs : List Committed). c ∈ cs) (commits_told f progress told.serializable told.tells) m in
      let from = ∈-map (told_commit (told_by progress)) (world.history_of f) c in_world in
      let own = (tells_commits f).only from.0 from.1 in
      let g : world.Finished = record { work = own.work; fate = world.commits own.stamp own.succ own.pred } in
      let low = run.ends.within own.seat own.work own.stamp own.session (inl (g, own.over, refl, refl)) in
      let told_is : from.0.stamp ≡ c.stamp = ap (λ (x : Committed). x.stamp) from.2 in
      let own_is : from.0.stamp ≡ own.stamp = ap (λ (r : TransactionRecord). r.stamp) own.is in
      omega (arith, low, told_is, own_is)

  serial : OrdersExist → ToldAreSerialWithSnapshots → (opening : Opening) → IsOpeningOf v opening → v.opening.sessions ≤ SESSIONS → (order : List Committed)
      → IsSerialOrder rank_of (serial_of v.opening.sessions said) order → RunsInOrder order opening.map (state_after order opening.map)
  serial exist law opening of few order sorted =
      let same : v.opening ≡ f.opening = sym run.opening in
      let all = transactions_of v.opening.sessions said in
      let differ : StampsDiffer rank_of (history_of all) = stamps_differ all (stamps runs stay v f whole script answers closed run opening of).differ in
      let commits = exist (history_of all) differ in
      let runs_so : RunsInOrder order opening.map (state_after commits.0 opening.map) =
      law f said told kept opening.map (of.map ∙ ap (λ (o : world.Opening). map_of_rows o.rows) same) (subst (λ (o : world.Opening). o.sessions ≤ SESSIONS) same few) numbers_few stamps_within commits.0 order
      (subst (λ (o : world.Opening). IsSerialOrder rank_of (history_of (transactions_of o.sessions said)) commits.0) same commits.1)
      (subst (λ (o : world.Opening). IsSerialOrder rank_of (history_of (transactions_of o.sessions said) ++ ended_of o.sessions said) order) same sorted) in
      subst (λ (m : Database). RunsInOrder order opening.map m) (run_ends order opening.map (state_after commits.0 opening.map) runs_so.run) runs_so

pub part_serial : NoneRuns → ((w u : Work) (steps : List Step) → Extends w u → IsAnswered w steps → IsAnswered u steps) → OrdersExist
    → ToldAreSerialWithSnapshots → RunsInPartAreSerialWithSnapshots
part_serial runs stay exist law v f whole part answers closed opening run of few order sorted = serial runs stay v f whole part answers closed run exist law opening of few order sorted
