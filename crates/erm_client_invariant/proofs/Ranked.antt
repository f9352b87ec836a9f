-- A snapshot that ended has its rank behind the log: so it stands where the serial order of all has it.
use Rattle.std.proofs.Common.{◌≡◌, ℕ, zero, suc, ◌+◌, ◌<◌, ◌≤◌, List, [], ◌∷◌, length, refl, sym, ap, subst, inl, arith}
use Rattle.std.proofs.lemmas.List.Sorted.{IsPermutation-sym}
use Rattle.erm_causes_at_once.proofs.Numbers.{places_few}
use Rattle.erm_client.specs.Dealings.{dealings_of}
use Rattle.erm_client.specs.Laws.{answers_of, lines_of}
use Rattle.erm_client_invariant.proofs.Among.{has_begun}
use Rattle.erm_client_invariant.proofs.There.{from_filter, seat_of, snapshot_there}
use Rattle.erm_client_invariant.specs.Laws.{SnapshotsHaveTheirPlace, commits_of}
use Rattle.erm_core_ssn.proofs.Members.{∈-permutation}
use Rattle.erm_good_report.proofs.Placed.{Between, are_numbered}
use Rattle.erm_good_report.specs.GoodReport.{places_of}
use Rattle.erm_good_report.specs.Phases.{Closed}
use Rattle.erm_good_report.specs.Transactions.{Snapshot, ended_as, history_of, next_number, nothing, progress_of, rank_stamp, said_of, transactions_of}
use Rattle.erm_lines_at_once.specs.Executions.{IsRunAtOnce}
use Rattle.erm_lines_at_once.specs.Laws.{RunsAtOnceTell}
use Rattle.erm_machine.proofs.Listed.{∈-map, ∈-second}
use Rattle.erm_maps.specs.Runs.{told_commit, told_commits}
use Rattle.erm_model.proofs.Members.{none_in_nil}
use Rattle.erm_model.specs.Committed.{Committed, rank_of}
use Rattle.erm_model.specs.declared.history.TransactionRecord.{TransactionRecord}
use Rattle.erm_model.specs.declared.limits.TheConstants.{LAST_NUMBER, LOG_END, SESSIONS}
use Rattle.erm_model.specs.Member.{◌∈◌}
use Rattle.erm_model.specs.SerialOrder.{ComesBefore}
use Rattle.erm_report.specs.declared.answer.Answer.{Answer}
use Rattle.erm_script.specs.declared.script.ScriptLine.{ScriptLine}
use Rattle.erm_told.proofs.Executed.{still_session}
use Rattle.erm_told_order.proofs.Orders.{commits_told}
use Rattle.erm_told_order.proofs.Places.{told_by}
use Rattle.erm_world.proofs.Commits.{tells_commits}
use Rattle.erm_world.specs.World.{Opening, View}
use Rattle.erm_world.specs.World as world

-- COMMITS lie within the log.
logged : RunsAtOnceTell → (v f : View) (script : List ScriptLine) (answers : List Answer) (closed : List Closed) → IsRunAtOnce v script answers closed f
    → (y : Committed) → y ∈ history_of (transactions_of v.opening.sessions (places_of script answers closed)) → y.stamp < LOG_END
logged tell v f script answers closed run y there =
    let said = places_of script answers closed in
    let progress = λ (seat : ℕ). progress_of seat said in
    let same = commits_told f progress run.ends.serializable (λ seat session. tell v f script answers closed run seat (still_session f v seat (sym run.opening) session)) in
    let own : y ∈ history_of (transactions_of f.opening.sessions said) = subst (λ (o : Opening). y ∈ history_of (transactions_of o.sessions said)) (sym run.opening) there in
    let in_world : y ∈ told_commits (told_by progress) (world.history_of f) = subst (λ (l : List Committed). y ∈ l) same own in
    let from = ∈-map (told_commit (told_by progress)) (world.history_of f) y in_world in
    let commit = (tells_commits f).only from.0 from.1 in
    let finished : world.Finished = record { work = commit.work; fate = world.commits commit.stamp commit.succ commit.pred } in
    let low = run.ends.within commit.seat commit.work commit.stamp commit.session (inl (finished, commit.over, refl, refl)) in
    let told_is : from.0.stamp ≡ y.stamp = ap (λ (x : Committed). x.stamp) from.2 in
    let own_is : from.0.stamp ≡ commit.stamp = ap (λ (r : TransactionRecord). r.stamp) commit.is in
    omega (arith, low, told_is, own_is)

-- SNAPSHOTS are numbered by no more than there are lines.
least : (lo hi : ℕ) (ss : List Snapshot) → Between lo ss hi → lo ≤ hi
least lo hi [] b = b
least lo hi (x ∷ ss) b = omega (arith, b.0, least (x.number + 1) hi ss b.1)

numbered : (lo hi : ℕ) (ss : List Snapshot) (s : Snapshot) → Between lo ss hi → s ∈ ss → s.number < hi
numbered lo hi [] s b there = absurd (none_in_nil s there)
numbered lo hi (x ∷ ss) s b (zero, at) = let same : x ≡ s = cc in let number = ap (λ (y : Snapshot). y.number) same in omega (arith, least (x.number + 1) hi ss b.1, number)
numbered lo hi (x ∷ ss) s b (suc k, at) = numbered (x.number + 1) hi ss s b.1 (k, at)

said_few : (script : List ScriptLine) (answers : List Answer) → length (said_of script answers) ≤ length script
said_few [] answers = omega arith
said_few (l ∷ script) [] = omega arith
said_few (l ∷ script) (a ∷ answers) = omega (arith, said_few script answers)

few : (q : ℕ) (script : List ScriptLine) (answers : List Answer) (s : Snapshot) → s ∈ (progress_of q (said_of script answers)).snapshots → s.number ≤ length script
few q script answers s there =
    let said = said_of script answers in
    let below = numbered 1 (next_number (progress_of q said)) (progress_of q said).snapshots s (are_numbered said q).over there in
    let most = places_few q said nothing in
    omega (arith, below, most, said_few script answers)

-- so their ranks lie behind the log
above_log : (seat number : ℕ) → seat ≤ SESSIONS → number ≤ LAST_NUMBER → LOG_END ≤ rank_stamp seat number
above_log seat number low most = omega (arith, low, most)

comes_before : (y x : Committed) → y.succ < x.succ → ComesBefore (rank_of y) (rank_of x)
comes_before y x less = inl less

comes_behind : (y x : Committed) → x.succ ≤ y.succ → y.stamp < x.stamp → ComesBefore (rank_of x) (rank_of y)
comes_behind y x most less = grind arith

pub have_place : RunsAtOnceTell → SnapshotsHaveTheirPlace
have_place tell v f all closed opening run are opened enough bounded order in_order c there x told place =
    let script = lines_of all in
    let answers = answers_of all in
    let all_commits = commits_of v.opening.sessions all closed in
    let (s, over, ended) = from_filter (ended_as c.seat) (dealings_of c).snapshots x told in
    let begun = has_begun c.seat s x ended in
    let seat = seat_of 1 all are c there in
    let number = few c.seat script answers s (snapshot_there s all are opened c there over) in
    let high = above_log c.seat s.number (omega (arith, seat.1, enough, bounded)) (omega (arith, number, run.few)) in
    let rank : rank_stamp c.seat s.number ≡ x.stamp = ap (λ (z : Committed). z.stamp) begun.is in
    let low : (y : Committed) → y ∈ place.rest → y.stamp < x.stamp = λ y m.
    let logs = logged tell v f script answers closed run y
    (∈-permutation y order all_commits (IsPermutation-sym all_commits order in_order.same) (subst (λ (l : List Committed). y ∈ l) (sym place.split) (∈-second place.front place.rest y m))) in
    omega (arith, logs, high, rank) in
    record { before = λ y m. comes_before y x (place.before y m); behind = λ y m. comes_behind y x (place.behind y m) (low y m) }
