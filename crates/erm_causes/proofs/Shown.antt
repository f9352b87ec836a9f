-- At each line of a run what is told shows the cause of its refusal.
use Rattle.std.proofs.Common.{◌≡◌, ℕ, zero, suc, ◌+◌, ◌<◌, ◌≤◌, List, [], ◌∷◌, ◌++◌, Some, None, take, slice_get, length, sum_by, min, fold, refl, sym, ap, ◌∙◌, subst, ⊎_elim}
use Rattle.erm_model.specs.declared.history.TransactionRecord.{TransactionRecord}
use Rattle.erm_model.specs.declared.limits.TheConstants.{LEAST_BLOCK, WRITE_LIMIT}
use Rattle.erm_model.specs.Member.{◌∈◌}
use Rattle.erm_model.proofs.Members.{∈-behind}
use Rattle.erm_model.specs.Run.{Step}
use Rattle.erm_machine.proofs.Listed.{∈-head}
use Rattle.erm_node.specs.Sound.{sound_law}
use Rattle.erm_report.specs.declared.answer.Answer.{Answer}
use Rattle.erm_report.specs.declared.answer.Answer.TheVariants as answer
use Rattle.erm_script.specs.declared.script.Command.{Command}
use Rattle.erm_script.specs.declared.script.Command.TheVariants as command
use Rattle.erm_script.specs.declared.script.ScriptLine.{ScriptLine}
use Rattle.erm_script.specs.Script.{IsInRange}
use Rattle.erm_world.specs.Going.{Extends}
use Rattle.erm_world.specs.Laws.{IsSerializable}
use Rattle.erm_world.specs.World.{IsSession, View, Work, history_of, made_by_all, phase_at, work_at}
use Rattle.erm_world.specs.World as world
use Rattle.erm_maps.specs.Runs.{IsAnswered}
use Rattle.erm_good_report.specs.GoodReport.{places_of}
use Rattle.erm_good_report.specs.Opening.{InTurn, Opening}
use Rattle.erm_good_report.specs.Phases.{Closed, refusal_in}
use Rattle.erm_good_report.specs.Phases as report
use Rattle.erm_good_report.specs.Refusals.{HasCauses, HasLogCause, HasRefusalCause, HasUnfilledCause, Moment, claims_of, current_of, flushed_at, flushed_told, moment_at}
use Rattle.erm_good_report.specs.Transactions.{Progress, Said, Transaction, nothing, progress_of, said_of, table_of, transactions_of, with_line}
use Rattle.erm_lines.specs.Answers.{DidLine}
use Rattle.erm_lines.specs.Executions.{AreClosed, DidLog, DidLogLine, IsCourse, IsExecution, IsOpeningOf, Move, line_moves, move_of, said_in}
use Rattle.erm_lines.proofs.Keeping.{NoneRuns}
use Rattle.erm_lines.proofs.Moved.{moved}
use Rattle.erm_lines.specs.Laws.{ExecutionsGoOn, ExecutionsTell, OfCourses}
use Rattle.erm_lines.specs.Told.{Tells}
use Rattle.erm_told.proofs.Ended.{stamp_later}
use Rattle.erm_told.proofs.Runs.{said_first, said_lines, serializable_then}
use Rattle.erm_told_limits.specs.Limits.{ClaimsAreFew, EndHasCause, FullHasCause, IsEnd, IsFull, StampsAreInReach}
use Rattle.erm_told_limits.proofs.Given.{HistoryLaws}
use Rattle.erm_causes.specs.Laws.{IsForOthers, IsOfLog, RefusesForOthers, RunsDrawInReach, RunsRefuseForOthers, RunsTellLog, RunsTellSaves}
use Rattle.erm_causes.specs.Touched.{AreOfTables}
use Rattle.erm_causes.proofs.Causes.{commit_over, over_told}
use Rattle.erm_causes.proofs.Early.{EarlyCommit, over_later}
use Rattle.erm_causes.proofs.Fine.{IsFine, fine_touches, still_session}
use Rattle.erm_causes.proofs.Flushed.{answers_to, lines_told}
use Rattle.erm_causes.proofs.Moments.{AtMoment, at_moment}
use Rattle.erm_causes.proofs.Moves.{AllFine, move_opening, move_range, opened_told, session_before}
use Rattle.erm_causes.proofs.Own.{TreeLaws}
use Rattle.erm_causes.proofs.Refusals.{excluded_cause, newer_cause, outcome_cause, owned_cause, wait_ring, wait_seat}
use Rattle.erm_causes.proofs.Refused.{Known, KnowsStamps}
use Rattle.erm_told_limits.specs.Limits.{AreInRange}
use Rattle.erm_causes.proofs.Runs.{table_at, whole_run}
use Rattle.erm_causes.proofs.Tables.{AreMovesInRange, TableOf, heard_said, opened_fine, run_fine, run_opening}
use Rattle.erm_causes.proofs.Waits.{Commanded, allowed, commanded, committed_by, excluded_by}

-- the first lines are in range
first_range : (script : List ScriptLine) (answers : List Answer) (i : ℕ) → AreInRange script → AreMovesInRange (line_moves (take i script) (take i answers))
first_range script answers zero range = tt
first_range [] answers (suc i) range = tt
first_range (l ∷ script) [] (suc i) range = tt
first_range (l ∷ script) (a ∷ answers) (suc i) range = (move_range l a (range l (∈-head l script)), first_range script answers i (λ k within. range k (∈-behind l script k within)))

-- no line of the log is refused for others
not_logged : (v t : View) (c : Command) (a : Answer) → IsForOthers a → DidLog v c a t → ⊥
not_logged v t command.Flush (answer.Flushed place) for did = for
not_logged v t command.Flush (answer.Empty place) for did = for
not_logged v t command.Flush (answer.Unfilled place) for did = for
not_logged v t command.Checkpoint (answer.Checkpointed place) for did = for
not_logged v t command.Checkpoint (answer.Unfilled place) for did = for
not_logged v t c a for did = did

-- What is at hand at a line.
pub record Ready (table : ℕ → ℕ) (m : Moment) (c : Command) (before after : View) : Type 0 where
  pub session : IsSession before m.session
  pub range : IsInRange c
  pub holds : IsSerializable sound_law after
  pub opened : AreOfTables table after.opening.rows
  pub fine : AllFine table (λ q. progress_of q m.before) before
  pub made : (k : ℕ) → table_of c ≡ Some k → (x : ℕ) → made_by_all before x < made_by_all after x → table x ≡ k
  pub known : Known table m before
  pub stamps : KnowsStamps m before
  pub stamps_after : KnowsStamps m after
  pub commits : (u : TransactionRecord) → u ∈ history_of before → EarlyCommit table m u

module _ (tree : TreeLaws) (laws : HistoryLaws) (begun : NoneRuns)
    (stay : (w u : Work) (steps : List Step) → Extends w u → IsAnswered w steps → IsAnswered u steps) (tell : ExecutionsTell) (go : ExecutionsGoOn) (few : ClaimsAreFew)
    (v t : View) (script : List ScriptLine) (answers : List Answer) (run : IsCourse v script answers t) (closed : List Closed) (are : AreClosed run.closing closed) (opening : Opening) (starts : IsOpeningOf v opening) where
  abbrev all : List Transaction
  all = transactions_of v.opening.sessions (places_of script answers closed)

  of : TableOf (line_moves script answers ++ run.closing) v t (whole_run v t script answers run closed are)
  of = table_at v t script answers run closed are tree

  stamps_at : (m : Moment) (x : View) (rest : List Move) → m.all ≡ all → x.opening ≡ v.opening → IsExecution x rest t → KnowsStamps m x
  stamps_at m x rest same opened goes q session w stamp stand told session_is number_is u within u_session u_number =
      let onward = go x t rest goes in
      stamp_later tell go v t script answers run closed are q (still_session x t q onward.0 session) (x.session q) (onward.2 q session) w stamp stand u
      (subst (λ (ts : List Transaction). u ∈ ts) same within) (u_session ∙ session_is) (u_number ∙ number_is)

  module _ (i : ℕ) (l : ScriptLine) (a : Answer) (at : slice_get script i ≡ Some l) (answered : slice_get answers i ≡ Some a) where
    abbrev m : Moment
    m = moment_at InTurn opening script answers all i l

    abbrev first : List Move
    first = line_moves (take i script) (take i answers)

    here : AtMoment of.table v t script answers i l a
    here = at_moment of.table script answers run.closing v t i l a (whole_run v t script answers run closed are) of.right at answered

    opening_before : here.before.opening ≡ v.opening
    opening_before = run_opening first v here.before here.start

    opening_after : here.after.opening ≡ v.opening
    opening_after = move_opening here.before (move_of l a) here.after here.did ∙ opening_before

    told_there : (q : ℕ) → IsSession here.before q → Tells q (progress_of q m.before) (here.before.session q) × (report.phase_of q m.before ≡ phase_at here.before q)
    told_there q session =
        subst (λ (said : List Said). Tells q (progress_of q said) (here.before.session q) × (report.phase_of q said ≡ phase_at here.before q)) (said_first i script answers)
        (tell v here.before first run.opened here.start q (session_before v here.before q opening_before session))

    fine_there : AllFine of.table (λ q. progress_of q m.before) here.before
    fine_there q session =
        let fine = run_fine tree laws begun stay of.table first (λ p. nothing) v here.before here.start (first_range script answers i run.ranges) of.opened here.right_first
        (opened_told v run.opened) (opened_fine tree laws begun stay of.table v run.opened) q session in
        subst (λ (p : Progress). IsFine of.table (history_of here.before) p (here.before.saves q) (here.before.session q))
        (heard_said first (λ p. nothing) q ∙ ap (λ (said : List Said). progress_of q said) (said_first i script answers)) fine

    -- its own transaction has claimed no more objects than it may
    few_there : DidLine here.before l a here.after → (u : Transaction) → current_of m l.session ≡ Some u → length (work_at here.before l.session).claims ≤ min WRITE_LIMIT (sum_by (λ e. claims_of e.asked) u.lines)
    few_there did u current =
        let said : said_of (take i script) (take i answers) ≡ m.before = sym (said_lines (take i script) (take i answers)) ∙ said_first i script answers in
        few v here.before (take i script) (take i answers) run.opened here.start l.session u did.session
        (ap (λ (list : List Said). (progress_of l.session list).current) said ∙ current)

    -- and the log is flushed where the lines tell it
    flushed_there : here.before.flushed ≡ flushed_at m
    flushed_there =
        sym (ap (λ (said : List Said). fold (λ (place : ℕ) (s : Said). flushed_told place s.answer) (opening.stamp + LEAST_BLOCK) said) (sym (said_first i script answers))
        ∙ ap (λ (place : ℕ). fold (λ (at : ℕ) (s : Said). flushed_told at s.answer) place (said_in first)) (sym (run.opened.flushed ∙ starts.stamp))
        ∙ lines_told (take i script) (take i answers) v here.before here.start)

    -- each commit by then is told, and the transaction that it is of is over
    commit_there : (u : TransactionRecord) → u ∈ history_of here.before → EarlyCommit of.table m u
    commit_there u within =
        let found = commit_over here.before v.opening.sessions m.before of.table (serializable_then first v here.before run.opened.serializable here.start)
        (ap (λ (o : world.Opening). o.sessions) (sym opening_before)) (λ q session. (told_there q session).0)
        (λ q session. fine_touches of.table (history_of here.before) (progress_of q m.before) (here.before.saves q) (here.before.session q) (fine_there q session)) u within in
        let by = found.told.by in
        let session = session_before v here.before by.session opening_before found.session in
        record {
          told = record {
            by = by;
            of = over_told v.opening.sessions (places_of script answers closed) by.session session.0 session.1 by (over_later by.session script answers closed i by found.over);
            session = found.told.session;
            ending = found.told.ending;
            touches = found.told.touches;
          };
          early = λ in_turn. found.over;
        }

    ready : DidLine here.before l a here.after → Ready of.table m l.command here.before here.after
    ready did = record {
      session = did.session;
      range = run.ranges l (i, at);
      holds = here.holds;
      opened = subst (λ (o : world.Opening). AreOfTables of.table o.rows) (sym opening_after) of.opened;
      fine = fine_there;
      made = here.right_here;
      known = record {
        tells = λ q session. (told_there q session).0.now;
        phase = λ q session. (told_there q session).1;
        fine = λ q session. (fine_there q session).now;
      };
      stamps = stamps_at m here.before (move_of l a ∷ here.rest) refl opening_before (here.after, here.did, here.holds, here.goes);
      stamps_after = stamps_at m here.after here.rest refl opening_after here.goes;
      commits = commit_there;
    }

    -- no line of the log is refused for others
    of_session : IsForOthers a → DidLine here.before l a here.after
    of_session for =
        ⊎_elim (λ (did : DidLine here.before l a here.after). did)
        (λ (did : DidLogLine here.before l a here.after). absurd (not_logged here.before here.after l.command a for did.did))
        (moved here.before l a here.after here.did)

    -- a transaction's own line did what its command does
    own_line : (did : DidLine here.before l a here.after) (none : refusal_in a ≡ None) (u : Transaction) → current_of m l.session ≡ Some u → Commanded here.before l.session l.command a here.after
    own_line did none u current =
        commanded here.before l.session l.command a here.after (current_of m l.session) u (told_there l.session did.session).0.now current (allowed here.before l a here.after none did)

  -- one that was refused for what another session does
  cause_of : (i : ℕ) (l : ScriptLine) (a : Answer) → slice_get script i ≡ Some l → slice_get answers i ≡ Some a → IsForOthers a → (u : Transaction)
      → current_of (moment_at InTurn opening script answers all i l) l.session ≡ Some u
      → HasRefusalCause (moment_at InTurn opening script answers all i l) l.command (with_line (Some l.command) a u) a
  cause_of i l (answer.WaitSeat other seen) at answered for u current =
      let a = answer.WaitSeat other seen in
      let did = of_session i l a at answered for in
      let it = ready i l a at answered did in
      let by = own_line i l a at answered did refl u current in
      let there = here i l a at answered in (
        refl,
        wait_seat tree laws of.table (moment_at InTurn opening script answers all i l) there.before there.after l.command it.session it.range it.holds it.opened it.fine it.made it.known
            it.stamps it.stamps_after it.commits by.free by.plain u current other seen by.never by.did,
      )
  cause_of i l (answer.WaitRing flushed) at answered for u current =
      let a = answer.WaitRing flushed in
      let did = of_session i l a at answered for in
      let it = ready i l a at answered did in
      let by = own_line i l a at answered did refl u current in
      let there = here i l a at answered in (
        refl,
        wait_ring tree laws of.table (moment_at InTurn opening script answers all i l) there.before there.after l.command it.session it.range it.holds it.opened it.fine it.made it.known
            it.stamps it.stamps_after it.commits by.free by.plain u current flushed (flushed_there i l a at answered)
            (few_there i l a at answered did u current) by.did,
      )
  cause_of i l (answer.Owned other number) at answered for u current =
      let a = answer.Owned other number in
      let did = of_session i l a at answered for in
      let it = ready i l a at answered did in
      let by = own_line i l a at answered did refl u current in
      let there = here i l a at answered in
      owned_cause tree laws of.table (moment_at InTurn opening script answers all i l) there.before there.after l.command it.session it.range it.holds it.opened it.fine it.made it.known
      it.stamps it.stamps_after it.commits by.free by.plain u current refl other number by.did
  cause_of i l (answer.Newer stamp) at answered for u current =
      let a = answer.Newer stamp in
      let did = of_session i l a at answered for in
      let it = ready i l a at answered did in
      let by = own_line i l a at answered did refl u current in
      let there = here i l a at answered in
      newer_cause tree laws of.table (moment_at InTurn opening script answers all i l) there.before there.after l.command it.session it.range it.holds it.opened it.fine it.made it.known
      it.stamps it.stamps_after it.commits by.free by.plain u current stamp by.did
  cause_of i l (answer.ExcludedEarly succ pred) at answered for u current =
      let a = answer.ExcludedEarly succ pred in
      let did = of_session i l a at answered for in
      let it = ready i l a at answered did in
      let by = own_line i l a at answered did refl u current in
      let there = here i l a at answered in
      excluded_cause tree laws of.table (moment_at InTurn opening script answers all i l) there.before there.after l.command it.session it.range it.holds it.opened it.fine it.made it.known
      it.stamps it.stamps_after it.commits by.free by.plain u current succ pred by.did
  cause_of i l (answer.Committed stamp succ pred) at answered for u current =
      let a = answer.Committed stamp succ pred in
      let did = of_session i l a at answered for in
      let it = ready i l a at answered did in
      let by = own_line i l a at answered did refl u current in
      let there = here i l a at answered in
      outcome_cause tree laws of.table (moment_at InTurn opening script answers all i l) there.before there.after l.command it.session it.range it.holds it.opened it.fine it.made it.known
      it.stamps it.stamps_after it.commits by.free by.plain u current a tt
      (committed_by there.before there.after l.session l.command stamp succ pred (answers_to there.before l a there.after did by.free) by.did)
  cause_of i l (answer.Excluded stamp succ pred) at answered for u current =
      let a = answer.Excluded stamp succ pred in
      let did = of_session i l a at answered for in
      let it = ready i l a at answered did in
      let by = own_line i l a at answered did refl u current in
      let there = here i l a at answered in
      outcome_cause tree laws of.table (moment_at InTurn opening script answers all i l) there.before there.after l.command it.session it.range it.holds it.opened it.fine it.made it.known
      it.stamps it.stamps_after it.commits by.free by.plain u current a tt
      (excluded_by there.before there.after l.session l.command stamp succ pred (answers_to there.before l a there.after did by.free) by.did)
  cause_of i l a at answered for u current = absurd for

  pub refuses_for_others : RefusesForOthers opening script answers all
  refuses_for_others i l a at answered for told own =
      subst (λ (x : Transaction). HasRefusalCause (moment_at InTurn opening script answers all i l) l.command x a) (sym own.2) (cause_of i l a at answered for own.0 own.1)

pub runs_refuse : TreeLaws → HistoryLaws → NoneRuns
    → ((w u : Work) (steps : List Step) → Extends w u → IsAnswered w steps → IsAnswered u steps) → ExecutionsTell → ExecutionsGoOn → ClaimsAreFew → RunsRefuseForOthers
runs_refuse tree laws begun stay tell go few v t script answers run closed opening are starts = refuses_for_others tree laws begun stay tell go few v t script answers run closed are opening starts

-- each refusal is for others, for want of room, or needs no cause
any_cause : (m : Moment) (l : ScriptLine) (a : Answer) (t : Transaction) → (IsForOthers a → HasRefusalCause m l.command t a) → (IsFull a → HasRefusalCause m l.command t a)
    → HasRefusalCause m l.command t a
any_cause m l (answer.WaitSeat seat seen) t others full = others tt
any_cause m l (answer.WaitRing flushed) t others full = others tt
any_cause m l (answer.Owned seat number) t others full = others tt
any_cause m l (answer.Newer stamp) t others full = others tt
any_cause m l (answer.ExcludedEarly succ pred) t others full = others tt
any_cause m l (answer.Committed stamp succ pred) t others full = others tt
any_cause m l (answer.Excluded stamp succ pred) t others full = others tt
any_cause m l answer.ReadsFull t others full = full tt
any_cause m l answer.WritesFull t others full = full tt
any_cause m l (answer.CellsFull drawn) t others full = full tt
any_cause m l (answer.OidsFull drawn) t others full = full tt
any_cause m l a t others full = tt

-- an answer that tells of the log has its cause
any_log : (m : Moment) (a : Answer) → (IsEnd a → HasLogCause m a) → (IsOfLog a → HasLogCause m a) → HasLogCause m a
any_log m (answer.LogEnd tail) end log = end tt
any_log m answer.NumbersEnd end log = end tt
any_log m (answer.Durable stamp) end log = log tt
any_log m (answer.NotFlushed flushed) end log = log tt
any_log m answer.NoReceipt end log = log tt
any_log m (answer.Flushed place) end log = log tt
any_log m (answer.Empty place) end log = log tt
any_log m (answer.Checkpointed place) end log = log tt
any_log m a end log = tt

any_unfilled : (m : Moment) (c : Command) (a : Answer) → (IsOfLog a → HasUnfilledCause m c a) → HasUnfilledCause m c a
any_unfilled m command.Flush (answer.Unfilled place) log = log tt
any_unfilled m command.Checkpoint (answer.Unfilled place) log = log tt
any_unfilled m c a log = tt

pub with_cause : RunsRefuseForOthers → FullHasCause → EndHasCause → RunsTellLog → RunsTellSaves → StampsAreInReach → RunsDrawInReach → OfCourses (λ opening script answers closed told. HasCauses InTurn opening script answers told)
with_cause others full end log saves reach draws v t script answers run closed opening are starts = record {
  each = λ i l a at answered.
      let all = transactions_of v.opening.sessions (places_of script answers closed) in
      let of_log = log v t script answers run closed opening are starts i l a at answered in
      record {
        own = λ told own.
            any_cause (moment_at InTurn opening script answers all i l) l a told (λ for. others v t script answers run closed opening are starts i l a at answered for told own)
            (λ is. full v t script answers run opening starts all i l a at answered is told own);
        saves = λ told current. saves v t script answers run closed opening are starts i l a at answered told current;
        log = any_log (moment_at InTurn opening script answers all i l) a (λ is. end v t script answers run opening starts all i l a at answered is) (λ is. (of_log is).0);
        unfilled = any_unfilled (moment_at InTurn opening script answers all i l) l.command a (λ is. (of_log is).1);
      };
  reach = λ i l a at answered. reach v t script answers run opening starts (transactions_of v.opening.sessions (places_of script answers closed)) i l a at answered tt;
  untold = draws v t script answers run closed opening are starts;
}
