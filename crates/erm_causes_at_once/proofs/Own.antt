-- An answer to a session that needs no transaction has its cause: in the session's earlier answers, and in how far the log may have come.
use Rattle.std.proofs.Common.{◌≡◌, ℕ, ◌+◌, ◌*◌, ◌≤◌, List, length, take, slice_get, Option, Some, None, refl, sym, ap, ◌∙◌, subst, arith}
use Rattle.std.proofs.lemmas.Option.{slice_get_within}
use Rattle.erm_model.specs.declared.limits.TheConstants.{GREATEST_BLOCK, LAST_NUMBER, LEAST_BLOCK}
use Rattle.erm_model.specs.Run.{Step}
use Rattle.erm_report.specs.declared.answer.Answer.{Answer}
use Rattle.erm_report.specs.declared.answer.Answer.TheVariants as answer
use Rattle.erm_script.specs.declared.script.Command.{Command}
use Rattle.erm_script.specs.declared.script.Command.TheVariants as command
use Rattle.erm_script.specs.declared.script.ScriptLine.{ScriptLine}
use Rattle.erm_world.specs.declared.stops.BeginStop.TheVariants as begin
use Rattle.erm_world.specs.Going.{Extends}
use Rattle.erm_world.specs.World.{Finished, Session, View, Work, phase_at}
use Rattle.erm_maps.specs.Runs.{IsAnswered}
use Rattle.erm_good_report.specs.Opening.{Opening}
use Rattle.erm_good_report.specs.Phases.{FitsRefusal, IsAnswerTo, need_of, refusal_in, refusal_of}
use Rattle.erm_good_report.proofs.Phases.{phase_refuses}
use Rattle.erm_good_report.specs.Refusals.{HasLogCause, HasUnfilledCause, Moment, draws_of, last_commit, total_of}
use Rattle.erm_good_report.specs.Transactions.{Progress, Transaction, progress_of, said_of}
use Rattle.erm_good_at_once.specs.CutReports.{moment_in}
use Rattle.erm_lines.specs.Answers.{DidAskDurable, IsLastCommit}
use Rattle.erm_lines.specs.Told.{TellsOver}
use Rattle.erm_lines.proofs.Keeping.{NoneRuns}
use Rattle.erm_beside.specs.Calls.{After, MayNotBeginBeside, Passes}
use Rattle.erm_told.proofs.Sessions.{same_length}
use Rattle.erm_causes.proofs.Logged.{last_none, last_some}
use Rattle.erm_lines_at_once.specs.Answers.{DidAskedBeside, DidInBeside, DidLineBeside}
use Rattle.erm_lines_at_once.proofs.Watched.{in_phase}
use Rattle.erm_told_at_once.proofs.Runs.{LineThere, line_there}
use Rattle.erm_causes_at_once.specs.Laws.{RunsInPartTellLog}
use Rattle.erm_causes_at_once.proofs.Drawn.{tail_few}
use Rattle.erm_causes_at_once.proofs.Numbers.{lines_few}

-- an answer that needs a cause in a report
abbrev NeedsCause : Answer → Type 0
NeedsCause (answer.LogEnd tail) = Unit {0}
NeedsCause answer.NumbersEnd = Unit {0}
NeedsCause (answer.Durable stamp) = Unit {0}
NeedsCause (answer.NotFlushed flushed) = Unit {0}
NeedsCause answer.NoReceipt = Unit {0}
NeedsCause (answer.Flushed place) = Unit {0}
NeedsCause (answer.Empty place) = Unit {0}
NeedsCause (answer.Checkpointed place) = Unit {0}
NeedsCause a = ⊥

-- an answer that is no refusal by a phase is one that the command may have
pub allowed : (f : View) (l : ScriptLine) (a : Answer) (v t : View) → refusal_in a ≡ None → DidLineBeside f l a v t
    → IsAnswerTo l.command a × DidInBeside (phase_at v l.session) f l.session l.command a v t
allowed f l a v t none did = by (refusal_of (phase_at v l.session) l.command) refl did.fits did.did
  where
    by : (r : Option Answer) → refusal_of (phase_at v l.session) l.command ≡ r → FitsRefusal r l.command a → DidAskedBeside r f l.session l.command a v t
        → IsAnswerTo l.command a × DidInBeside (phase_at v l.session) f l.session l.command a v t
    by None is fits did = (fits, did)
    by (Some r) is fits did =
        let no : None ≡ Some r = sym none ∙ ap refusal_in fits ∙ phase_refuses (need_of l.command) (phase_at v l.session) r is in cc

module _ (f : View) (whole script : List ScriptLine) (answers : List Answer) (few : length script ≤ LAST_NUMBER) (opening : Opening)
    (far : f.tail ≤ opening.stamp + LEAST_BLOCK + GREATEST_BLOCK * total_of draws_of whole) (all : List Transaction)
    (i : ℕ) (l : ScriptLine) (a : Answer) (at : slice_get script i ≡ Some l) (there : LineThere f script answers i l a) where
  abbrev m : Moment
  m = moment_in opening whole script answers all i l

  abbrev p : Progress
  p = progress_of l.session (take i (said_of script answers))

  -- the session's transactions and snapshots that are over are those told, also after others went on
  told_over : (u : View) → Passes l.session there.before u → TellsOver l.session p.over p.snapshots (u.session l.session).over
  told_over u passes = subst (λ (s : Session). TellsOver l.session p.over p.snapshots s.over) (sym passes.own) there.knows.told.tells.over

  last_is : (u : View) → Passes l.session there.before u → (stamp end : ℕ) → IsLastCommit (u.session l.session).over stamp end → last_commit m ≡ Some stamp
  last_is u passes stamp end is =
      last_some l.session is.front p.over p.snapshots is.last is.rest None stamp is.commits.0 is.commits.1
      (subst (λ (fs : List Finished). TellsOver l.session p.over p.snapshots fs) is.split (told_over u passes)) is.commits.2 is.none

  -- fewer are over than there are lines
  few_over : (u : View) → Passes l.session there.before u → length (u.session l.session).over ≤ i
  few_over u passes =
      let same = same_length l.session p.over p.snapshots (u.session l.session).over (told_over u passes) in
      let most = lines_few l.session i (said_of script answers) in
      omega (arith, same, most)

  abbrev Did : Command → Answer → Type 0
  Did c d = IsAnswerTo c d × DidInBeside (phase_at there.before l.session) f l.session c d there.before there.after

  -- the log is at its end, or no number is left
  at_end : (tail : ℕ) → After l.session (MayNotBeginBeside l.session (begin.LogEnd tail)) there.before there.after → HasLogCause m (answer.LogEnd tail)
  at_end tail (u, passes, (same, left, end, stop)) =
      let here : there.after.tail ≡ u.tail = ap (λ (w : View). w.tail) same in
      (omega (arith, stop), omega (arith, here, end, there.within, far))

  numbers_left : After l.session (MayNotBeginBeside l.session begin.NumbersEnd) there.before there.after → HasLogCause m answer.NumbersEnd
  numbers_left (u, passes, (same, full)) =
      let most = few_over u passes in
      let within = slice_get_within script i l at in
      absurd (omega (arith, most, within, full, few))

  -- the last commit is on the disk, or there is none
  durable : (stamp : ℕ) → After l.session (λ u w. DidAskDurable u l.session (answer.Durable stamp) w) there.before there.after → HasLogCause m (answer.Durable stamp)
  durable stamp (u, passes, (same, (end, last, flushed))) = (last_is u passes stamp end last, λ in_turn. absurd (cc in_turn))

  no_receipt : After l.session (λ u w. DidAskDurable u l.session answer.NoReceipt w) there.before there.after → HasLogCause m answer.NoReceipt
  no_receipt (u, passes, (same, none)) = last_none l.session p.over p.snapshots (u.session l.session).over None (told_over u passes) none

  commanded : (c : Command) (d : Answer) → NeedsCause d → Did c d → HasLogCause m d
  commanded command.Begin (answer.LogEnd tail) is (fits, did) =
      in_phase (HasLogCause m (answer.LogEnd tail)) f l.session command.Begin (answer.LogEnd tail) there.before there.after (λ plain done. at_end tail done) (λ has done. absurd done) did
  commanded command.Begin answer.NumbersEnd is (fits, did) =
      in_phase (HasLogCause m answer.NumbersEnd) f l.session command.Begin answer.NumbersEnd there.before there.after (λ plain done. numbers_left done) (λ has done. absurd done) did
  commanded command.Safe (answer.LogEnd tail) is (fits, did) =
      in_phase (HasLogCause m (answer.LogEnd tail)) f l.session command.Safe (answer.LogEnd tail) there.before there.after (λ plain done. at_end tail done) (λ has done. absurd done) did
  commanded command.Safe answer.NumbersEnd is (fits, did) =
      in_phase (HasLogCause m answer.NumbersEnd) f l.session command.Safe answer.NumbersEnd there.before there.after (λ plain done. numbers_left done) (λ has done. absurd done) did
  commanded command.Durable (answer.Durable stamp) is (fits, did) =
      in_phase (HasLogCause m (answer.Durable stamp)) f l.session command.Durable (answer.Durable stamp) there.before there.after (λ plain done. durable stamp done)
      (λ has done. durable stamp done) did
  commanded command.Durable answer.NoReceipt is (fits, did) =
      in_phase (HasLogCause m answer.NoReceipt) f l.session command.Durable answer.NoReceipt there.before there.after (λ plain done. no_receipt done) (λ has done. no_receipt done) did
  commanded command.Durable (answer.NotFlushed flushed) is (fits, did) =
      in_phase (HasLogCause m (answer.NotFlushed flushed)) f l.session command.Durable (answer.NotFlushed flushed) there.before there.after (λ plain done. absurd done) (λ has done. absurd done) did
  commanded command.Flush d is (fits, did) = absurd (in_phase ⊥ f l.session command.Flush d there.before there.after (λ plain done. done) (λ has done. done) did)
  commanded command.Checkpoint d is (fits, did) = absurd (in_phase ⊥ f l.session command.Checkpoint d there.before there.after (λ plain done. done) (λ has done. done) did)
  commanded c (answer.LogEnd tail) is (fits, did) = absurd fits
  commanded c answer.NumbersEnd is (fits, did) = absurd fits
  commanded c (answer.Durable stamp) is (fits, did) = absurd fits
  commanded c (answer.NotFlushed flushed) is (fits, did) = absurd fits
  commanded c answer.NoReceipt is (fits, did) = absurd fits
  commanded c (answer.Flushed place) is (fits, did) = absurd fits
  commanded c (answer.Empty place) is (fits, did) = absurd fits
  commanded c (answer.Checkpointed place) is (fits, did) = absurd fits
  commanded c d is did = absurd is

  log_cause : (c : Command) (d : Answer) → (refusal_in d ≡ None → Did c d) → HasLogCause m d
  log_cause c (answer.LogEnd tail) did = commanded c (answer.LogEnd tail) tt (did refl)
  log_cause c answer.NumbersEnd did = commanded c answer.NumbersEnd tt (did refl)
  log_cause c (answer.Durable stamp) did = commanded c (answer.Durable stamp) tt (did refl)
  log_cause c (answer.NotFlushed flushed) did = commanded c (answer.NotFlushed flushed) tt (did refl)
  log_cause c answer.NoReceipt did = commanded c answer.NoReceipt tt (did refl)
  log_cause c (answer.Flushed place) did = commanded c (answer.Flushed place) tt (did refl)
  log_cause c (answer.Empty place) did = commanded c (answer.Empty place) tt (did refl)
  log_cause c (answer.Checkpointed place) did = commanded c (answer.Checkpointed place) tt (did refl)
  log_cause c d did = tt

  unfilled_cause : (c : Command) (d : Answer) → (refusal_in d ≡ None → Did c d) → HasUnfilledCause m c d
  unfilled_cause command.Flush (answer.Unfilled place) did =
      absurd (in_phase ⊥ f l.session command.Flush (answer.Unfilled place) there.before there.after (λ plain done. done) (λ has done. done) (did refl).1)
  unfilled_cause command.Checkpoint (answer.Unfilled place) did =
      absurd (in_phase ⊥ f l.session command.Checkpoint (answer.Unfilled place) there.before there.after (λ plain done. done) (λ has done. done) (did refl).1)
  unfilled_cause c d did = tt

  pub causes : HasLogCause m a × HasUnfilledCause m l.command a
  causes =
      let did : refusal_in a ≡ None → Did l.command a = λ none. allowed f l a there.before there.after none there.did in
      (log_cause l.command a did, unfilled_cause l.command a did)

module _ (runs : NoneRuns) (stay : (w u : Work) (steps : List Step) → Extends w u → IsAnswered w steps → IsAnswered u steps) where
  pub part_log : RunsInPartTellLog
  part_log v f whole part answers closed opening run of all i l a at answered =
      let most = tail_few runs stay v f whole part answers closed run in
      causes f whole part answers run.few opening (omega (arith, most, of.stamp)) all i l a at (line_there runs stay v f whole part answers closed run i l a at answered)
