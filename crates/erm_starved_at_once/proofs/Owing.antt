-- What the answers of an execution at once owe for some of whose sessions memory ran out: of each answer what its session's own run says, and of
-- replies what the world that is left says.
use Rattle.std.proofs.Common.{◌≡◌, ℕ, ◌<◌, List, map, take, slice_get, Some, refl, sym, ap, ◌∙◌, subst, arith}
use Rattle.erm_model.specs.declared.limits.TheConstants.{READ_LIMIT, WRITE_LIMIT}
use Rattle.erm_model.specs.declared.outcome.Phase.{Phase}
use Rattle.erm_model.specs.declared.outcome.Phase.TheVariants.{Idle}
use Rattle.erm_model.specs.Committed.{Committed, HasSnapshotReplies}
use Rattle.erm_model.specs.Member.{◌∈◌}
use Rattle.erm_model.specs.Run.{Step}
use Rattle.erm_node.specs.TreeMap.{map_of_rows}
use Rattle.erm_report.specs.declared.answer.Answer.{Answer}
use Rattle.erm_report.specs.declared.answer.Answer.TheVariants as answer
use Rattle.erm_script.specs.declared.script.Command.{Command}
use Rattle.erm_script.specs.declared.script.Command.TheVariants as command
use Rattle.erm_script.specs.declared.script.ScriptLine.{ScriptLine}
use Rattle.erm_world.specs.World.{IsSession, View, phase_at}
use Rattle.erm_world.specs.World as world
use Rattle.erm_good_report.specs.GoodReport.{places_of}
use Rattle.erm_good_report.specs.Opening.{Opening}
use Rattle.erm_good_report.specs.Phases.{Closed, FitsPhase, FitsSnapshot, phase_of}
use Rattle.erm_good_report.specs.Refusals.{HasCause, HasSaveCause, HasUnfilledCause, IsOwn, Moment}
use Rattle.erm_good_report.specs.Transactions.{Said, Transaction, held_of, history_of, nothing, progress_of, said_of, steps_of, transactions_of}
use Rattle.erm_good_at_once.specs.CutReports.{answered_of, moment_in}
use Rattle.erm_lines.specs.Executions.{IsOpeningOf, line_moves}
use Rattle.erm_causes_at_once.proofs.Held.{allowed_free, line_cause}
use Rattle.erm_told.proofs.Executed.{Knows, still_session}
use Rattle.erm_told.proofs.Runs.{said_first}
use Rattle.erm_told_at_once.proofs.Phases.{line_looks}
use Rattle.erm_told_at_once.proofs.Runs.{OwnAt, close_of, first_known, knows_own, own_at, own_split}
use Rattle.erm_told_limits.proofs.Heard.{may_claim, may_read}
use Rattle.erm_told_limits.proofs.Holds.{Laws}
use Rattle.erm_told_order.specs.Told.{ToldHaveSafeSnapshots, ToldHaveSnapshots, told_in}
use Rattle.erm_cut_at_once.proofs.Parted.{in_script}
use Rattle.erm_works.specs.Starved.{IsStarvedRunAtOnce}
use Rattle.erm_starved_at_once.specs.Owes.{IsOwnRefusal, OwesWhenStarved}
use Rattle.erm_starved_at_once.proofs.Full.{own_claims, own_reads}
use Rattle.erm_starved_at_once.proofs.Safe.{replied_safely}
use Rattle.erm_starved_at_once.proofs.Starved.{AnswersStay, BegunAreRuns, leaves, named, ran}
use Rattle.erm_starved_at_once.proofs.Waits.{never_waits}

-- no refusal of the kinds below tells of a flush
none_unfilled : (m : Moment) (c : Command) → HasUnfilledCause m c answer.WritesFull
none_unfilled m command.Flush = tt
none_unfilled m command.Checkpoint = tt
none_unfilled m c = tt

-- nor of a savepoint
none_saved : (held : ℕ) (c : Command) → HasSaveCause held c answer.WritesFull
none_saved held command.Save = tt
none_saved held (command.Back n) = tt
none_saved held c = tt

module _ (v f : View) (script : List ScriptLine) (counts : ℕ → ℕ) (answers : List Answer) (closed : List Closed) (run : IsStarvedRunAtOnce v script counts answers closed f) (laws : Laws) (runs : BegunAreRuns)
    (stay : AnswersStay) where
  abbrev part : List ScriptLine
  part = answered_of counts script

  abbrev told : List Transaction
  told = transactions_of v.opening.sessions (places_of part answers closed)

  -- EACH LINE answered, in its session's own run
  module _ (i : ℕ) (l : ScriptLine) (a : Answer) (at : slice_get part i ≡ Some l) (answered : slice_get answers i ≡ Some a) where
    session : IsSession v l.session
    session = named v f script counts answers closed run l (i, at)

    there : (u : View) × OwnAt f l.session v part answers u i l a
    there =
        let its = ran v f script counts answers closed run l.session session in
        let (u, lines, rest) = own_split f l.session (line_moves part answers) (map close_of closed) v its.last its.run in
        (u, own_at f l.session part answers v u i l a refl lines at answered)

    knows_there : Knows l.session (progress_of l.session (take i (said_of part answers))) (phase_of l.session (take i (said_of part answers))) there.1.before
    knows_there =
        let its = there.1 in
        subst (λ (said : List Said). Knows l.session (progress_of l.session said) (phase_of l.session said) its.before) (said_first i part answers)
        (knows_own runs stay f l.session (line_moves (take i part) (take i answers)) nothing Idle v its.before its.start (first_known l.session v (run.opened.idle l.session session)))

    phase_there : phase_of l.session (take i (said_of part answers)) ≡ phase_at there.1.before l.session
    phase_there = knows_there.phase_is

    line_fits : FitsPhase (phase_of l.session (take i (said_of part answers))) l.command a
    line_fits = subst (λ (p : Phase). FitsPhase p l.command a) (sym phase_there) there.1.did.fits

    line_watched : FitsSnapshot (phase_of l.session (take i (said_of part answers))) l.command a
    line_watched = subst (λ (p : Phase). FitsSnapshot p l.command a) (sym phase_there) (line_looks f l a there.1.before there.1.after there.1.did)

    -- as many savepoints are held as its transaction's lines tell
    save_cause : (own : Transaction) → (progress_of l.session (take i (said_of part answers))).current ≡ Some own → HasSaveCause (held_of own) l.command a
    save_cause own current =
        let its = there.1 in
        line_cause f l.session own its.before its.after (λ active. (knows_there.told.runs own current active).held) l.command a (allowed_free f l a its.before its.after its.did)

  -- a line that was refused for want of what only its own transaction takes
  module _ (opening : Opening) (i : ℕ) (l : ScriptLine) (t : Transaction) where
    claims_full : (at : slice_get part i ≡ Some l) (answered : slice_get answers i ≡ Some answer.WritesFull) → IsOwn (moment_in opening script part answers told i l) l.command answer.WritesFull t
        → WRITE_LIMIT < may_claim t
    claims_full at answered own =
        let there = session i l answer.WritesFull at answered in
        let its = ran v f script counts answers closed run l.session there in
        let most = own_claims laws runs stay v f part answers closed (λ k m. run.ranges k (in_script counts script k m)) run.ends.serializable i l answer.WritesFull at answered
        (still_session v f l.session run.opening there) (run.opened.idle l.session there) its.last its.run its.goes tt refl own.0 own.1 in
        omega (arith, most, ap may_claim own.2)

    reads_full : (at : slice_get part i ≡ Some l) (answered : slice_get answers i ≡ Some answer.ReadsFull) → IsOwn (moment_in opening script part answers told i l) l.command answer.ReadsFull t
        → READ_LIMIT < may_read t
    reads_full at answered own =
        let there = session i l answer.ReadsFull at answered in
        let its = ran v f script counts answers closed run l.session there in
        let most = own_reads laws runs stay v f part answers closed (λ k m. run.ranges k (in_script counts script k m)) run.ends.serializable i l answer.ReadsFull at answered
        (still_session v f l.session run.opening there) (run.opened.idle l.session there) its.last its.run its.goes tt refl own.0 own.1 in
        omega (arith, most, ap may_read own.2)

  refused : (opening : Opening) (i : ℕ) (l : ScriptLine) (a : Answer) → slice_get part i ≡ Some l → slice_get answers i ≡ Some a → IsOwnRefusal a
      → HasCause (moment_in opening script part answers told i l) l.command a
  refused opening i l answer.WritesFull at answered own = record {
    own = λ t is. claims_full opening i l t at answered is;
    saves = λ t current. none_saved (held_of t) l.command;
    log = tt;
    unfilled = none_unfilled (moment_in opening script part answers told i l) l.command;
  }
  refused opening i l a at answered own = absurd own

  -- THE REPLIES, as the world that is left tells them
  replied : ToldHaveSnapshots → (opening : Opening) → IsOpeningOf v opening → (t : Transaction) → t ∈ told → HasSnapshotReplies (history_of told) opening.map t.begin (steps_of t)
  replied law opening of t m =
      let world_left = leaves v f script counts answers closed run runs stay laws in
      let here = history_of (told_in world_left.left world_left.said) in
      let map_is : opening.map ≡ map_of_rows world_left.left.opening.rows = of.map ∙ ap (λ (o : world.Opening). map_of_rows o.rows) (sym (world_left.log.opening ∙ run.opening)) in
      let (u, in_it, begin, same) = world_left.each t m in
      subst (λ (h : List Committed). HasSnapshotReplies h opening.map t.begin (steps_of t)) world_left.commits
      (subst (λ (n : ℕ). HasSnapshotReplies here opening.map n (steps_of t)) begin
      (subst (λ (steps : List Step). HasSnapshotReplies here opening.map u.begin steps) same (law world_left.left world_left.said world_left.told opening.map map_is u in_it)))

  pub owes : ToldHaveSnapshots → ToldHaveSafeSnapshots → (opening : Opening) → IsOpeningOf v opening
      → OwesWhenStarved opening script (answered_of counts script) answers (transactions_of v.opening.sessions (places_of (answered_of counts script) answers closed))
  owes law safe opening of = record {
    phases = record { fits = line_fits; snapshots = line_watched };
    snapshots = replied law opening of;
    safe = λ session begin s has is. (replied_safely v f script counts answers closed run laws runs stay safe opening of session begin s has is).safe;
    looks = λ session begin s has is. (replied_safely v f script counts answers closed run laws runs stay safe opening of session begin s has is).replies;
    waits = λ i l a at answered waits. never_waits f l a _ _ (there i l a at answered).1.did waits;
    refusals = refused opening;
    saves = λ i l a at answered t current. save_cause i l a at answered t current;
    reads = λ i l at answered t own. reads_full opening i l t at answered own;
  }
