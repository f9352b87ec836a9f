-- What the answers of an execution at once owe for some of whose sessions memory ran out.
use Rattle.std.specs.Prelude.{◌≡◌, ◌<◌, ℕ, List, Some, sum_by}
use Rattle.std.specs.List.{slice_get}
use Rattle.erm_model.specs.declared.limits.TheConstants.{READ_LIMIT}
use Rattle.erm_model.specs.Committed.{HasSnapshotReplies}
use Rattle.erm_model.specs.Member.{◌∈◌}
use Rattle.erm_report.specs.declared.answer.Answer.{Answer}
use Rattle.erm_report.specs.declared.answer.Answer.TheVariants as answer
use Rattle.erm_script.specs.declared.script.ScriptLine.{ScriptLine}
use Rattle.erm_good_report.specs.Opening.{Opening}
use Rattle.erm_good_report.specs.Phases.{PhasesAgree}
use Rattle.erm_good_report.specs.Refusals.{HasCause, HasSaveCause, IsOwn, current_of, reads_of}
use Rattle.erm_good_report.specs.Snapshots.{IsSafeAmong}
use Rattle.erm_good_report.specs.Stamps.{IsWait}
use Rattle.erm_good_report.specs.Transactions.{HasSnapshot, Snapshot, Transaction, held_of, history_of, looks_of, said_of, steps_of}
use Rattle.erm_good_at_once.specs.CutReports.{moment_in}

-- a refusal that leaves its transaction in progress, and that the session's own lines cause alone
abbrev pub IsOwnRefusal : Answer → Type 0
IsOwnRefusal answer.WritesFull = Unit {0}
IsOwnRefusal a = ⊥

-- Of the answers to a part of a script, and of the transactions and snapshots that they tell: each answer is one to its command, in the phase that the
-- session's earlier ones leave; what was replied to a transaction, also to one that doesn't commit, is right on its snapshot; a begin stamp that a snapshot
-- is told to be safe at is so among the commits told, and its replies are those of the state below it; no line, with a transaction or without, is
-- answered by a wait; each refusal that the session's own lines cause alone has its cause, and so has each answer to a line of savepoints; and where reads
-- are full the lines of the transaction may have read so many. What a line in which memory ran out claimed and made counts in no line, so the causes of the other refusals aren't told. Nor is it where
-- a snapshot begins, beside what other lines tell, or why one isn't known to be safe.
pub record OwesWhenStarved (opening : Opening) (whole part : List ScriptLine) (answers : List Answer) (told : List Transaction) : Type 0 where
  pub phases : PhasesAgree part answers
  pub snapshots : (t : Transaction) → t ∈ told → HasSnapshotReplies (history_of told) opening.map t.begin (steps_of t)
  pub safe : (session begin : ℕ) (s : Snapshot) → HasSnapshot (said_of part answers) session s → s.begin ≡ Some begin → IsSafeAmong (history_of told) begin
  pub looks : (session begin : ℕ) (s : Snapshot) → HasSnapshot (said_of part answers) session s → s.begin ≡ Some begin
      → HasSnapshotReplies (history_of told) opening.map begin (looks_of s)
  pub waits : (i : ℕ) (l : ScriptLine) (a : Answer) → slice_get part i ≡ Some l → slice_get answers i ≡ Some a → IsWait a → ⊥
  pub refusals : (i : ℕ) (l : ScriptLine) (a : Answer) → slice_get part i ≡ Some l → slice_get answers i ≡ Some a → IsOwnRefusal a
      → HasCause (moment_in opening whole part answers told i l) l.command a
  pub saves : (i : ℕ) (l : ScriptLine) (a : Answer) → slice_get part i ≡ Some l → slice_get answers i ≡ Some a
      → (t : Transaction) → current_of (moment_in opening whole part answers told i l) l.session ≡ Some t → HasSaveCause (held_of t) l.command a
  pub reads : (i : ℕ) (l : ScriptLine) → slice_get part i ≡ Some l → slice_get answers i ≡ Some answer.ReadsFull
      → (t : Transaction) → IsOwn (moment_in opening whole part answers told i l) l.command answer.ReadsFull t → READ_LIMIT < sum_by (λ e. reads_of e.asked) t.lines
