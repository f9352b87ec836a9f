-- The transactions and snapshots of a session, as its client's transcript tells them.
use Rattle.std.specs.Prelude.{◌≡◌, ℕ, List, Some, None, sum_by}
use Rattle.std.specs.List.{filter_map}
use Rattle.erm_client.specs.declared.transcript.Transcript.{Transcript}
use Rattle.erm_good_report.specs.Transactions.{Commits, Progress, Snapshot, Transaction, ended_as, history_of, looks_of, progress_of, said_of, steps_of}
use Rattle.erm_model.specs.Committed.{Committed}
use Rattle.erm_model.specs.Member.{◌∈◌}
use Rattle.erm_model.specs.Run.{Step}
use Rattle.erm_report.specs.declared.answer.Answer.{Answer}
use Rattle.erm_report.specs.declared.answer.Answer.TheVariants as answer
use Rattle.erm_script.specs.declared.script.Command.{Command}
use Rattle.erm_script.specs.declared.script.Command.TheVariants as command

-- the session's transactions and snapshots: those that are over, and the one that is not
abbrev pub dealings_of : Transcript → Progress
dealings_of c = progress_of c.seat (said_of c.lines.items c.answers.items)

-- no snapshot is in progress
abbrev pub HasNone : Transcript → Type 0
HasNone c = (dealings_of c).snapshot ≡ None

-- neither a transaction nor a snapshot is in progress
pub record HasNothing (c : Transcript) : Type 0 where
  pub no_transaction : (dealings_of c).current ≡ None
  pub no_snapshot : HasNone c

-- the transaction in progress, and no snapshot, with the operations that were answered
pub record IsAt (c : Transcript) (steps : List Step) : Type 0 where
  pub current : Transaction
  pub is : (dealings_of c).current ≡ Some current
  pub steps_are : steps_of current ≡ steps
  pub alone : HasNone c

-- the snapshot in progress, which is safe at this begin stamp, with the operations that were answered
pub record IsSafeAt (c : Transcript) (begin : ℕ) (steps : List Step) : Type 0 where
  pub current : Snapshot
  pub is : (dealings_of c).snapshot ≡ Some current
  pub begin_is : current.begin ≡ Some begin
  pub steps_are : looks_of current ≡ steps

-- where a transaction begins, or a snapshot is told safe, no snapshot is in progress
abbrev pub ComesAlone : Answer → Progress → Type 0
ComesAlone (answer.Began begin) p = p.snapshot ≡ None
ComesAlone (answer.Safe begin) p = p.snapshot ≡ None
ComesAlone a p = Unit {0}

-- each transaction that is over and committed is of a kind, by its operations that were answered
abbrev pub AllOver : (List Step → Type 0) → Progress → Type 0
AllOver Kind p = (t : Transaction) (stamp succ pred : ℕ) → t ∈ p.over → t.ending ≡ Commits stamp succ pred → Kind (steps_of t)

abbrev pub AllCommitted : (List Step → Type 0) → Transcript → Type 0
AllCommitted Kind c = AllOver Kind (dealings_of c)

-- the session's commits, in turn
abbrev pub commits_told : Transcript → List Committed
commits_told c = history_of (dealings_of c).over

-- the session's snapshots that ended, in turn, each as the serial order has it
abbrev pub snapshots_told : Transcript → List Committed
snapshots_told c = filter_map (ended_as c.seat) (dealings_of c).snapshots

-- how many of its lines are begins, of transactions or of snapshots, whatever they were answered
abbrev pub begins_by : Command → ℕ
begins_by command.Begin = 1
begins_by command.Safe = 1
begins_by c = 0

abbrev pub begins_in : Transcript → ℕ
begins_in c = sum_by (λ l. begins_by l.command) c.lines.items
