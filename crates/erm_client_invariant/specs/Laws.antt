-- What an invariant that each client's commits keep gives of all clients, whatever the interleaving.
use Rattle.std.specs.Prelude.{◌≡◌, ℕ, ◌<◌, ◌≤◌, List, ◌++◌, length}
use Rattle.erm_client.specs.Dealings.{AllCommitted, commits_told, snapshots_told}
use Rattle.erm_client.specs.declared.transcript.Standing.TheVariants as standing
use Rattle.erm_client.specs.declared.transcript.Transcript.{Transcript}
use Rattle.erm_client.specs.Laws.{AreFrom, answers_of, lines_of}
use Rattle.erm_good_report.specs.GoodReport.{places_of}
use Rattle.erm_good_report.specs.Opening.{Opening}
use Rattle.erm_good_report.specs.Phases.{Closed}
use Rattle.erm_good_report.specs.Transactions.{ended_of, history_of, transactions_of}
use Rattle.erm_invariant.specs.Commits.{AllKeep, transactions_in}
use Rattle.erm_invariant.specs.Invariant.{Keeps, Lasts, Sees}
use Rattle.erm_lines.specs.Executions.{IsOpeningOf}
use Rattle.erm_lines_at_once.specs.Executions.{IsRunAtOnce}
use Rattle.erm_model.specs.Committed.{Committed, RunsInOrder, rank_of, state_after}
use Rattle.erm_model.specs.Database.{Database}
use Rattle.erm_model.specs.declared.limits.TheConstants.{SESSIONS}
use Rattle.erm_model.specs.Member.{◌∈◌}
use Rattle.erm_model.specs.Run.{RunsOne, Step}
use Rattle.erm_model.specs.SerialOrder.{ComesBefore, IsSerialOrder}
use Rattle.erm_world.specs.World.{View}

-- Transcripts of sessions with seats from 1 on that may be asked still, of each of which the commits keep an invariant.
pub record AllKeepIt (Invariant : Database → Type 0) (all : List Transcript) : Type 0 where
  pub from_first : AreFrom 1 all
  pub opened : (c : Transcript) → c ∈ all → c.standing ≡ standing.Open
  pub kept : (c : Transcript) → c ∈ all → AllCommitted (Keeps Invariant) c

-- the commits that the script of all transcripts tells
abbrev pub commits_of : ℕ → List Transcript → List Closed → List Committed
commits_of sessions all closed = history_of (transactions_of sessions (places_of (lines_of all) (answers_of all) closed))

-- Where the script of all transcripts was run at once, each of its commits keeps the invariant.
abbrev pub ClientsKeep : (Database → Type 0) → Type 0
ClientsKeep Invariant = (v f : View) (all : List Transcript) (closed : List Closed) → IsRunAtOnce v (lines_of all) (answers_of all) closed f → AllKeepIt Invariant all
    → AllKeep Invariant (commits_of v.opening.sessions all closed)

-- THE LAW. From a map that has it, run in their serial order the commits leave maps that have it, after each of them, and each found it.
abbrev pub InvariantLastsForClients : (Database → Type 0) → Type 0
InvariantLastsForClients Invariant = (v f : View) (all : List Transcript) (closed : List Closed) (opening : Opening) → IsRunAtOnce v (lines_of all) (answers_of all) closed f
    → IsOpeningOf v opening → AllKeepIt Invariant all → Invariant opening.map → (order : List Committed) → IsSerialOrder rank_of (commits_of v.opening.sessions all closed) order
    → Lasts Invariant (transactions_in order) opening.map (state_after order opening.map)

-- The same, where of each the commits are of a kind.
pub record AreOfKind (Kind : List Step → Type 0) (all : List Transcript) : Type 0 where
  pub from_first : AreFrom 1 all
  pub opened : (c : Transcript) → c ∈ all → c.standing ≡ standing.Open
  pub kept : (c : Transcript) → c ∈ all → AllCommitted Kind c

-- Where the script of all transcripts was run at once, each of its commits is of the kind.
abbrev pub CommitsAreOfKind : (List Step → Type 0) → Type 0
CommitsAreOfKind Kind = (v f : View) (all : List Transcript) (closed : List Closed) → IsRunAtOnce v (lines_of all) (answers_of all) closed f → AreOfKind Kind all
    → (x : Committed) → x ∈ commits_of v.opening.sessions all closed → Kind x.steps

-- Each commit that a transcript tells is one of the script's.
abbrev pub ToldCommitsAreThere : Type 0
ToldCommitsAreThere = (sessions : ℕ) (all : List Transcript) (closed : List Closed) → AreFrom 1 all → ((c : Transcript) → c ∈ all → c.standing ≡ standing.Open) → length all ≤ sessions
    → (c : Transcript) → c ∈ all → (x : Committed) → x ∈ commits_told c → x ∈ commits_of sessions all closed

-- Where it was run at once, its commits, run one after another in their serial order, give the replies that were answered.
abbrev pub ClientsAreSerial : Type 0
ClientsAreSerial = (v f : View) (all : List Transcript) (closed : List Closed) (opening : Opening) → IsRunAtOnce v (lines_of all) (answers_of all) closed f → IsOpeningOf v opening
    → (order : List Committed) → IsSerialOrder rank_of (commits_of v.opening.sessions all closed) order → RunsInOrder order opening.map (state_after order opening.map)

-- SNAPSHOTS. Those that ended, by the script of all transcripts, each as the serial order has it.
abbrev pub snapshots_of : ℕ → List Transcript → List Closed → List Committed
snapshots_of sessions all closed = ended_of sessions (places_of (lines_of all) (answers_of all) closed)

-- Each snapshot that a transcript tells to have ended is one of the script's.
abbrev pub ToldSnapshotsAreThere : Type 0
ToldSnapshotsAreThere = (sessions : ℕ) (all : List Transcript) (closed : List Closed) → AreFrom 1 all → ((c : Transcript) → c ∈ all → c.standing ≡ standing.Open) → length all ≤ sessions
    → (c : Transcript) → c ∈ all → (x : Committed) → x ∈ snapshots_told c → x ∈ snapshots_of sessions all closed

-- The commits and the snapshots that ended, run one after another in the serial order of all, give the replies that were answered, where there are no
-- more sessions than there may be.
abbrev pub ClientsAreSerialWithSnapshots : Type 0
ClientsAreSerialWithSnapshots = (v f : View) (all : List Transcript) (closed : List Closed) (opening : Opening) → IsRunAtOnce v (lines_of all) (answers_of all) closed f → IsOpeningOf v opening
    → v.opening.sessions ≤ SESSIONS → (order : List Committed) → IsSerialOrder rank_of (commits_of v.opening.sessions all closed ++ snapshots_of v.opening.sessions all closed) order
    → RunsInOrder order opening.map (state_after order opening.map)

-- The place of a snapshot among commits in their serial order: behind those that have their turn below its begin stamp, and in front of the others. It
-- is answered on the map that those before it leave.
pub record StandsAmong (order : List Committed) (opening : Database) (x : Committed) : Type 0 where
  pub front : List Committed
  pub rest : List Committed
  pub split : order ≡ front ++ rest
  pub before : (c : Committed) → c ∈ front → c.succ < x.succ
  pub behind : (c : Committed) → c ∈ rest → x.succ ≤ c.succ
  pub answered : RunsOne (state_after front opening) x.steps

-- Each snapshot that a transcript tells to have ended has its place among the commits.
abbrev pub SnapshotsStandAmongCommits : Type 0
SnapshotsStandAmongCommits = (v f : View) (all : List Transcript) (closed : List Closed) (opening : Opening) → IsRunAtOnce v (lines_of all) (answers_of all) closed f → IsOpeningOf v opening
    → AreFrom 1 all → ((c : Transcript) → c ∈ all → c.standing ≡ standing.Open) → (order : List Committed) → IsSerialOrder rank_of (commits_of v.opening.sessions all closed) order
    → (c : Transcript) → c ∈ all → (x : Committed) → x ∈ snapshots_told c → StandsAmong order opening.map x

-- That place is the one that the serial order of all gives it: by their ranks the commits before it come before it, and it comes before the others.
pub record IsItsPlace (order : List Committed) (opening : Database) (x : Committed) (place : StandsAmong order opening x) : Type 0 where
  pub before : (c : Committed) → c ∈ place.front → ComesBefore (rank_of c) (rank_of x)
  pub behind : (c : Committed) → c ∈ place.rest → ComesBefore (rank_of x) (rank_of c)

abbrev pub SnapshotsHaveTheirPlace : Type 0
SnapshotsHaveTheirPlace = (v f : View) (all : List Transcript) (closed : List Closed) (opening : Opening) → IsRunAtOnce v (lines_of all) (answers_of all) closed f → AreFrom 1 all
    → ((c : Transcript) → c ∈ all → c.standing ≡ standing.Open) → length all ≤ v.opening.sessions → v.opening.sessions ≤ SESSIONS
    → (order : List Committed) → IsSerialOrder rank_of (commits_of v.opening.sessions all closed) order
    → (c : Transcript) → c ∈ all → (x : Committed) → x ∈ snapshots_told c → (place : StandsAmong order opening.map x) → IsItsPlace order opening.map x place

-- THE LAW of snapshots. So each of them sees every invariant that all commits keep.
abbrev pub SnapshotsSeeInvariantsForClients : (Database → Type 0) → Type 0
SnapshotsSeeInvariantsForClients Invariant = (v f : View) (all : List Transcript) (closed : List Closed) (opening : Opening) → IsRunAtOnce v (lines_of all) (answers_of all) closed f
    → IsOpeningOf v opening → AllKeepIt Invariant all → Invariant opening.map → (order : List Committed) → IsSerialOrder rank_of (commits_of v.opening.sessions all closed) order
    → (c : Transcript) → c ∈ all → (x : Committed) → x ∈ snapshots_told c → (place : StandsAmong order opening.map x) × Sees Invariant (state_after place.front opening.map) x.steps
