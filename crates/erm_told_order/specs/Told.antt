-- What was said of a world tells it: the laws of its order, as statements.
use Rattle.std.specs.Prelude.{◌≡◌, ℕ, ◌<◌, ◌≤◌, List, ◌++◌, Some}
use Rattle.erm_model.specs.declared.limits.TheConstants.{LAST_NUMBER, LOG_END, SESSIONS}
use Rattle.erm_model.specs.Committed.{Committed, HasSnapshotReplies, RunsInOrder, rank_of, state_after}
use Rattle.erm_model.specs.Database.{Database}
use Rattle.erm_model.specs.Member.{◌∈◌}
use Rattle.erm_model.specs.SerialOrder.{IsSerialOrder}
use Rattle.erm_node.specs.Sound.{sound_law}
use Rattle.erm_node.specs.TreeMap.{map_of_rows}
use Rattle.erm_world.specs.Laws.{IsSerializable}
use Rattle.erm_world.specs.World.{IsSession, View}
use Rattle.erm_good_report.specs.Snapshots.{IsSafeAmong}
use Rattle.erm_good_report.specs.Transactions.{HasSnapshot, Said, Snapshot, Transaction, ended_of, history_of, looks_of, progress_of, said_of, steps_of, transactions_of}
use Rattle.erm_lines.specs.Laws.{OfCourses}
use Rattle.erm_lines.specs.Told.{Tells}
use Rattle.erm_told.specs.Snapshots.{IsKeptSafe}

-- A world's transactions are serializable, and each session's are those that were said.
pub record IsTold (f : View) (said : List Said) : Type 0 where
  pub serializable : IsSerializable sound_law f
  pub tells : (seat : ℕ) → IsSession f seat → Tells seat (progress_of seat said) (f.session seat)

-- the transactions of all its sessions
abbrev pub told_in : View → List Said → List Transaction
told_in f said = transactions_of f.opening.sessions said

-- each of them was answered as its operations are on the state below its begin stamp
abbrev pub ToldHaveSnapshots : Type 0
ToldHaveSnapshots = (f : View) (said : List Said) → IsTold f said → (opening : Database) → opening ≡ map_of_rows f.opening.rows
    → (t : Transaction) → t ∈ told_in f said → HasSnapshotReplies (history_of (told_in f said)) opening t.begin (steps_of t)

-- run in the serial order, the commits among them give their replies
abbrev pub ToldAreSerial : Type 0
ToldAreSerial = (f : View) (said : List Said) → IsTold f said → (opening : Database) → opening ≡ map_of_rows f.opening.rows
    → (order : List Committed) → IsSerialOrder rank_of (history_of (told_in f said)) order → RunsInOrder order opening (state_after order opening)

-- each snapshot that was told safe has been kept so in this world
abbrev pub AreKeptSafe : View → List Said → Type 0
AreKeptSafe f said = (seat : ℕ) → IsSession f seat → (begin : ℕ) (s : Snapshot) → HasSnapshot said seat s → s.begin ≡ Some begin → IsKeptSafe f s begin

-- one that is kept safe is safe among the commits told, and was replied to as on the state below its begin stamp
pub record IsRepliedSafely (commits : List Committed) (opening : Database) (s : Snapshot) (begin : ℕ) : Type 0 where
  pub safe : IsSafeAmong commits begin
  pub replies : HasSnapshotReplies commits opening begin (looks_of s)

abbrev pub ToldHaveSafeSnapshots : Type 0
ToldHaveSafeSnapshots = (f : View) (said : List Said) → IsTold f said → (opening : Database) → opening ≡ map_of_rows f.opening.rows
    → (begin : ℕ) (s : Snapshot) → 0 < begin → IsKeptSafe f s begin → IsRepliedSafely (history_of (told_in f said)) opening s begin

-- Run in the serial order of all, the commits and the snapshots that ended give their replies, and end in the map of the commits alone: where
-- sessions and numbers are no more than there may be, and the commits lie within the log.
abbrev pub ToldAreSerialWithSnapshots : Type 0
ToldAreSerialWithSnapshots = (f : View) (said : List Said) → IsTold f said → AreKeptSafe f said → (opening : Database) → opening ≡ map_of_rows f.opening.rows
    → f.opening.sessions ≤ SESSIONS → ((seat : ℕ) (s : Snapshot) → IsSession f seat → s ∈ (progress_of seat said).snapshots → s.number ≤ LAST_NUMBER) → ((c : Committed) → c ∈ history_of (told_in f said) → c.stamp < LOG_END)
    → (commits order : List Committed) → IsSerialOrder rank_of (history_of (told_in f said)) commits
    → IsSerialOrder rank_of (history_of (told_in f said) ++ ended_of f.opening.sessions said) order → RunsInOrder order opening (state_after commits opening)

-- what a report of a run so far owes of its snapshots that were told safe: the last two parts of what is owed of snapshots
abbrev pub CoursesKeepSnapshots : Type 0
CoursesKeepSnapshots = OfCourses (λ opening script answers closed told. (session begin : ℕ) (s : Snapshot) → HasSnapshot (said_of script answers) session s → s.begin ≡ Some begin
    → IsRepliedSafely (history_of told) opening.map s begin)
