-- What the transactions of a world are as operations on the database map.
use Rattle.std.specs.Prelude.{◌≡◌, ℕ, List, [], ◌∷◌, ◌++◌, map, take, Some}
use Rattle.std.specs.List.{slice_get}
use Rattle.erm_model.specs.declared.history.TransactionRecord.{TransactionRecord}
use Rattle.erm_model.specs.declared.history.VersionWritten.{VersionWritten}
use Rattle.erm_model.specs.Committed.{Committed, HasSnapshotReplies, IsStateBelow, RunsInOrder}
use Rattle.erm_model.specs.Committed as committed
use Rattle.erm_model.specs.Database.{Database}
use Rattle.erm_model.specs.History.{History, after_writes, rows_after}
use Rattle.erm_model.specs.Member.{◌∈◌}
use Rattle.erm_model.specs.Rows.{Rows}
use Rattle.erm_model.specs.Run.{RunsOn, RunsOne, Saving, Step, after_all, after_from, begins, change_all, ops_of}
use Rattle.erm_model.specs.SerialOrder.{IsSerialOrder}
use Rattle.erm_node.specs.Sound.{IsSound, sound_law}
use Rattle.erm_node.specs.TreeMap.{map_of_rows}
use Rattle.erm_world.specs.Going.{Extends}
use Rattle.erm_world.specs.Laws.{FitsWork, IsLawfulWork}
use Rattle.erm_world.specs.Saves.{AreSavesOf, OnceOf, restored, with_claims}
use Rattle.erm_world.specs.Works.{seen_by}
use Rattle.erm_world.specs.World.{Has, HasStamp, IsSession, View, Work, history_of, work_at}

-- the operations with their replies that a session's transaction of a number was answered
abbrev pub Told : Type 0
Told = (seat number : ℕ) → List Step

-- a transaction, and the claims that it had at each of its savepoints, the oldest first
pub record Kept : Type 0 where
  pub work : Work
  pub saves : List (List VersionWritten)

-- that of a session
abbrev pub kept_at : View → ℕ → Kept
kept_at v seat = record { work = work_at v seat; saves = v.saves seat }

-- one savepoint more
abbrev pub saving : Kept → Kept
saving k = record { work = k.work; saves = k.saves ++ k.work.claims ∷ [] }

-- it has gone back to its n-th savepoint, at which it had these claims
abbrev pub going_back : ℕ → List VersionWritten → Kept → Kept
going_back n saved k = record { work = with_claims (restored saved k.work.claims) k.work; saves = take n k.saves }

-- an array has at each object claimed the row that the claim found
abbrev pub Agree : Rows → List VersionWritten → Type 0
Agree rows claims = (c : VersionWritten) → c ∈ claims → rows c.oid ≡ c.base

-- the map that it sees where it began on these rows, and those that it saw at its savepoints
abbrev pub maps_seen : Kept → Rows → Saving Database
maps_seen k rows = record { now = map_of_rows (seen_by k.work rows); saved = map (λ claims. map_of_rows (after_writes claims rows)) k.saves }

-- whatever sound rows a transaction may have begun on, its replies are those of its operations on their map
abbrev pub IsAnswered : Work → List Step → Type 0
IsAnswered w steps = (rows : Rows) → IsSound rows → FitsWork sound_law w rows → RunsOne (map_of_rows rows) steps

-- A transaction was the run of its operations: it is answered so, and leaves rows of the map after them, as its law asks.
pub record WasRun (w : Work) (steps : List Step) : Type 0 where
  pub run : IsAnswered w steps
  pub after : (rows : Rows) → IsSound rows → FitsWork sound_law w rows → map_of_rows (seen_by w rows) ≡ after_all (ops_of steps) (map_of_rows rows)
  pub lawful : IsLawfulWork sound_law w

-- A transaction in progress is the run of its operations: it is answered so, and the maps that it sees and has saved are those after
-- them. It has claimed each object once, and keeps the law of rows, now and were it back at a savepoint.
pub record IsRunOf (k : Kept) (steps : List Step) : Type 0 where
  pub run : IsAnswered k.work steps
  pub after : (rows : Rows) → IsSound rows → FitsWork sound_law k.work rows → after_from (ops_of steps) (begins (map_of_rows rows)) ≡ maps_seen k rows
  pub lawful : IsLawfulWork sound_law k.work
  pub once : OnceOf k.work.claims
  pub saves : AreSavesOf k.work k.saves
  pub lawful_saves : (j : ℕ) (saved : List VersionWritten) → slice_get k.saves j ≡ Some saved → IsLawfulWork sound_law (with_claims saved k.work)

-- A transaction has gone on by steps on the map: whatever sound rows it may have begun on, they run on the map that it saw before,
-- and the map that it sees then is that after them. It keeps the law of rows, and still has claimed each object once.
pub record GoesOnBy (w u : Work) (steps : List Step) : Type 0 where
  pub extends : Extends w u
  pub run : (rows : Rows) → IsSound rows → FitsWork sound_law u rows → RunsOn (map_of_rows (seen_by w rows)) steps
  pub after : (rows : Rows) → IsSound rows → FitsWork sound_law u rows → map_of_rows (seen_by u rows) ≡ change_all (ops_of steps) (map_of_rows (seen_by w rows))
  pub lawful : IsLawfulWork sound_law u
  pub once : OnceOf u.claims

-- Each transaction is answered as its operations, also one in progress, aborted or excluded; each sealed one is their run.
pub record AreRuns (v : View) (told : Told) : Type 0 where
  pub answered : (seat : ℕ) (w : Work) → IsSession v seat → Has v seat w → IsAnswered w (told seat w.number)
  pub run : (seat : ℕ) (w : Work) (stamp : ℕ) → IsSession v seat → HasStamp v seat w stamp → WasRun w (told seat w.number)

-- a commit as its session sees it: by its operations
abbrev pub told_commit : Told → TransactionRecord → Committed
told_commit told t = record {
  session = t.seat;
  number = t.number;
  begin = t.begin;
  stamp = t.stamp;
  succ = t.succ;
  pred = t.pred;
  steps = told t.seat t.number;
}

abbrev pub told_commits : Told → History → List Committed
told_commits told h = map (told_commit told) h

-- The equivalent serial run: in this order the commits' operations, one transaction after another from the opening's map, are
-- answered as they were told, and end in the map of the rows that the commits leave, which are sound.
pub record RunsAsOperations (v : View) (told : Told) (order : History) : Type 0 where
  pub serial : IsSerialOrder committed.rank_of (told_commits told (history_of v)) (told_commits told order)
  pub run : RunsInOrder (told_commits told order) (map_of_rows v.opening.rows) (map_of_rows (rows_after order v.opening.rows))
  pub sound : IsSound (rows_after order v.opening.rows)

-- The rows that the commits below a stamp leave are sound, and stand for the state below it.
pub record StandsBelow (v : View) (told : Told) (bound : ℕ) (order : History) : Type 0 where
  pub sound : IsSound (rows_after order v.opening.rows)
  pub state : IsStateBelow (told_commits told (history_of v)) (map_of_rows v.opening.rows) bound (map_of_rows (rows_after order v.opening.rows))

-- each transaction's replies, whether it commits or not, are snapshot replies
abbrev pub RepliesAreSnapshots : View → Told → Type 0
RepliesAreSnapshots v told = (seat : ℕ) (w : Work) → IsSession v seat → Has v seat w
    → HasSnapshotReplies (told_commits told (history_of v)) (map_of_rows v.opening.rows) w.begin (told seat w.number)
