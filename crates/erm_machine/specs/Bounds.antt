-- Bounds: how far a call in progress may have come, and whom it looks at.
use Rattle.std.specs.Int.{bit_at}
use Rattle.std.specs.Prelude.{◌≡◌, ◌≢◌, ℕ, ◌+◌, ◌-◌, ◌<◌, ◌≤◌, true, length}
use Rattle.erm_model.specs.declared.TheConstants.{ROW_WORDS}
use Rattle.erm_model.specs.Member.{◌∈◌}
use Rattle.erm_machine.specs.declared.limits.TheConstants.{ANNOUNCERS, SESSIONS}
use Rattle.erm_machine.specs.declared.attempt.Attempt.{Attempt}
use Rattle.erm_machine.specs.declared.part.Part.{Part}
use Rattle.erm_machine.specs.declared.place.Place.{Place}
use Rattle.erm_machine.specs.declared.place.Place.TheVariants.{Decided, Leaving}
use Rattle.erm_machine.specs.declared.task.Task.{Task}
use Rattle.erm_machine.specs.declared.task.Task.TheVariants as task
use Rattle.erm_machine.specs.Words.{is_seat}

-- another seat that has words
pub record IsOther (seat other : ℕ) : Type 0 where
  pub another : other ≢ seat
  pub has_words : is_seat other ≡ true

-- A call looks at other seats that have words, and at the versions and claims of its transaction; of a row it has come to one
-- of its words.
abbrev pub IsBounded : ℕ → Attempt → Task → Type 0
IsBounded seat t (task.Owned oid owner) = IsOther seat owner
IsBounded seat t (task.Horizon version least next) = next < ANNOUNCERS
IsBounded seat t (task.Surveys next) = (0 < next) × (next ≤ SESSIONS)
IsBounded seat t (task.Behind next) = (next ≢ seat) × (0 < next) × (next ≤ SESSIONS)
IsBounded seat t (task.Copies word) = (0 < length t.writes) × (word < ROW_WORDS)
IsBounded seat t (task.Writes claim word) = (claim < length t.writes) × (word < ROW_WORDS)
IsBounded seat t (task.Settles reads writes) = (reads ≤ length t.reads) × (writes ≤ length t.writes) × (0 < writes → reads ≡ length t.reads)
IsBounded seat t (task.ReadOwned read owner) = (read < length t.reads) × IsOther seat owner
IsBounded seat t (task.ReadClear read) = read < length t.reads
IsBounded seat t (task.ReadOvertaken read overwriter) = read < length t.reads
IsBounded seat t (task.ReadersLeft write bits) = (write < length t.writes) × (0 < bits) × ((q : ℕ) → bit_at bits q ≡ 1 → IsOther seat q)
IsBounded seat t (task.WriteClear write) = write < length t.writes
IsBounded seat t (task.WriteMade write) = write < length t.writes
IsBounded seat t (task.Fills words) = words < t.size
IsBounded seat t (task.Ends raised ended step cleared) = (raised ≤ length t.reads) × (ended ≤ length t.writes) × (cleared ≤ length t.reads)
IsBounded seat t _ = Unit {0}

-- how many words of its block behind the header a transaction has stored
abbrev pub words_stored : Place → Task → ℕ → ℕ
words_stored (Decided tail stamp) u size = size - 1
words_stored (Leaving stamp) u size = size - 1
words_stored p (task.Fills words) size = words
words_stored p u size = 0

-- A seat's call in progress, the words of the log that its transactions have stored, and the tail that it has seen, which is
-- at or above its begin and its commit stamp.
pub record OwnBounds (seat : ℕ) (x : Part) : Type 0 where
  pub bounded : IsBounded seat x.current x.task
  pub stored : length x.current.block ≡ words_stored x.place x.task x.current.size
  pub blocks : (t : Attempt) → t ∈ x.over → 0 < t.stamp → length t.block + 1 ≡ t.size
  pub begin_seen : x.current.begin ≤ x.seen
  pub stamp_seen : x.current.stamp ≤ x.seen
