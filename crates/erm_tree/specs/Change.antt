-- The events of the calls that change a table. This project's own.
use Rattle.std.specs.Prelude.{◌≡◌, ℕ, suc, ◌≤◌, ◌⊎◌, Some, List, [], ◌∷◌, ◌++◌, map, length, MatchOption}
use Rattle.erm_model.specs.declared.row_stop.RowStop.{RowStop}
use Rattle.erm_model.specs.Rows.{Rows}
use Rattle.erm_model.specs.RowTransaction.{Event, did_read, did_claim, did_write, did_make, Asked, asked_read, asked_claim, asked_make, Law, Agrees, Face, IsLawful, IsStopped, OnlyReads, WritesNothing, StopsRead, StopsClaim, StopsMake}
use Rattle.erm_node.specs.Sound.{levels_of}
use Rattle.erm_node.specs.TreeMap.{record_in}
use Rattle.erm_model.specs.declared.limits.TheConstants.{PUT_OBJECTS, PUT_ROWS}
use Rattle.erm_tree.specs.Calls.{ReadsAre}
use Rattle.erm_tree.specs.Insert.{path_to, new_rows, objects_for}
use Rattle.erm_tree.specs.Reads.{IsOnWay}

-- events are reads of these objects, and then others
pub record AreReadsThen (objects : ℕ → Type 0) (others events : List Event) : Type 0 where
  pub reads : List Event
  pub only : OnlyReads reads
  pub of : ReadsAre objects reads
  pub split : events ≡ reads ++ others

-- all of these objects are made, then these rows' objects are claimed, then these rows are set
abbrev pub makes_claims_writes : List ℕ → List (ℕ × List ℕ) → List Event
makes_claims_writes made rows = map did_make made ++ (map (λ entry. did_claim entry.0) rows ++ map (λ entry. did_write entry.0 entry.1) rows)

-- a new key was put into a table, its record having this row
pub record IsPutOfNew (rows : Rows) (table key : ℕ) (row : List ℕ) (events : List Event) : Type 0 where
  pub made : List ℕ
  pub many : length made ≡ objects_for (path_to rows (levels_of rows table) table key)
  pub then_all : AreReadsThen (IsOnWay table key rows) (makes_claims_writes made (new_rows made key row (path_to rows (levels_of rows table) table key))) events

-- a key was put into a table: where it has an entry, its record's row was set alone
abbrev pub IsPut : Rows → ℕ → ℕ → List ℕ → List Event → Type 0
IsPut rows table key row events =
    MatchOption (record_in rows table key) (IsPutOfNew rows table key row events) (λ oid. AreReadsThen (IsOnWay table key rows) (did_write oid row ∷ []) events)

-- a key's value was taken away: where it has an entry, its record's row was set alone, and else nothing was claimed
abbrev pub IsDel : Rows → ℕ → ℕ → List ℕ → List Event → Type 0
IsDel rows table key row events =
    MatchOption (record_in rows table key) (AreReadsThen (IsOnWay table key rows) [] events) (λ oid. AreReadsThen (IsOnWay table key rows) (did_write oid row ∷ []) events)

-- Events of a call that was cut off: they set no row, and on each array that meets the law and agrees with them they read these
-- objects and are the first ones of a whole call's.
pub record IsPrefix (law : Law) (objects : Rows → ℕ → Type 0) (whole : Rows → List Event → Type 0) (events : List Event) : Type 0 where
  pub none : WritesNothing events
  pub of : (array : Rows) → law.meets array → Agrees law events array → ReadsAre (objects array) events
  pub rest : (array : Rows) → law.meets array → Agrees law events array → (others : List Event) × whole array (events ++ others)

-- what a del asks for: to read a node on the way to the key, and to write its record
abbrev pub AsksDel : ℕ → ℕ → List Event → Rows → Asked → Type 0
AsksDel table key events rows (asked_read oid) = IsOnWay table key rows oid
AsksDel table key events rows (asked_claim oid) = record_in rows table key ≡ Some oid
AsksDel table key events rows asked_make = ⊥

-- What a put of this row asks for: after reads alone, to read a node on the way to the key; to write the key's record; or else what
-- a whole put does next, which is to make an object or to claim one.
abbrev pub AsksPut : ℕ → ℕ → List ℕ → List Event → Rows → Asked → Type 0
AsksPut table key row events rows (asked_read oid) = OnlyReads events × IsOnWay table key rows oid
AsksPut table key row events rows (asked_claim oid) =
    (record_in rows table key ≡ Some oid) ⊎ ((others : List Event) × IsPut rows table key row (events ++ did_claim oid ∷ others))
AsksPut table key row events rows asked_make = (oid : ℕ) × (others : List Event) × IsPut rows table key row (events ++ did_make oid ∷ others)

-- the refusals that a read, a claim or a write may have
abbrev pub StopsChange : RowStop → Type 0
StopsChange stop = StopsRead stop ⊎ StopsClaim stop

-- the refusals that a read, a claim, a write or a call for a new object may have
abbrev pub StopsPut : RowStop → Type 0
StopsPut stop = StopsChange stop ⊎ StopsMake stop

-- how many objects events make
abbrev pub count_makes : List Event → ℕ
count_makes [] = 0
count_makes (did_read oid row ∷ events) = count_makes events
count_makes (did_claim oid ∷ events) = count_makes events
count_makes (did_write oid row ∷ events) = count_makes events
count_makes (did_make oid ∷ events) = suc (count_makes events)

-- how many times events claim an object, other than by setting its row
abbrev pub count_claims : List Event → ℕ
count_claims [] = 0
count_claims (did_read oid row ∷ events) = count_claims events
count_claims (did_claim oid ∷ events) = suc (count_claims events)
count_claims (did_write oid row ∷ events) = count_claims events
count_claims (did_make oid ∷ events) = count_claims events

-- how many times events set a row
abbrev pub count_writes : List Event → ℕ
count_writes [] = 0
count_writes (did_read oid row ∷ events) = count_writes events
count_writes (did_claim oid ∷ events) = count_writes events
count_writes (did_write oid row ∷ events) = suc (count_writes events)
count_writes (did_make oid ∷ events) = count_writes events

-- events make at most so many objects, claim at most so many times and set at most so many rows
pub record AreFew (events : List Event) : Type 0 where
  pub makes : count_makes events ≤ PUT_OBJECTS
  pub claims : count_claims events ≤ PUT_ROWS
  pub writes : count_writes events ≤ PUT_ROWS

-- the events of a put are few, and so are the first ones of them
abbrev pub PutsAreBounded : Type 0
PutsAreBounded = (rows : Rows) (table key : ℕ) (row : List ℕ) (events others : List Event) → IsPut rows table key row (events ++ others) → AreFew events

-- and so are those of a put that was refused
abbrev pub RefusedPutsAreBounded : {S : Type 0} → Face S → Type 0
RefusedPutsAreBounded {S} face =
    (table key : ℕ) (row : List ℕ) (s t : S) (stop : RowStop) → IsLawful face s
    → (stopped : IsStopped face StopsPut (IsPrefix face.law (IsOnWay table key) (λ rows events. IsPut rows table key row events)) (AsksPut table key row) s stop t) → AreFew stopped.events
