-- Each table has a tree of its own: what calls that change one table do to the trees of the others. This project's own.
use Rattle.std.specs.Prelude.{◌≡◌, ℕ, ◌+◌, ◌^◌, ◌<◌, ◌≤◌, ◌⊎◌, List, [], ◌∷◌, ◌++◌, Some}
use Rattle.std.specs.FinMap.{insert, remove}
use Rattle.erm_model.specs.declared.row_stop.RowStop.{RowStop}
use Rattle.erm_model.specs.declared.limits.TheConstants.{TABLES}
use Rattle.erm_model.specs.Database.{at}
use Rattle.erm_model.specs.Rows.{Rows}
use Rattle.erm_model.specs.RowTransaction.{Event, after_all, made_by_all, ClaimedBy, Asked, asked_read, asked_claim, asked_make, SameLaw, Agrees, Face, IsStopped, KeepsLaw}
use Rattle.erm_record.specs.Record.{absent_row, value_row}
use Rattle.erm_node.specs.Sound.{IsSound, sound_law, levels_of}
use Rattle.erm_node.specs.Tree.{times}
use Rattle.erm_node.specs.TreeMap.{map_of_rows, record_in, value_in}
use Rattle.erm_tree.specs.Calls.{DidBy}
use Rattle.erm_tree.specs.Change.{AsksDel, AsksPut, IsPrefix, IsPut, IsDel, StopsPut}
use Rattle.erm_tree.specs.Reads.{IsOnWay}

-- how often the tree of a table reaches an object
abbrev pub reached_by : Rows → ℕ → ℕ → ℕ
reached_by rows table x = times rows (levels_of rows table) table x

-- events that change one table leave another as it was
pub record KeepsOther (rows : Rows) (other : ℕ) (events : List Event) : Type 0 where
  -- its tree reaches what it reached
  pub reached : (x : ℕ) → reached_by (after_all events rows) other x ≡ reached_by rows other x
  -- each object that its tree reaches keeps its row
  pub same : (x : ℕ) → 0 < reached_by rows other x → after_all events rows x ≡ rows x
  -- each key has the record that it had, and the value
  pub records : (key : ℕ) → record_in (after_all events rows) other key ≡ record_in rows other key
  pub values : (key : ℕ) → value_in (after_all events rows) other key ≡ value_in rows other key
  -- its tree reaches no object that the events made
  pub made : (x : ℕ) → 0 < made_by_all events x → reached_by (after_all events rows) other x ≡ 0

-- events change one table alone: the others stay, and its own tree reaches besides only objects that the events made
pub record KeepsTables (rows : Rows) (table : ℕ) (events : List Event) : Type 0 where
  pub others : (other : ℕ) → other < TABLES → (other ≡ table → ⊥) → KeepsOther rows other events
  pub grows : (x : ℕ) → reached_by (after_all events rows) table x ≤ reached_by rows table x + made_by_all events x

-- Events of this kind change one table alone, wherever sound rows agree with them and they keep the law, as those of each call do.
abbrev pub ChangesOne : (Rows → ℕ → ℕ → List ℕ → List Event → Type 0) → Type 0
ChangesOne kind =
    (rows : Rows) (table key : ℕ) (row : List ℕ) (events : List Event) → IsSound rows → Agrees sound_law events rows → KeepsLaw sound_law events rows → table < TABLES → key < 2 ^ 64
    → kind rows table key row events → KeepsTables rows table events

-- Tables stand apart: a put changes one table alone, and so does a del.
abbrev pub TablesStandApart : Type 0
TablesStandApart = ChangesOne IsPut × ChangesOne IsDel

-- calls that did this changed one table alone, on each array that meets the law and agrees with their events
abbrev pub CallsChangeOne : {S : Type 0} → Face S → (Rows → List Event → Type 0) → (Rows → Rows → Type 0) → ℕ → Type 0
CallsChangeOne {S} face kind change table =
    (s t : S) (done : DidBy face kind s t change) (array : Rows) → face.law.meets array → Agrees face.law done.did.events array → KeepsTables array table done.did.events

-- each put of a transaction over sound rows did so
abbrev pub PutsChangeOne : {S : Type 0} → Face S → Type 0
PutsChangeOne face =
    SameLaw face.law sound_law → (table key : ℕ) (value : List ℕ) → table < TABLES → key < 2 ^ 64
    → CallsChangeOne face (λ rows events. IsPut rows table key (value_row value) events) (λ old new. map_of_rows new ≡ insert (map_of_rows old) (at table key) value) table

-- and each del
abbrev pub DelsChangeOne : {S : Type 0} → Face S → Type 0
DelsChangeOne face =
    SameLaw face.law sound_law → (table key : ℕ) → table < TABLES → key < 2 ^ 64
    → CallsChangeOne face (λ rows events. IsDel rows table key absent_row events) (λ old new. map_of_rows new ≡ remove (map_of_rows old) (at table key)) table

-- no object is in the trees of two tables
abbrev pub ObjectsHaveOneTable : Type 0
ObjectsHaveOneTable = (rows : Rows) (table other x : ℕ) → IsSound rows → table < TABLES → other < TABLES → (other ≡ table → ⊥) → 0 < reached_by rows table x → reached_by rows other x ≡ 0

-- the root of another table is on the way to no key
abbrev pub OtherRootsAreOffWay : Type 0
OtherRootsAreOffWay = (rows : Rows) (table other key : ℕ) → IsSound rows → table < TABLES → other < TABLES → (other ≡ table → ⊥) → IsOnWay table key rows other → ⊥

-- and so is no object that is the record of a key
abbrev pub RecordsAreOffWay : Type 0
RecordsAreOffWay = (rows : Rows) (table key other other_key oid : ℕ) → IsSound rows → table < TABLES → other < TABLES → record_in rows other other_key ≡ Some oid → IsOnWay table key rows oid → ⊥

-- the tree of a table reaches each of these objects
abbrev pub AreReached : (Rows → ℕ → Type 0) → ℕ → Type 0
AreReached objects table = (rows : Rows) (x : ℕ) → objects rows x → 0 < reached_by rows table x

-- some of these events claims the object
abbrev pub AreClaiming : List Event → ℕ → Type 0
AreClaiming [] x = ⊥
AreClaiming (event ∷ events) x = ClaimedBy event x ⊎ AreClaiming events x

-- an object of a table: its tree reaches it, or these events made it
abbrev pub IsOwn : Rows → ℕ → List Event → ℕ → Type 0
IsOwn rows table events x = 0 < reached_by rows table x + made_by_all events x

-- The first events of a put, or all, claim only objects of its table.
abbrev pub PutsClaimOwn : Type 0
PutsClaimOwn =
    (rows : Rows) (table key : ℕ) (row : List ℕ) (events others : List Event) → IsSound rows → table < TABLES → key < 2 ^ 64
    → IsPut rows table key row (events ++ others) → (x : ℕ) → AreClaiming events x → IsOwn rows table events x

-- a del claims only what its table's tree reaches
abbrev pub DelsClaimOwn : Type 0
DelsClaimOwn = (rows : Rows) (table key : ℕ) (row : List ℕ) (events : List Event) → IsDel rows table key row events → (x : ℕ) → AreClaiming events x → 0 < reached_by rows table x

-- What was asked for is of this table: an object to read its tree reaches, and one to claim it reaches or these events made.
abbrev pub IsOwnAsked : Rows → ℕ → List Event → Asked → Type 0
IsOwnAsked rows table events (asked_read oid) = 0 < reached_by rows table oid
IsOwnAsked rows table events (asked_claim oid) = IsOwn rows table events oid
IsOwnAsked rows table events asked_make = Unit {0}

-- what a put asks for is of its table
abbrev pub PutsAskOwn : Type 0
PutsAskOwn =
    (rows : Rows) (table key : ℕ) (row : List ℕ) (events : List Event) (asked : Asked) → IsSound rows → table < TABLES → key < 2 ^ 64
    → AsksPut table key row events rows asked → IsOwnAsked rows table events asked

-- and so is what a del asks for, which makes no object
abbrev pub DelsAskOwn : Type 0
DelsAskOwn = (rows : Rows) (table key : ℕ) (events : List Event) (asked : Asked) → AsksDel table key events rows asked → IsOwnAsked rows table [] asked

-- A call that was refused claimed only objects of this table, and what it asked for is of it too: so on each array that meets the
-- law and agrees with its events.
abbrev pub RefusedStaysIn : {S : Type 0} → Face S → (RowStop → Type 0) → (List Event → Type 0) → (List Event → Rows → Asked → Type 0) → ℕ → Type 0
RefusedStaysIn {S} face may kind asks table =
    (s t : S) (stop : RowStop) (stopped : IsStopped face may kind asks s stop t) (array : Rows) → face.law.meets array → Agrees face.law stopped.events array
    → ((x : ℕ) → AreClaiming stopped.events x → IsOwn array table stopped.events x) × IsOwnAsked array table stopped.events stopped.asked

-- each refused put of a transaction over sound rows stays so in its table
abbrev pub RefusedPutsStayIn : {S : Type 0} → Face S → Type 0
RefusedPutsStayIn face =
    SameLaw face.law sound_law → (table key : ℕ) (value : List ℕ) → table < TABLES → key < 2 ^ 64
    → RefusedStaysIn face StopsPut (IsPrefix face.law (IsOnWay table key) (λ rows events. IsPut rows table key (value_row value) events)) (AsksPut table key (value_row value)) table
