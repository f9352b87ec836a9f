-- What a transaction over rows means to its caller: which arrays of rows it may have begun on, what it sees, and what
-- each call does to that. Nothing here knows how rows and versions are kept. The definitions are this project's own.
use Rattle.std.specs.Prelude.{◌≡◌, ℕ, ◌+◌, ◌<◌, ◌≤◌, ◌⊎◌, ◌↔◌, ◌==◌, if◌then◌else◌, Bool, true, false, List, [], ◌∷◌}
use Rattle.erm_model.specs.declared.row_stop.RowStop.{RowStop}
use Rattle.erm_model.specs.declared.row_stop.RowStop.TheVariants.{NotYet, ReadsFull, Owned, Newer, WritesFull, CellsFull, OidsFull, Excluded, Memory}
use Rattle.erm_model.specs.declared.limits.TheConstants.{OID_LIMIT}
use Rattle.erm_model.specs.InTurn.{in_turn}
use Rattle.erm_model.specs.Rows.{Rows, set_row}

-- what a call did: it read an object's row, claimed an object, set its row, or made a new one
pub data Event : Type 0 where
  did_read : ℕ → List ℕ → Event
  did_claim : ℕ → Event
  did_write : ℕ → List ℕ → Event
  did_make : ℕ → Event

-- the rows that a transaction sees after an event
abbrev pub after : Event → Rows → Rows
after (did_read oid row) rows = rows
after (did_claim oid) rows = rows
after (did_write oid row) rows = set_row rows oid row
after (did_make oid) rows = rows

-- the rows that it sees after events
abbrev pub after_all : List Event → Rows → Rows
after_all events rows = in_turn after events rows

-- how often an event makes an object
abbrev pub made_by : Event → ℕ → ℕ
made_by (did_read oid row) x = 0
made_by (did_claim oid) x = 0
made_by (did_write oid row) x = 0
made_by (did_make oid) x = if x == oid then 1 else 0

-- how often events make an object
abbrev pub made_by_all : List Event → ℕ → ℕ
made_by_all [] x = 0
made_by_all (event ∷ events) x = made_by event x + made_by_all events x

-- the event claims the object: a write claims too
abbrev pub ClaimedBy : Event → ℕ → Type 0
ClaimedBy (did_read oid row) x = ⊥
ClaimedBy (did_claim oid) x = x ≡ oid
ClaimedBy (did_write oid row) x = x ≡ oid
ClaimedBy (did_make oid) x = ⊥

-- a law of rows: which arrays meet it, and how often such an array reaches an object
pub record Law : Type 1 where
  pub meets : Rows → Type 0
  pub reach : Rows → ℕ → ℕ

-- the law that every array meets, and by which it reaches nothing
abbrev pub any_law : Law
any_law = record { meets = λ _. Unit {0}; reach = λ _ _. 0 }

-- two laws say the same
pub record SameLaw (a b : Law) : Type 0 where
  pub meets : (rows : Rows) → a.meets rows ↔ b.meets rows
  pub reach : (rows : Rows) (x : ℕ) → a.reach rows x ≡ b.reach rows x

-- two arrays have the same row of each object that there may be
abbrev pub SameRows : Rows → Rows → Type 0
SameRows a b = (oid : ℕ) → oid < OID_LIMIT → a oid ≡ b oid

-- A law looks at the rows of the objects that there may be alone: of two arrays that have the same ones both meet it or neither
-- does, and where they do, both reach each object equally often.
pub record RespectsRows (law : Law) : Type 0 where
  pub meets : (a b : Rows) → SameRows a b → law.meets a ↔ law.meets b
  pub reach : (a b : Rows) (x : ℕ) → SameRows a b → law.meets a → law.reach a x ≡ law.reach b x

-- what an event tells: a read, that this is the row seen; a new object, that the array begun on doesn't reach it
abbrev pub Tells : Law → Event → Rows → Rows → Type 0
Tells law (did_read oid row) begun seen = seen oid ≡ row
Tells law (did_claim oid) begun seen = Unit {0}
Tells law (did_write oid row) begun seen = Unit {0}
Tells law (did_make oid) begun seen = law.reach begun oid ≡ 0

-- events tell what is so of an array begun on and the rows seen at first
abbrev pub TellsAll : Law → List Event → Rows → Rows → Type 0
TellsAll law [] begun seen = Unit {0}
TellsAll law (event ∷ events) begun seen = Tells law event begun seen × TellsAll law events begun (after event seen)

-- The array agrees with the events: it is what was read before the writes, and reaches no object that was made.
abbrev pub Agrees : Law → List Event → Rows → Type 0
Agrees law events array = TellsAll law events array array

-- what a call asked for: an object's row, to write an object, or a new object
pub data Asked : Type 0 where
  asked_read : ℕ → Asked
  asked_claim : ℕ → Asked
  asked_make : Asked

-- what a transaction means to its caller, by the states of the object that is called
pub record Face (S : Type 0) : Type 1 where
  -- the law of its rows
  pub law : Law
  -- it has begun and not ended: it may be called
  pub active : S → Type 0
  -- an array of rows on which it may have begun: it agrees with what was read and with the rows that claims found, and
  -- reaches no object that the transaction made
  pub fits : S → Rows → Type 0
  -- the rows that it sees, where it began on these: what it has written, laid over them
  pub rows : S → Rows → Rows
  -- how often it made an object
  pub made : S → ℕ → ℕ
  -- it has claimed the object
  pub claims : S → ℕ → Type 0
  -- it has read the object: the row that it found counts as read, and others may not change it behind its back
  pub reads : S → ℕ → Type 0
  -- a later state of the transaction, and of what else the object holds
  pub follows : S → S → Type 0
  -- in the first state a call was answered, of which this was the event, and it left the second
  pub answers : S → Event → S → Type 0
  -- in the first state a call that asked for this was refused so, and left the second
  pub stops : S → Asked → RowStop → S → Type 0

-- an event reads the object anew: the row of a claimed object is the transaction's own, and counts as no read
abbrev pub ReadBy : {S : Type 0} → Face S → S → Event → ℕ → Type 0
ReadBy face s (did_read oid row) x = (x ≡ oid) × (face.claims s oid → ⊥)
ReadBy face s (did_claim oid) x = ⊥
ReadBy face s (did_write oid row) x = ⊥
ReadBy face s (did_make oid) x = ⊥

-- one call's event
pub record Steps {S : Type 0} (face : Face S) (s : S) (event : Event) (t : S) : Type 0 where
  -- it is one call, that was answered: a call that was refused and one that was answered then are two
  pub answered : face.answers s event t
  -- no array fits now that didn't before
  pub fitted : (begun : Rows) → face.fits t begun → face.fits s begun
  -- the event tells what is so of each one that fits
  pub told : (begun : Rows) → face.fits t begun → Tells face.law event begun (face.rows s begun)
  -- the rows seen are those after the event
  pub seen : (begun : Rows) → face.fits t begun → face.rows t begun ≡ after event (face.rows s begun)
  -- what was made is counted, and no object is made twice
  pub made : (x : ℕ) → face.made t x ≡ face.made s x + made_by event x
  pub once : (x : ℕ) → face.made t x ≤ 1
  -- just the objects claimed before, and the event's
  pub claims : (x : ℕ) → face.claims t x ↔ (face.claims s x ⊎ ClaimedBy event x)
  -- just the objects read before, and the event's
  pub reads : (x : ℕ) → face.reads t x ↔ (face.reads s x ⊎ ReadBy face s event x)

-- nothing was read, claimed, written or made
pub record SameView {S : Type 0} (face : Face S) (s t : S) : Type 0 where
  pub fitted : (begun : Rows) → face.fits t begun → face.fits s begun
  pub seen : (begun : Rows) → face.fits t begun → face.rows t begun ≡ face.rows s begun
  pub made : (x : ℕ) → face.made t x ≡ face.made s x
  pub claims : (x : ℕ) → face.claims t x ↔ face.claims s x
  pub reads : (x : ℕ) → face.reads t x ↔ face.reads s x

-- Events in turn, and nothing between: no events leave the very state, so that no call was made, not even one that was refused.
abbrev pub Runs : {S : Type 0} → Face S → S → List Event → S → Type 0
Runs {S} face s [] t = t ≡ s
Runs {S} face s (event ∷ events) t = (u : S) × Steps face s event u × Runs face u events t

-- some array that meets the law fits
abbrev pub IsPossible : {S : Type 0} → Face S → S → Type 0
IsPossible face s = (begun : Rows) × face.law.meets begun × face.fits s begun

-- The transaction is lawful so far: on whatever array that meets the law it may have begun, the rows that it sees meet the
-- law, and reach besides only objects that it made.
abbrev pub IsLawful : {S : Type 0} → Face S → S → Type 0
IsLawful face s = (begun : Rows) → face.law.meets begun → face.fits s begun → face.law.meets (face.rows s begun) × ((x : ℕ) → face.law.reach (face.rows s begun) x ≤ face.law.reach begun x + face.made s x)

-- a call was answered: this is its event
pub record Does {S : Type 0} (face : Face S) (s : S) (event : Event) (t : S) : Type 0 where
  pub step : Steps face s event t
  pub active : face.active t
  pub possible : IsPossible face t
  pub follows : face.follows s t

-- the refusals that a read may have
abbrev pub StopsRead : RowStop → Type 0
StopsRead (NotYet seat seen) = Unit {0}
StopsRead ReadsFull = Unit {0}
StopsRead (Owned seat number) = ⊥
StopsRead (Newer stamp) = ⊥
StopsRead WritesFull = ⊥
StopsRead (CellsFull drawn) = ⊥
StopsRead (OidsFull drawn) = ⊥
StopsRead (Excluded succ pred) = Unit {0}
StopsRead Memory = Unit {0}

-- the refusals that a claim or a write may have
abbrev pub StopsClaim : RowStop → Type 0
StopsClaim (NotYet seat seen) = ⊥
StopsClaim ReadsFull = ⊥
StopsClaim (Owned seat number) = Unit {0}
StopsClaim (Newer stamp) = Unit {0}
StopsClaim WritesFull = Unit {0}
StopsClaim (CellsFull drawn) = Unit {0}
StopsClaim (OidsFull drawn) = ⊥
StopsClaim (Excluded succ pred) = Unit {0}
StopsClaim Memory = Unit {0}

-- the refusals that a call for a new object may have
abbrev pub StopsMake : RowStop → Type 0
StopsMake (NotYet seat seen) = ⊥
StopsMake ReadsFull = ⊥
StopsMake (Owned seat number) = ⊥
StopsMake (Newer stamp) = ⊥
StopsMake WritesFull = ⊥
StopsMake (CellsFull drawn) = ⊥
StopsMake (OidsFull drawn) = Unit {0}
StopsMake (Excluded succ pred) = ⊥
StopsMake Memory = Unit {0}

-- whether a refusal ends the transaction
abbrev pub ends : RowStop → Bool
ends (NotYet seat seen) = false
ends ReadsFull = false
ends (Owned seat number) = true
ends (Newer stamp) = true
ends WritesFull = false
ends (CellsFull drawn) = false
ends (OidsFull drawn) = false
ends (Excluded succ pred) = true
ends Memory = false

-- the transaction goes on after these events
pub record GoesOn {S : Type 0} (face : Face S) (s : S) (events : List Event) (t : S) : Type 0 where
  pub runs : Runs face s events t
  pub active : face.active t
  pub possible : IsPossible face t

-- a call that was refused left all as it was, and the transaction goes on
pub record Stays {S : Type 0} (face : Face S) (s t : S) : Type 0 where
  pub same : SameView face s t
  pub active : face.active t
  pub possible : IsPossible face t

-- One call that asked for this was refused, by a refusal that it may have: either that ends the transaction, or all is as it
-- was.
pub record IsRefused {S : Type 0} (face : Face S) (may : RowStop → Type 0) (s : S) (asked : Asked) (stop : RowStop) (t : S) : Type 0 where
  pub named : may stop
  pub stopped : face.stops s asked stop t
  pub follows : face.follows s t
  pub ended : ends stop ≡ true → face.active t → ⊥
  pub stays : ends stop ≡ false → Stays face s t

-- events of reading alone
abbrev pub OnlyReads : List Event → Type 0
OnlyReads [] = Unit {0}
OnlyReads (did_read oid row ∷ events) = OnlyReads events
OnlyReads (did_claim oid ∷ events) = ⊥
OnlyReads (did_write oid row ∷ events) = ⊥
OnlyReads (did_make oid ∷ events) = ⊥

-- events that set no row
abbrev pub WritesNothing : List Event → Type 0
WritesNothing [] = Unit {0}
WritesNothing (did_read oid row ∷ events) = WritesNothing events
WritesNothing (did_claim oid ∷ events) = WritesNothing events
WritesNothing (did_write oid row ∷ events) = ⊥
WritesNothing (did_make oid ∷ events) = WritesNothing events

-- Several calls were cut off by a refusal of the last, one that they may have, after events of this kind. What the last one
-- asked for is, on each array that meets the law and agrees with these events, one of the things that they ask for.
pub record IsStopped {S : Type 0} (face : Face S) (may : RowStop → Type 0) (kind : List Event → Type 0) (asks : List Event → Rows → Asked → Type 0) (s : S) (stop : RowStop) (t : S) : Type 0 where
  -- the events before the refusal, and the state that they left
  pub events : List Event
  pub of_kind : kind events
  pub at : S
  pub goes_on : GoesOn face s events at
  pub follows : face.follows s at
  -- what was refused
  pub asked : Asked
  pub asks_so : (array : Rows) → face.law.meets array → Agrees face.law events array → asks events array asked
  pub refused : IsRefused face may at asked stop t

-- Several calls saw a fact: their events are reads alone, and the fact is so of each array that meets the law and agrees
-- with them.
pub record Saw {S : Type 0} (face : Face S) (s t : S) (fact : Rows → Type 0) : Type 0 where
  pub events : List Event
  pub reads : OnlyReads events
  pub goes_on : GoesOn face s events t
  pub follows : face.follows s t
  pub saw : (array : Rows) → face.law.meets array → Agrees face.law events array → fact array

-- the rows after events meet the law where those before do, and reach besides only objects that the events made
pub record KeepsLaw (law : Law) (events : List Event) (array : Rows) : Type 0 where
  pub meets : law.meets (after_all events array)
  pub reach : (x : ℕ) → law.reach (after_all events array) x ≤ law.reach array x + made_by_all events x

-- Several calls changed the rows: of each array that meets the law and agrees with their events, the rows after these meet
-- the law too and are what the change says.
pub record Did {S : Type 0} (face : Face S) (s t : S) (change : Rows → Rows → Type 0) : Type 0 where
  pub events : List Event
  pub goes_on : GoesOn face s events t
  pub follows : face.follows s t
  pub lawful : (array : Rows) → face.law.meets array → Agrees face.law events array → KeepsLaw face.law events array
  pub did : (array : Rows) → face.law.meets array → Agrees face.law events array → change array (after_all events array)
