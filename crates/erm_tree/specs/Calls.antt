-- What calls of the tree ask of a transaction, and what they say of its events. This project's own.
use Rattle.std.specs.Prelude.{◌≡◌, ℕ, List, [], ◌∷◌, ◌++◌, map, length}
use Rattle.erm_model.specs.Rows.{Rows}
use Rattle.erm_model.specs.RowTransaction.{Event, did_read, did_claim, did_write, did_make, Asked, asked_read, asked_claim, asked_make, Law, Agrees, Face, IsPossible, IsLawful, GoesOn, OnlyReads, Saw, Did}

-- a transaction that tree calls may be made on: it is active, and lawful so far, on some array that meets the law
pub record IsReady {S : Type 0} (face : Face S) (s : S) : Type 0 where
  pub active : face.active s
  pub possible : IsPossible face s
  pub lawful : IsLawful face s

-- a fact of what the transaction sees, on any array that meets the law on which it may have begun
abbrev pub IsTold : {S : Type 0} → Face S → S → (Rows → Type 0) → Type 0
IsTold {S} face s fact = (begun : Rows) → face.law.meets begun → face.fits s begun → fact (face.rows s begun)

-- each object that events read is one of these
abbrev pub ReadsAre : (ℕ → Type 0) → List Event → Type 0
ReadsAre P [] = Unit {0}
ReadsAre P (did_read oid row ∷ events) = P oid × ReadsAre P events
ReadsAre P (did_claim oid ∷ events) = ReadsAre P events
ReadsAre P (did_write oid row ∷ events) = ReadsAre P events
ReadsAre P (did_make oid ∷ events) = ReadsAre P events

-- events are reads alone, and on each array that meets the law and agrees with them they are of these objects
pub record Reads (law : Law) (objects : Rows → ℕ → Type 0) (events : List Event) : Type 0 where
  pub only : OnlyReads events
  pub of : (array : Rows) → law.meets array → Agrees law events array → ReadsAre (objects array) events

-- several calls saw a fact by reads of these objects alone
pub record SawIn {S : Type 0} (face : Face S) (objects : Rows → ℕ → Type 0) (s t : S) (fact : Rows → Type 0) : Type 0 where
  pub saw : Saw face s t fact
  pub reads : Reads face.law objects saw.events

-- what a look for objects asks for: to read one of these
abbrev pub AsksReads : (Rows → ℕ → Type 0) → List Event → Rows → Asked → Type 0
AsksReads objects events rows (asked_read oid) = objects rows oid
AsksReads objects events rows (asked_claim oid) = ⊥
AsksReads objects events rows asked_make = ⊥

-- events are the first ones of others
abbrev pub IsPrefixOf : List Event → List Event → Type 0
IsPrefixOf whole events = (others : List Event) × (whole ≡ events ++ others)

-- events are the first ones of those by which so many objects are made
abbrev pub AreFirstMakes : ℕ → List Event → Type 0
AreFirstMakes count events = (made : List ℕ) × (length made ≡ count) × IsPrefixOf (map did_make made) events

-- what calls for so many new objects ask for: one more, while fewer were made
abbrev pub AsksMake : ℕ → List Event → Rows → Asked → Type 0
AsksMake count events rows (asked_read oid) = ⊥
AsksMake count events rows (asked_claim oid) = ⊥
AsksMake count events rows asked_make = (oid : ℕ) × AreFirstMakes count (events ++ did_make oid ∷ [])

-- what claims of the objects of these rows ask for: to claim the next one
abbrev pub AsksClaims : List (ℕ × List ℕ) → List Event → Rows → Asked → Type 0
AsksClaims entries events rows (asked_read oid) = ⊥
AsksClaims entries events rows (asked_claim oid) = IsPrefixOf (map (λ entry. did_claim entry.0) entries) (events ++ did_claim oid ∷ [])
AsksClaims entries events rows asked_make = ⊥

-- several calls changed the rows, and on each array that meets the law and agrees with their events, these are of this kind
pub record DidBy {S : Type 0} (face : Face S) (kind : Rows → List Event → Type 0) (s t : S) (change : Rows → Rows → Type 0) : Type 0 where
  pub did : Did face s t change
  pub by : (array : Rows) → face.law.meets array → Agrees face.law did.events array → kind array did.events

-- these events happened, and the transaction goes on
pub record Ran {S : Type 0} (face : Face S) (s : S) (events : List Event) (t : S) : Type 0 where
  pub goes_on : GoesOn face s events t
  pub follows : face.follows s t
