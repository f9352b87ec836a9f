-- The steps of a read and of a claim, the last one first, with the words that they found, and the books in between.
use Rattle.std.specs.Prelude.{◌≡◌, ◌≢◌, ◌⊎◌, ℕ, ◌<◌, ◌≤◌, List, [], ◌∷◌, length}
use Rattle.erm_model.specs.declared.row_stop.RowStop.{RowStop}
use Rattle.erm_model.specs.declared.row_stop.RowStop.TheVariants as stop
use Rattle.erm_model.specs.RowTransaction.{Law}
use Rattle.erm_machine.specs.declared.event.Kind.TheVariants.{Claim, Install, LoadCell, LoadEntry, SetReader}
use Rattle.erm_machine.specs.declared.limits.TheConstants.{ANNOUNCERS, READ_LIMIT, WRITE_LIMIT}
use Rattle.erm_machine.specs.declared.version.CellWord.TheVariants.{Stamp}
use Rattle.erm_machine.specs.declared.version.VersionAt.{VersionAt}
use Rattle.erm_machine.specs.Core.{Core}
use Rattle.erm_machine.specs.Sound.{Sound}
use Rattle.erm_machine.specs.Words.{head_of, number_of, owner_of}
use Rattle.erm_rule.specs.declared.view.Book.{Book}
use Rattle.erm_rule.specs.declared.view.View.{View}
use Rattle.erm_rule.specs.Steps.{Booked}
use Rattle.erm_rule.specs.Views.{part_of, IsView}
use Rattle.erm_rule.specs.Went.{Took, Went, IsLoadStep}
use Rattle.erm_cells.specs.Hands.{rated_kind}
use Rattle.erm_cells.specs.Spare.{spare_cells}
use Rattle.erm_cells.specs.Took.{TookCopy, TookDraw, TookNoCount}
use Rattle.erm_cut.specs.Took.{TookCut, TookHorizon}
use Rattle.erm_entries.specs.Took.{TookReach, TookWait}
use Rattle.erm_rows.specs.Reads.{IsClosed}
use Rattle.erm_rows.specs.Claims.{DidCutChain}

-- the begin stamp of the seat's transaction
abbrev pub begin_in : Book → ℕ → ℕ
begin_in b who = (part_of b.view who).current.begin

-- In every sound state in which the view's seats have its parts the exclusion window known so far is closed, by these commits.
abbrev pub IsClosedIn : View → (who succ pred : ℕ) → Type 0
IsClosedIn w who succ pred = (c : Core) → Sound c → IsView w c → IsClosed c who succ pred

-- READ. The version that is to be read was found; then the own bit was set among its readers, and what remains is loads.
pub record TookVersion (law : Law) (who : ℕ) (b e : Book) : Type 0 where
  pub found : Book
  pub walk : Went law who IsLoadStep b found
  pub version : VersionAt
  pub word : ℕ
  pub registered : Book
  pub step : Booked law found who (SetReader version) word registered
  pub rest : Went law who IsLoadStep registered e

-- The head of an object's chain was reached, and from there a version was read.
pub record TookRead (law : Law) (who oid : ℕ) (b e : Book) : Type 0 where
  pub entry : ℕ
  pub reached : Book
  pub reach : TookReach law who oid (begin_in b who) entry b reached
  pub read : TookVersion law who reached e

-- the steps of a read that is refused
abbrev pub TookNotRead : Law → (who oid : ℕ) → RowStop → Book → Book → Type 0
TookNotRead law who oid (stop.NotYet seat seen) b e =
    (length (part_of b.view who).current.reads < READ_LIMIT) × TookWait law who oid (begin_in b who) (record { seat = seat; seen = seen }) b e
TookNotRead law who oid (stop.Excluded succ pred) b e = TookRead law who oid b e × IsClosedIn e.view who succ pred
TookNotRead law who oid stop.ReadsFull b e = e ≡ b
TookNotRead law who oid _ b e = ⊥

-- TAKE. The object's entry was loaded, which nobody owned, and then the stamp of the version at its head.
pub record TookHead (law : Law) (who oid entry stamp : ℕ) (b e : Book) : Type 0 where
  pub version : VersionAt
  pub unowned : owner_of entry ≡ 0
  pub took : Took law who ((LoadCell version Stamp, stamp) ∷ (LoadEntry oid, entry) ∷ []) b e

-- The stamp is below the begin stamp.
pub record TookFree (law : Law) (who oid entry : ℕ) (b e : Book) : Type 0 where
  pub stamp : ℕ
  pub below : stamp < begin_in b who
  pub head : TookHead law who oid entry stamp b e

-- The last step found an entry that another transaction owns.
pub record IsOwnedBy (entry seat number : ℕ) : Type 0 where
  pub seat_is : owner_of entry ≡ seat
  pub number_is : number_of entry ≡ number

-- no head was found that may be claimed: the entry loaded has an owner, or the stamp loaded isn't below the begin stamp
abbrev pub TookNotFree : Law → (who oid : ℕ) → RowStop → Book → Book → Type 0
TookNotFree law who oid (stop.Owned seat number) b e = (entry : ℕ) × IsOwnedBy entry seat number × Took law who ((LoadEntry oid, entry) ∷ []) b e
TookNotFree law who oid (stop.Newer stamp) b e = (entry : ℕ) × (begin_in b who ≤ stamp) × TookHead law who oid entry stamp b e
TookNotFree law who oid _ b e = ⊥

-- the exchange of the entry seen met another one, which has an owner, or whose head's stamp was loaded then
abbrev pub TookOther : Law → (who oid seen number : ℕ) → RowStop → Book → Book → Type 0
TookOther law who oid seen number (stop.Owned seat owner) b e = (entry : ℕ) × (entry ≢ seen) × IsOwnedBy entry seat owner × Took law who ((Claim oid seen number, entry) ∷ []) b e
TookOther law who oid seen number (stop.Newer stamp) b e =
    (entry : ℕ) × (entry ≢ seen) × (owner_of entry ≡ 0) × (version : VersionAt) × Took law who ((LoadCell version Stamp, stamp) ∷ (Claim oid seen number, entry) ∷ []) b e
TookOther law who oid seen number _ b e = ⊥

-- The entry was exchanged, once a head was found that may be claimed.
pub record TookEntry (law : Law) (who oid head : ℕ) (b e : Book) : Type 0 where
  pub entry : ℕ
  pub number : ℕ
  pub head_is : head_of entry ≡ head
  pub at : Book
  pub free : TookFree law who oid entry b at
  pub step : Booked law at who (Claim oid entry number) entry e

-- A head was found that may be claimed, and then the exchange met another entry. In a pass that has all seats this can't be.
pub record TookMissed (law : Law) (who oid : ℕ) (why : RowStop) (b e : Book) : Type 0 where
  pub entry : ℕ
  pub number : ℕ
  pub at : Book
  pub free : TookFree law who oid entry b at
  pub other : TookOther law who oid entry number why at e

-- the steps of a claim whose entry isn't taken
abbrev pub TookNoEntry : Law → (who oid : ℕ) → RowStop → Book → Book → Type 0
TookNoEntry law who oid stop.WritesFull b e = e ≡ b
TookNoEntry law who oid why b e =
    (length (part_of b.view who).current.writes < WRITE_LIMIT) × (TookNotFree law who oid why b e ⊎ TookMissed law who oid why b e)

-- CUT. The horizon was found, and the chain cut by it: so many cells became spare ones.
pub record TookCutChain (law : Law) (who count : ℕ) (b e : Book) : Type 0 where
  pub horizon : ℕ
  pub at : Book
  pub found : TookHorizon law who ANNOUNCERS horizon b at
  pub cut : TookCut law who count at e
  pub did : DidCutChain b.view who count e.view

-- FILL. This cell was drawn, then this reader stamp loaded of the version overwritten, and then its row, this one, copied into the cell.
pub record TookFill (law : Law) (who own readers : ℕ) (row : List ℕ) (b e : Book) : Type 0 where
  pub drawn : Book
  pub draw : TookDraw law who (spare_cells (part_of b.view who)) own b drawn
  pub rated : Book
  pub rate : Booked law drawn who (rated_kind (part_of drawn.view who)) readers rated
  pub copy : TookCopy law who own row rated e

-- CLAIM. The entry was taken, and the chain cut, by which so many cells became spare ones; then the claim got its cell.
pub record TookClaim (law : Law) (who oid count : ℕ) (b e : Book) : Type 0 where
  pub head : ℕ
  pub taken : Book
  pub entry : TookEntry law who oid head b taken
  pub tidied : Book
  pub cut : TookCutChain law who count taken tidied
  pub own : ℕ
  pub readers : ℕ
  pub row : List ℕ
  pub fill : TookFill law who own readers row tidied e

-- There was no cell: the counter was found at this number, and the entry got its old head back.
pub record TookNoCell (law : Law) (who oid head drawn : ℕ) (b e : Book) : Type 0 where
  pub refused : Book
  pub count : TookNoCount law who drawn b refused
  pub word : ℕ
  pub step : Booked law refused who (Install oid head) word e

-- The entry was taken, and the chain cut, but there was no cell.
pub record TookLack (law : Law) (who oid drawn : ℕ) (b e : Book) : Type 0 where
  pub head : ℕ
  pub count : ℕ
  pub taken : Book
  pub entry : TookEntry law who oid head b taken
  pub tidied : Book
  pub cut : TookCutChain law who count taken tidied
  pub none : TookNoCell law who oid head drawn tidied e

-- the steps of a claim that is refused
abbrev pub TookNoClaim : Law → (who oid : ℕ) → RowStop → Book → Book → Type 0
TookNoClaim law who oid (stop.CellsFull drawn) b e = TookLack law who oid drawn b e
TookNoClaim law who oid (stop.Excluded succ pred) b e = (count : ℕ) × TookClaim law who oid count b e × IsClosedIn e.view who succ pred
TookNoClaim law who oid why b e = TookNoEntry law who oid why b e
