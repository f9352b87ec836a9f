-- What a claim leaves of a pass's view, and why it is refused.
use Rattle.std.specs.Prelude.{◌≡◌, ◌≢◌, ◌⊎◌, ℕ, ◌<◌, ◌≤◌, false, List, [], ◌∷◌, ◌++◌, length, Some}
use Rattle.erm_model.specs.declared.limits.TheConstants.{TABLE_CELLS, WRITE_LIMIT}
use Rattle.erm_model.specs.declared.row_stop.RowStop.{RowStop}
use Rattle.erm_model.specs.declared.row_stop.RowStop.TheVariants as stop
use Rattle.erm_machine.specs.declared.attempt.Claim.{Claim}
use Rattle.erm_machine.specs.declared.attempt.OwnCell.{OwnCell}
use Rattle.erm_machine.specs.declared.part.Part.{Part}
use Rattle.erm_machine.specs.declared.task.Task.{Task}
use Rattle.erm_machine.specs.declared.task.Task.TheVariants as task
use Rattle.erm_machine.specs.declared.version.VersionAt.{VersionAt}
use Rattle.erm_machine.specs.Bounds.{IsOther}
use Rattle.erm_machine.specs.Core.{claim_at, version_at}
use Rattle.erm_machine.specs.Reading.{after_cut, new_claim}
use Rattle.erm_machine.specs.Seat.{last_claim, with_claim, with_pred, with_task}
use Rattle.erm_machine.specs.Words.{claimed, head_of, number_of, owner_of}
use Rattle.erm_rule.specs.declared.view.Book.{Book}
use Rattle.erm_rule.specs.Books.{WasSeen}
use Rattle.erm_rule.specs.declared.view.View.{View}
use Rattle.erm_rule.specs.Hands.{IsKnown}
use Rattle.erm_rule.specs.Views.{part_of, with_part}
use Rattle.erm_cells.specs.Calls.{DidLose, DidWalk, taken_part}
use Rattle.erm_cells.specs.Rows.{newest_base}
use Rattle.erm_cells.specs.Spare.{DidRefuse}
use Rattle.erm_entries.specs.Calls.{IsEntry}
use Rattle.erm_entries.specs.Ends.{HasFreeHead, unclaimed_part}
use Rattle.erm_cut.specs.Calls.{DidCut, DidHorizon}
use Rattle.erm_rows.specs.declared.claiming.Filled.{Filled}
use Rattle.erm_rows.specs.Reads.{IsClosed}

-- The head of an object's chain may be claimed: nobody owns the entry, and the head's stamp is below the begin stamp.
pub record DidFindFree (v : View) (who oid entry : ℕ) (w : View) : Type 0 where
  pub stamp : ℕ
  pub walk : DidWalk v who oid entry stamp w
  pub below : stamp < (part_of v who).current.begin

-- Another seat's transaction, of this number, owns the entry.
pub record DidMeetOwner (v : View) (who oid seat number : ℕ) (w : View) : Type 0 where
  pub entry : ℕ
  pub owner_is : owner_of entry ≡ seat
  pub number_is : number_of entry ≡ number
  pub other : IsOther who seat
  pub view_is : w ≡ with_part who (with_task (task.Owned oid seat) (part_of v who)) v
  pub known : IsKnown w
  pub met : IsEntry w known oid entry

-- The head's stamp isn't below the begin stamp.
pub record DidMeetNewer (v : View) (who oid stamp : ℕ) (w : View) : Type 0 where
  pub entry : ℕ
  pub walk : DidWalk v who oid entry stamp w
  pub newer : (part_of v who).current.begin ≤ stamp

-- An entry with another head than the one seen, which nobody owns, was met by the exchange: that head's stamp is told, which isn't below
-- the begin stamp.
pub record DidMeetOtherHead (v : View) (who oid seen stamp : ℕ) (w : View) : Type 0 where
  pub between : View
  pub entry : ℕ
  pub lost : DidLose v who oid seen entry between
  pub other : entry ≢ seen
  pub unowned : owner_of entry ≡ 0
  pub plain : entry ≡ head_of entry
  pub version : VersionAt
  pub oid_is : version.oid ≡ oid
  pub cell_is : version.cell ≡ head_of entry
  pub view_is : w ≡ with_part who (with_task (task.Passed version) (part_of v who)) v
  pub known : IsKnown w
  pub stamp_is : (version_at (known.core.shared.objects version.oid) version.place).words.stamp ≡ stamp
  pub newer : (part_of v who).current.begin ≤ stamp

-- A head that might be claimed was found, and then the exchange met another one.
pub record DidMissHead (v : View) (who oid stamp : ℕ) (w : View) : Type 0 where
  pub seen : ℕ
  pub first : View
  pub found : DidFindFree v who oid seen first
  pub lost : DidMeetOtherHead first who oid seen stamp w
  pub view_is : w ≡ with_part who (with_task (task.Passed lost.version) (part_of v who)) v
  pub newer : (part_of v who).current.begin ≤ stamp

-- why no head is found that may be claimed
abbrev pub DidNotFind : View → ℕ → ℕ → RowStop → View → Type 0
DidNotFind v who oid (stop.Owned seat number) w = DidMeetOwner v who oid seat number w
DidNotFind v who oid (stop.Newer stamp) w = DidMeetNewer v who oid stamp w
DidNotFind v who oid _ w = ⊥

-- why the exchange of the entry seen is lost
abbrev pub DidNotExchange : View → ℕ → ℕ → ℕ → RowStop → View → Type 0
DidNotExchange v who oid seen (stop.Owned seat number) w = DidMeetOwner v who oid seat number w
DidNotExchange v who oid seen (stop.Newer stamp) w = DidMeetOtherHead v who oid seen stamp w
DidNotExchange v who oid seen _ w = ⊥

-- The entry was taken: its newest claim is of this object and overwrites the version at the head, which is in this cell and below the
-- begin stamp.
pub record DidTakeEntry (v : View) (who oid head : ℕ) (w : View) : Type 0 where
  pub version : VersionAt
  pub stamp : ℕ
  pub base : List ℕ
  pub oid_is : version.oid ≡ oid
  pub cell_is : version.cell ≡ head
  pub below : stamp < (part_of v who).current.begin
  pub view_is : w ≡ with_part who (taken_part version stamp base (part_of v who)) v
  pub known : IsKnown w
  pub entry : IsEntry w known oid (claimed head who (part_of v who).current.number)

-- as many objects are claimed as may be, and nothing is changed
abbrev pub AreWritesFull : View → ℕ → View → Type 0
AreWritesFull v who w = (length (part_of v who).current.writes ≡ WRITE_LIMIT) × (w ≡ v)

-- Why an entry isn't taken: the claims are full, another seat owns the entry, or the head's stamp isn't below the begin stamp, be it the
-- head found or the one that the exchange met. There is no other cause.
abbrev pub DidNotTake : View → ℕ → ℕ → RowStop → View → Type 0
DidNotTake v who oid stop.WritesFull w = AreWritesFull v who w
DidNotTake v who oid (stop.Owned seat number) w = DidMeetOwner v who oid seat number w
DidNotTake v who oid (stop.Newer stamp) w = DidMeetNewer v who oid stamp w ⊎ DidMissHead v who oid stamp w
DidNotTake v who oid _ w = ⊥

-- CUT AND FILL. The entry of the newest claim is owned, and its head, which is in this cell, is in hand.
abbrev pub IsClaimedHead : Task → ℕ → Type 0
IsClaimedHead (task.Claimed version) head = version.cell ≡ head
IsClaimedHead t head = ⊥

-- the part of a seat that has cut a chain: it has seen this tail, and these cells became spare ones
abbrev pub tidied_part : ℕ → List OwnCell → Part → Part
tidied_part tail cut x = record x { task = after_cut x; spare = x.spare ++ cut; seen = tail }

-- The chain was cut below a horizon that was found before: the cells cut off, so many, are spare ones now.
pub record DidCutChain (v : View) (who count : ℕ) (w : View) : Type 0 where
  pub horizon : ℕ
  pub walks : View
  pub found : DidHorizon v who horizon walks
  pub done : DidCut walks who horizon count w
  pub view_is : w ≡ with_part who (tidied_part found.tail done.cut (part_of v who)) v
  pub known : IsKnown w

-- the claim with its own cell, which has the row that it overwrites
abbrev pub filled_claim : OwnCell → Claim → Claim
filled_claim own claim = record claim { row = claim.base; own = Some (record own { words = record own.words { row = claim.base } }); is_set = false }

-- the part of a seat whose newest claim has this cell and whose spare cells are these; the reader stamp of the version overwritten counts
-- for the predecessor stamp
abbrev pub filled_part : OwnCell → List OwnCell → ℕ → Part → Part
filled_part own spare readers x = record x {
  task = task.Rest;
  spare = spare;
  current = with_claim (last_claim x.current) (filled_claim own (claim_at x.current (last_claim x.current))) (with_pred readers x.current);
}

-- The newest claim got a cell, this one, into which the row overwritten was copied.
pub record DidFill (v : View) (who : ℕ) (filled : Filled) (w : View) : Type 0 where
  pub own : OwnCell
  pub spare : List OwnCell
  pub cell_is : own.cell ≡ filled.own
  pub small : filled.own < TABLE_CELLS
  pub row_is : filled.row ≡ newest_base (part_of v who)
  pub view_is : w ≡ with_part who (filled_part own spare filled.readers (part_of v who)) v
  pub known : IsKnown w

-- There was no cell, as so many were drawn, all that there are: the newest claim was given up.
pub record DidFindNoCell (v : View) (who oid head drawn : ℕ) (w : View) : Type 0 where
  pub refused : View
  pub none : DidRefuse v who drawn refused
  pub view_is : w ≡ with_part who (unclaimed_part (part_of v who)) v
  pub known : IsKnown w
  pub is_head : HasFreeHead known.core oid head

-- CLAIM. The part of a seat that has claimed an object: it has one more claim, this one.
abbrev pub claimed_part : Claim → List OwnCell → (tail readers : ℕ) → Part → Part
claimed_part claim spare tail readers x = record x {
  task = task.Rest;
  spare = spare;
  seen = tail;
  current = record (with_pred readers x.current) { writes = x.current.writes ++ claim ∷ [] };
}

-- An object was claimed: its entry was taken, its chain cut, and the claim has a cell of its own with the row, this one, of the version
-- that it overwrites, whose reader stamp counts for the predecessor stamp. All else of the transaction is as before.
pub record DidClaim (v : View) (who oid : ℕ) (row : List ℕ) (w : View) : Type 0 where
  pub head : ℕ
  pub taken : View
  pub took : DidTakeEntry v who oid head taken
  pub count : ℕ
  pub tidied : View
  pub cut : DidCutChain taken who count tidied
  pub filled : Filled
  pub fill : DidFill tidied who filled w
  pub row_is : row ≡ took.base
  pub view_is : w ≡ with_part who
      (claimed_part (filled_claim fill.own (new_claim took.version took.stamp took.base)) fill.spare cut.found.tail filled.readers (part_of v who)) v
  pub known : IsKnown w

-- the part of a seat whose claim of this object was given up after the cut: its transaction is as before, but for that
abbrev pub given_up_part : (oid tail : ℕ) → List OwnCell → Part → Part
given_up_part oid tail cut x = record x {
  task = task.Rest;
  spare = x.spare ++ cut;
  seen = tail;
  current = record x.current { given_up = x.current.given_up ++ oid ∷ [] };
}

-- The entry was taken and the chain cut, but there was no cell, as so many were drawn, all that there are: the claim was given up.
pub record DidLackCell (v : View) (who oid drawn : ℕ) (w : View) : Type 0 where
  pub head : ℕ
  pub taken : View
  pub took : DidTakeEntry v who oid head taken
  pub count : ℕ
  pub tidied : View
  pub cut : DidCutChain taken who count tidied
  pub none : DidFindNoCell tidied who oid head drawn w
  pub view_is : w ≡ with_part who (given_up_part oid cut.found.tail cut.done.cut (part_of v who)) v

-- the object was claimed, and then the exclusion window known so far was closed
pub record DidClaimExcluded (v : View) (who oid succ pred : ℕ) (w : View) : Type 0 where
  pub row : List ℕ
  pub claim : DidClaim v who oid row w
  pub window : IsClosed claim.known.core who succ pred

-- Why a claim is refused: its entry isn't taken, there is no cell, or the window is closed. There is no other cause.
abbrev pub DidNotClaim : View → ℕ → ℕ → RowStop → View → Type 0
DidNotClaim v who oid (stop.CellsFull drawn) w = DidLackCell v who oid drawn w
DidNotClaim v who oid (stop.Excluded succ pred) w = DidClaimExcluded v who oid succ pred w
DidNotClaim v who oid why w = DidNotTake v who oid why w

-- between two books so many cells were drawn
abbrev pub WasCells : Book → ℕ → Book → Type 0
WasCells b drawn e = WasSeen b (λ s. s.shared.cells_drawn ≡ drawn) e

-- a claim for which no cell was left tells how many were drawn
abbrev pub TellsCount : Book → RowStop → Book → Type 0
TellsCount b (stop.CellsFull drawn) e = WasCells b drawn e
TellsCount b why e = Unit {0}
