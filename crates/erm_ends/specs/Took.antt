-- The steps of the ends of transactions, one after another, and what these very steps freed, raised and installed.
use Rattle.std.specs.Prelude.{◌≡◌, ℕ, zero, suc, ◌≤◌, Bool, true, false, [], ◌∷◌, length, Some}
use Rattle.erm_cells.specs.Heads.{with_own_head}
use Rattle.erm_cells.specs.Took.{TookHeadWords}
use Rattle.erm_entries.specs.Ends.{HasFreeHead, newest_version}
use Rattle.erm_machine.specs.declared.attempt.Attempt.{Attempt}
use Rattle.erm_machine.specs.declared.attempt.Claim.{Claim}
use Rattle.erm_machine.specs.declared.event.Kind.TheVariants.{ClearReader, Install, RaiseReader, StoreBack, StoreBegin, StoreState}
use Rattle.erm_machine.specs.declared.version.VersionAt.{VersionAt}
use Rattle.erm_machine.specs.Back.{goes_back}
use Rattle.erm_machine.specs.Core.{Core, claim_at, own_words}
use Rattle.erm_machine.specs.Seat.{is_own, read_at}
use Rattle.erm_machine.specs.Words.{head_of, number_of, owner_of}
use Rattle.erm_model.specs.RowTransaction.{Law}
use Rattle.erm_readers.specs.Calls.{words_of}
use Rattle.erm_readers.specs.Took.{TookMarks}
use Rattle.erm_rule.specs.declared.view.Book.{Book}
use Rattle.erm_rule.specs.Books.{IsBookOf, WasSeen}
use Rattle.erm_rule.specs.Steps.{Booked}
use Rattle.erm_rule.specs.Views.{part_of}
use Rattle.erm_rule.specs.Went.{Took}

-- so many of these, one after another, from the first on
abbrev pub InTurn : (ℕ → Book → Book → Type 0) → ℕ → Book → Book → Type 0
InTurn P zero b e = e ≡ b
InTurn P (suc n) b e = (m : Book) × InTurn P n b m × P n m e

-- the entry of a version's object, which the seat's transaction of this number has claimed over that version
pub record IsOwnEntry (who number : ℕ) (u : VersionAt) (found : ℕ) : Type 0 where
  pub owner : owner_of found ≡ who
  pub number_is : number_of found ≡ number
  pub head : head_of found ≡ u.cell

-- RELEASE. This step, which is the last one to the second book, found the entry of the version's object claimed by the transaction, and
-- gave it its old head: in the state that the step left the version's cell was the entry, without owner, and the newest version's.
pub record WasFreed (law : Law) (who number : ℕ) (u : VersionAt) (b e : Book) : Type 0 where
  pub found : ℕ
  pub entry : IsOwnEntry who number u found
  pub step : Booked law b who (Install u.oid u.cell) found e
  pub freed : WasSeen b (λ s. HasFreeHead s u.oid u.cell) e

-- all claims of the transaction were released, in order
abbrev pub TookReleases : Law → ℕ → Attempt → Book → Book → Type 0
TookReleases law who t b e = InTurn (λ k m n. WasFreed law who t.number (claim_at t k).version m n) (length t.writes) b e

-- RAISE. This step, which is the last one to the second book, raised the version's reader stamp to this stamp: it is at least this stamp
-- in whatever state the second book is one of.
pub record WasRaised (law : Law) (who : ℕ) (u : VersionAt) (stamp : ℕ) (b e : Book) : Type 0 where
  pub found : ℕ
  pub step : Booked law b who (RaiseReader u stamp) found e
  pub raised : (c : Core) → IsBookOf e c → stamp ≤ (words_of c u).reader_stamp

-- the reader stamps of all versions that the transaction has read were raised to its own stamp, in order
abbrev pub TookRaises : Law → ℕ → Attempt → Book → Book → Type 0
TookRaises law who t b e = InTurn (λ k m n. WasRaised law who (read_at t k).version t.stamp m n) (length t.reads) b e

-- the version has the transaction's stamp for its overwriter's, and its successor stamp
pub record IsMarked (t : Attempt) (u : VersionAt) (c : Core) : Type 0 where
  pub overwriter : (words_of c u).overwriter ≡ t.stamp
  pub succ : (words_of c u).overwriter_succ ≡ t.succ

-- the claim's own cell is the entry of its object, without owner, and the newest version's, with the claim's row, and the other words of a
-- new version of the transaction
pub record IsClaimInstalled (t : Attempt) (w : Claim) (own : ℕ) (c : Core) : Type 0 where
  pub is_head : HasFreeHead c w.version.oid own
  pub words : (newest_version c w.version.oid).words ≡ own_words (with_own_head t w w.own)

-- INSTALL. The words before the row were stored into the claim's own cell, and then the two marks into the version overwritten: it has
-- them in whatever state that book is one of. This step, which is the last one to the second book, found the entry of the object claimed by
-- the transaction, and gave it the own cell for its head: in the state that the step left the claim was installed.
pub record WasInstalled (law : Law) (who : ℕ) (t : Attempt) (w : Claim) (b e : Book) : Type 0 where
  pub own : ℕ
  pub own_is : is_own own w.own ≡ true
  pub stored : Book
  pub stores : TookHeadWords law who own t.stamp (Some w.version.cell) b stored
  pub marked : Book
  pub marks : TookMarks law who w.version t.stamp t.succ stored marked
  pub is_marked : (c : Core) → IsBookOf marked c → IsMarked t w.version c
  pub found : ℕ
  pub entry : IsOwnEntry who t.number w.version found
  pub step : Booked law marked who (Install w.version.oid own) found e
  pub installed : WasSeen marked (IsClaimInstalled t w own) e

-- all claims of the transaction were installed, in order
abbrev pub TookInstalls : Law → ℕ → Attempt → Book → Book → Type 0
TookInstalls law who t b e = InTurn (λ k m n. WasInstalled law who t (claim_at t k) m n) (length t.writes) b e

-- the own back word became this stamp, where the test says so
abbrev pub TookBackWhere : Law → (who stamp : ℕ) → Bool → Book → Book → Type 0
TookBackWhere law who stamp true b e = (found : ℕ) × Booked law b who (StoreBack stamp) found e
TookBackWhere law who stamp false b e = e ≡ b

-- BACK. Where the commit goes back its stamp was stored in the own back word.
abbrev pub TookBack : Law → ℕ → Attempt → Book → Book → Type 0
TookBack law who t b e = TookBackWhere law who t.stamp (goes_back t) b e

-- CLEAR. The own bit was cleared at each version that the transaction has read, in order.
abbrev pub TookBitClears : Law → ℕ → Attempt → Book → Book → Type 0
TookBitClears law who t b e = InTurn (λ k m n. (found : ℕ) × Booked law m who (ClearReader (read_at t k).version) found n) (length t.reads) b e

-- LEAVE. The begin word was cleared, and then the state word.
abbrev pub TookLeave : Law → ℕ → Book → Book → Type 0
TookLeave law who b e = (begin : ℕ) × (state : ℕ) × Took law who ((StoreState 0, state) ∷ (StoreBegin 0, begin) ∷ []) b e

-- ABORT. The claims of the seat's transaction were released, its bits cleared, and then its begin word.
pub record TookAbort (law : Law) (who : ℕ) (b e : Book) : Type 0 where
  pub released : Book
  pub releases : TookReleases law who (part_of b.view who).current b released
  pub cleared : Book
  pub clears : TookBitClears law who (part_of b.view who).current released cleared
  pub begin : ℕ
  pub leaves : Booked law cleared who (StoreBegin 0) begin e

-- END of a transaction that was excluded: its claims were released, its bits cleared, and then it was left.
pub record TookSkip (law : Law) (who : ℕ) (b e : Book) : Type 0 where
  pub released : Book
  pub releases : TookReleases law who (part_of b.view who).current b released
  pub cleared : Book
  pub clears : TookBitClears law who (part_of b.view who).current released cleared
  pub leaves : TookLeave law who cleared e

-- END of a commit: the reader stamps of what it read were raised, its claims installed, its stamp stored in the back word where it goes
-- back, its bits cleared, and then it was left.
pub record TookCommit (law : Law) (who : ℕ) (b e : Book) : Type 0 where
  pub raised : Book
  pub raises : TookRaises law who (part_of b.view who).current b raised
  pub installed : Book
  pub installs : TookInstalls law who (part_of b.view who).current raised installed
  pub backed : Book
  pub backs : TookBack law who (part_of b.view who).current installed backed
  pub cleared : Book
  pub clears : TookBitClears law who (part_of b.view who).current backed cleared
  pub leaves : TookLeave law who cleared e
