-- The steps of a settle, the last one first, with the words that they found.
use Rattle.std.specs.Int.{bit_at, trailing_zeros, w64}
use Rattle.std.specs.Prelude.{◌≡◌, ℕ, true, false, [], ◌∷◌}
use Rattle.erm_machine.specs.declared.event.Kind.TheVariants.{LoadFlushed, LoadState}
use Rattle.erm_machine.specs.declared.task.Task.{Task}
use Rattle.erm_machine.specs.declared.task.Task.TheVariants as task
use Rattle.erm_machine.specs.Settling.{has_room}
use Rattle.erm_machine.specs.Words.{is_clear}
use Rattle.erm_model.specs.RowTransaction.{Law}
use Rattle.erm_rule.specs.declared.view.Book.{Book}
use Rattle.erm_rule.specs.Steps.{Booked}
use Rattle.erm_rule.specs.Views.{part_of}
use Rattle.erm_rule.specs.Went.{Took, Went, IsLoadStep}
use Rattle.erm_precommit.specs.declared.answer.Settled.{Settled}
use Rattle.erm_precommit.specs.declared.answer.Settled.TheVariants as settled
use Rattle.erm_precommit.specs.declared.answer.Wait.{Wait}
use Rattle.erm_precommit.specs.declared.answer.Wait.TheVariants as wait

-- Whom a settle is to look at next: the owner of a version read, or the least of the seats that are left of a version's readers.
abbrev pub LooksAt : Task → ℕ → Type 0
LooksAt (task.ReadOwned place owner) seat = seat ≡ owner
LooksAt (task.ReadersLeft place bits) seat = (seat ≡ trailing_zeros w64 bits) × (bit_at bits seat ≡ 1)
LooksAt t seat = ⊥

-- After some loads the settle was to look at this seat, and the last step was the load of that seat's state word, which wasn't clear for
-- the own stamp.
pub record TookSeatWait (law : Law) (who seat seen : ℕ) (b e : Book) : Type 0 where
  pub at : Book
  pub loads : Went law who IsLoadStep b at
  pub looks : LooksAt (part_of at.view who).task seat
  pub unclear : is_clear seen (part_of at.view who).current.stamp ≡ false
  pub step : Booked law at who (LoadState seat (part_of at.view who).current.stamp) seen e

-- The place flushed was loaded, which leaves no room in the ring for the block.
abbrev pub TookRingWait : Law → (who flushed : ℕ) → Book → Book → Type 0
TookRingWait law who flushed b e = (has_room flushed (part_of b.view who).current ≡ false) × Took law who ((LoadFlushed, flushed) ∷ []) b e

-- The place flushed was loaded, which leaves room: so a settle begins, or begins anew.
pub record TookStart (law : Law) (who : ℕ) (b e : Book) : Type 0 where
  pub flushed : ℕ
  pub room : has_room flushed (part_of b.view who).current ≡ true
  pub step : Booked law b who LoadFlushed flushed e

-- A settle began, and went on up to its wait.
pub record TookStartedWait (law : Law) (who seat seen : ℕ) (b e : Book) : Type 0 where
  pub first : Book
  pub start : TookStart law who b first
  pub waits : TookSeatWait law who seat seen first e

abbrev pub TookWait : Law → ℕ → Wait → Book → Book → Type 0
TookWait law who (wait.Ring flushed) b e = TookRingWait law who flushed b e
TookWait law who (wait.Seat seat seen) b e = TookStartedWait law who seat seen b e

-- A settle began, and by loads passed all versions.
pub record TookReady (law : Law) (who : ℕ) (b e : Book) : Type 0 where
  pub first : Book
  pub start : TookStart law who b first
  pub loads : Went law who IsLoadStep first e

abbrev pub TookSettle : Law → ℕ → Settled → Book → Book → Type 0
TookSettle law who (settled.Ready succ pred) b e = TookReady law who b e
TookSettle law who (settled.Wait reason) b e = TookWait law who reason b e
