-- The steps of calls on entries, the last one first, with the words that they found.
use Rattle.std.specs.Prelude.{◌≡◌, ◌≢◌, ◌⊎◌, ℕ, true, false, [], ◌∷◌}
use Rattle.erm_machine.specs.declared.event.Kind.TheVariants.{LoadEntry, LoadState}
use Rattle.erm_machine.specs.Words.{is_clear, owner_of}
use Rattle.erm_model.specs.RowTransaction.{Law}
use Rattle.erm_rule.specs.declared.view.Book.{Book}
use Rattle.erm_rule.specs.Went.{Took}
use Rattle.erm_entries.specs.declared.answer.SeatWait.{SeatWait}

-- ENTER. The object's entry was loaded, and another seat owned it, whose state word was clear; and so the entry was loaded once more.
pub record TookAgain (law : Law) (who oid begin entry : ℕ) (b e : Book) : Type 0 where
  pub first : ℕ
  pub owner : ℕ
  pub state : ℕ
  pub owner_is : owner_of first ≡ owner
  pub clear : is_clear state begin ≡ true
  pub took : Took law who ((LoadEntry oid, entry) ∷ (LoadState owner begin, state) ∷ (LoadEntry oid, first) ∷ []) b e

-- The entry by which a head is reached: nobody owned it, or it was loaded once more.
abbrev pub TookReach : Law → (who oid begin entry : ℕ) → Book → Book → Type 0
TookReach law who oid begin entry b e = ((owner_of entry ≡ 0) × Took law who ((LoadEntry oid, entry) ∷ []) b e) ⊎ TookAgain law who oid begin entry b e

-- The entry's owner wasn't clear: its state word was loaded last.
pub record TookWait (law : Law) (who oid begin : ℕ) (wait : SeatWait) (b e : Book) : Type 0 where
  pub entry : ℕ
  pub owner_is : owner_of entry ≡ wait.seat
  pub unclear : is_clear wait.seen begin ≡ false
  pub took : Took law who ((LoadState wait.seat begin, wait.seen) ∷ (LoadEntry oid, entry) ∷ []) b e
