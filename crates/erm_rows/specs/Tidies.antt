-- What the cut of a claimed object's chain leaves of a pass's view, and its steps.
use Rattle.std.specs.Prelude.{◌≡◌, ℕ, ◌<◌, length}
use Rattle.erm_machine.specs.declared.event.Kind.TheVariants.{LoadEntry}
use Rattle.erm_machine.specs.declared.part.Part.{Part}
use Rattle.erm_machine.specs.declared.task.Task.TheVariants.{Rest}
use Rattle.erm_machine.specs.Core.{claim_at}
use Rattle.erm_machine.specs.Reading.{after_cut}
use Rattle.erm_machine.specs.Words.{owner_of}
use Rattle.erm_model.specs.RowTransaction.{Law}
use Rattle.erm_rule.specs.declared.view.Book.{Book}
use Rattle.erm_rule.specs.declared.view.View.{View}
use Rattle.erm_rule.specs.Hands.{IsKnown}
use Rattle.erm_rule.specs.Steps.{Booked}
use Rattle.erm_rule.specs.Views.{part_of, with_part}
use Rattle.erm_rows.specs.Claims.{tidied_part, DidCutChain}
use Rattle.erm_rows.specs.Took.{TookCutChain}

-- the transaction has claimed this object
abbrev pub HasClaim : Part → ℕ → Type 0
HasClaim x oid = (k : ℕ) × (k < length x.current.writes) × ((claim_at x.current k).version.oid ≡ oid)

-- The chain of an object that the seat owns was cut: so many cells became spare ones, and its transaction is as before.
pub record DidTidy (v : View) (who count : ℕ) (w : View) : Type 0 where
  pub entered : View
  pub cut : DidCutChain entered who count w
  pub view_is : w ≡ with_part who (tidied_part cut.found.tail cut.done.cut (part_of v who)) v
  pub rests : after_cut (part_of v who) ≡ Rest
  pub known : IsKnown w

-- The object's entry was loaded, which the seat owned, and then its chain was cut.
pub record TookTidy (law : Law) (who oid count : ℕ) (b e : Book) : Type 0 where
  pub entry : ℕ
  pub owner_is : owner_of entry ≡ who
  pub at : Book
  pub step : Booked law b who (LoadEntry oid) entry at
  pub cut : TookCutChain law who count at e
