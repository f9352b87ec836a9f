-- What the end of a snapshot leaves of a pass's view, and its one step.
use Rattle.std.specs.Prelude.{◌≡◌, ℕ}
use Rattle.erm_machine.specs.declared.attempt.Decision.TheVariants.{Abort}
use Rattle.erm_machine.specs.declared.event.Kind.TheVariants.{StoreBegin}
use Rattle.erm_model.specs.RowTransaction.{Law}
use Rattle.erm_rule.specs.declared.view.Book.{Book}
use Rattle.erm_rule.specs.declared.view.View.{View}
use Rattle.erm_rule.specs.Hands.{IsKnown}
use Rattle.erm_rule.specs.Steps.{Booked}
use Rattle.erm_rule.specs.Views.{part_of, with_part}
use Rattle.erm_ends.specs.Ends.{left_part}

-- The snapshot is over, as an aborted transaction; nothing else is changed, and its spare cells stay.
pub record DidEndSafe (v : View) (who : ℕ) (w : View) : Type 0 where
  pub view_is : w ≡ with_part who (left_part Abort (part_of v who)) v
  pub known : IsKnown w

-- its begin word was cleared
abbrev pub TookEndSafe : Law → ℕ → Book → Book → Type 0
TookEndSafe law who b e = (begin : ℕ) × Booked law b who (StoreBegin 0) begin e
