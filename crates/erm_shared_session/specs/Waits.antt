-- What a settle that waits has met, and its steps.
use Rattle.std.specs.Prelude.{ℕ}
use Rattle.erm_model.specs.RowTransaction.{Law}
use Rattle.erm_precommit.specs.Took.{TookRingWait, TookStartedWait}
use Rattle.erm_rule.specs.declared.view.Book.{Book}
use Rattle.erm_rule.specs.Books.{WasFlushed, WasState}
use Rattle.erm_world.specs.declared.stops.Wait.{Wait}
use Rattle.erm_world.specs.declared.stops.Wait.TheVariants as wait

-- between two books the log was synced up to this place, or the session's state word was this
abbrev pub WasLookedAt : Book → Wait → Book → Type 0
WasLookedAt b (wait.Ring flushed) e = WasFlushed b flushed e
WasLookedAt b (wait.Seat seat seen) e = WasState b seat seen e

-- The place flushed was loaded, which leaves no room for the block; or the settle began, and went on up to the session for which it waits.
abbrev pub TookNoSettle : Law → ℕ → Wait → Book → Book → Type 0
TookNoSettle law who (wait.Ring flushed) b e = TookRingWait law who flushed b e
TookNoSettle law who (wait.Seat seat seen) b e = TookStartedWait law who seat seen b e
