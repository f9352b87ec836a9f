-- What the flush seat's calls leave of a pass with all seats, whose one state is the world's.
use Rattle.std.specs.Prelude.{◌≡◌, ℕ}
use Rattle.erm_core_turns.specs.Turns.{Flushes, log_of}
use Rattle.erm_model.specs.RowTransaction.{Law}
use Rattle.erm_rule.specs.declared.view.Book.{Book}
use Rattle.erm_rule.specs.Went.{core_of}
use Rattle.erm_world.specs.Log.{Log, gathered_to}
use Rattle.erm_table_world.specs.Stands.{StandsAt}

-- the log of so many sessions that the steps of a book lead to
abbrev pub book_log : ℕ → Book → Log
book_log sessions b = log_of sessions (core_of b)

-- the place behind all that the flush seat has gathered: it is the same in the log of any number of sessions
abbrev pub gathered_in : Book → ℕ
gathered_in b = gathered_to (book_log 0 b)

-- it stands between two calls of some number of sessions
abbrev pub StandsForSome : Law → Book → Type 0
StandsForSome law b = (sessions : ℕ) × StandsAt law sessions b

-- It stands between two calls again; the other seats are as they were, and what is shared but for the ring and the place flushed.
pub record Turned (law : Law) (sessions : ℕ) (b e : Book) : Type 0 where
  pub at : StandsAt law sessions e
  pub flushes : Flushes (core_of b) (core_of e)

-- so it is of as many sessions as it stands for
abbrev pub IsTurned : Law → Book → Book → Type 0
IsTurned law b e = (sessions : ℕ) → StandsAt law sessions b → Turned law sessions b e

-- and the log has become this
abbrev pub LogBecomes : Law → Book → (Log → Log) → Book → Type 0
LogBecomes law b change e = (sessions : ℕ) → StandsAt law sessions b → book_log sessions e ≡ change (book_log sessions b)
