-- How far a transaction has come, by the task of its seat.
use Rattle.std.specs.Prelude.{◌≡◌, ℕ}
use Rattle.erm_machine.specs.declared.task.Task.{Task}
use Rattle.erm_machine.specs.declared.task.Task.TheVariants as task

-- how many of its claims are over
abbrev pub passed : Task → ℕ
passed (task.Ends raised ended step cleared) = ended
passed _ = 0

-- how many words of its block are stored
abbrev pub stored : Task → ℕ
stored (task.Fills words) = words
stored _ = 0

-- no claim is over yet, and no word of the block stored
pub record IsFresh (t : Task) : Type 0 where
  pub claims : passed t ≡ 0
  pub words : stored t ≡ 0

-- an end that has come so far is that of the task, and its block isn't being stored
pub record IsEndOf (t : Task) (ended : ℕ) : Type 0 where
  pub claims : ended ≡ passed t
  pub words : stored t ≡ 0
