-- Rows of a world's log as of its pin.
use Rattle.std.specs.Prelude.{◌≡◌, ℕ, List}
use Rattle.erm_world.specs.Log.{IsRowAsPinned, IsRowAt, IsUnwaited, Log}

-- This is the row of an object as of the pin, and of a later log as of the same pin; nobody is waited for, and the log is as before.
pub record Reads {S : Type 0} (log : S → Log) (keeps : S → S → Type 0) (s : S) (oid : ℕ) (row : List ℕ) (t : S) : Type 0 where
  pub same : log t ≡ log s
  pub row_is : IsRowAt (log s) oid row
  pub clear : IsUnwaited (log s) oid
  pub lasts : (later : S) → keeps t later → IsRowAsPinned (log s) (log later) oid row
