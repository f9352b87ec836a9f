-- What a report starts from, and how its lines were run.
use Rattle.std.specs.Prelude.{ℕ, ◌==◌, Bool, true}
use Rattle.erm_model.specs.Database.{Database}

-- how the lines of sessions are run: one line after another, or each session's lines in order, beside the others'
pub data Mode : Type 0 where
  InTurn : Mode
  AtOnce : Mode

-- what a run starts from: the map, where the opening's block stands in the log, the run, how many objects have a row that isn't zero,
-- and the number of the first object that is made
pub record Opening : Type 0 where
  pub map : Database
  pub stamp : ℕ
  pub run : ℕ
  pub rows : ℕ
  pub first : ℕ

-- Whether of two lines of these sessions the one is before the other in time: where lines are run in turn each earlier one is, else
-- those of one session.
abbrev pub is_before : Mode → ℕ → ℕ → Bool
is_before InTurn a b = true
is_before AtOnce a b = a == b
