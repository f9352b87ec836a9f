-- A stamp that is passed in a state of the machine, and what a reader there finds.
use Rattle.std.specs.Prelude.{ℕ, List}
use Rattle.erm_core_safe.specs.Passed.{ArePassed}
use Rattle.erm_machine.specs.Core.{Core}
use Rattle.erm_machine.specs.Decided.{history_of}
use Rattle.erm_machine.specs.Lawful.{opening_rows}
use Rattle.erm_model.specs.History.{IsNewestBelow}

-- the stamp is passed, and below it this is the newest row of the object
pub record HasRowBelow (c : Core) (bound oid : ℕ) (row : List ℕ) : Type 0 where
  pub passed : ArePassed bound c
  pub stamp : ℕ
  pub newest : IsNewestBelow (history_of c.seats) (opening_rows c.shared) oid bound stamp row
