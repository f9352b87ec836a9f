-- The steps by which a row as of the pin is read.
use Rattle.std.specs.Prelude.{◌≡◌, ℕ, List, Option}
use Rattle.erm_entries.specs.Took.{TookReach}
use Rattle.erm_machine.specs.declared.limits.TheConstants.{FLUSH_SEAT}
use Rattle.erm_machine.specs.declared.task.Task.TheVariants as task
use Rattle.erm_machine.specs.declared.version.VersionAt.{VersionAt}
use Rattle.erm_model.specs.RowTransaction.{Law}
use Rattle.erm_rule.specs.declared.view.Book.{Book}
use Rattle.erm_rule.specs.Views.{part_of}
use Rattle.erm_rule.specs.Went.{IsLoadStep, Went}
use Rattle.erm_pin.specs.Rows.{IsRowOf}

-- ROW AT. The head of the object's chain was reached by its entry, whose owner, if it had one, was clear for the pin; and then, by loads
-- alone, a version of the object was found, and its row was loaded.
pub record TookRow (law : Law) (oid place : ℕ) (row : List ℕ) (b e : Book) : Type 0 where
  pub entered : Book
  pub entry : ℕ
  pub reach : TookReach law FLUSH_SEAT oid place entry b entered
  pub loads : Went law FLUSH_SEAT IsLoadStep entered e
  pub version : VersionAt
  pub stamp : ℕ
  pub head : Option ℕ
  pub found : (part_of e.view FLUSH_SEAT).task ≡ task.Found version stamp head
  pub oid_is : version.oid ≡ oid
  pub row_is : IsRowOf e version row
